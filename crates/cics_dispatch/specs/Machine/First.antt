-- The earliest waiting commands: the first that may resume, and the first whose task has waited too
-- long.
use Rattle.std.specs.Prelude.{◌≡◌, Bool, true, false, List, ◌∷◌, ◌++◌}
use Rattle.std.specs.List.{list_any}
use Rattle.cics_names.specs.Keyed.{Bytes}
use Rattle.cics_dispatch.specs.Machine.Machine.{Machine, Suspended, task_at}
use Rattle.cics_dispatch.specs.Machine.Waking.{may_go_on, is_late}

-- the command of a label's task is the first of these for which a test holds
pub record IsFirstFor (holds : Suspended → Bool) (waits : List Suspended) (label : Bytes) : Type 0 where
  pub before : List Suspended
  pub wait : Suspended
  pub behind : List Suspended
  pub order : waits ≡ before ++ wait ∷ behind
  pub own : wait.label ≡ label
  pub this : holds wait ≡ true
  pub none_before : list_any holds before ≡ false

-- the command of a label's task is the first that may resume
abbrev pub IsFirstToGoOn : Machine → Bytes → Type 0
IsFirstToGoOn m label = IsFirstFor (λ w. may_go_on m w (task_at m.tasks w.label)) m.waiting label

-- the command of a label's task is the first whose task has waited too long
abbrev pub IsFirstTooLate : Machine → Bytes → Type 0
IsFirstTooLate m label = IsFirstFor (λ w. is_late m w (task_at m.tasks w.label)) m.waiting label
