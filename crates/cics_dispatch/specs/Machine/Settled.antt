-- Waiting commands that were looked at: the blocker of each, and whether its task has waited too
-- long.
use Rattle.std.specs.Prelude.{◌≡◌, ℕ, ◌==◌, Bool, true, false, not, Option, Some, None, unwrap_or, List, [], ◌∷◌, take}
use Rattle.std.specs.List.{list_any}
use Rattle.std.proofs.Common.{◌⊎◌}
use Rattle.cics_names.specs.Keyed.{Bytes, value_at}
use Rattle.cics_history.specs.Resources.{bytes_of}
use Rattle.cics_history.specs.declared.resources.Resource.{Resource}
use Rattle.cics_history.specs.declared.resources.Resource.TheVariants.{User}
use Rattle.cics_history.specs.State.{OpeningState, file_recoverable, queue_logical, UnitsState}
use Rattle.cics_history.specs.Headline.{outcome_of, is_backed_out}
use Rattle.cics_history.specs.Holding.{uses_of, held_by, conflicts, is_other}
use Rattle.cics_history.specs.Cells.{Td, Writing}
use Rattle.cics_history.specs.Isolation.{Outcomes, Extends, store_by, used}
use Rattle.cics_history.specs.Events.{is_live}
use Rattle.cics_history.specs.declared.ops.Op.{Op}
use Rattle.cics_history.specs.declared.ops.Op.TheVariants.{TdRead}
use Rattle.cics_dispatch.specs.Machine.Machine.{Machine, Task, Suspended, task_at}
use Rattle.cics_dispatch.specs.Machine.Waking.{is_late}
use Rattle.cics_names.specs.declared.commands.Verb.{Verb}
use Rattle.cics_names.specs.declared.commands.Verb.TheVariants.{Read, Write, Rewrite, Delete, Unlock, StartBr, ResetBr, ReadNext, ReadPrev, EndBr, WriteqTs, ReadqTs, DeleteqTs, WriteqTd, ReadqTd, DeleteqTd, Enq}
use Rattle.cics_dispatch.specs.declared.machine.outcomes.Outcome.{Outcome}
use Rattle.cics_dispatch.specs.declared.machine.outcomes.Outcome.TheVariants.{Replied, Waiting, Abended, Ended}

-- a unit is one of these
abbrev pub is_among : List ℕ → ℕ → Bool
is_among units u = list_any (λ v. u == v) units

-- READQ TD, which a unit may block that owns nothing of what it uses: a writer of its queue
abbrev pub reads_queue : Option Op → Bool
reads_queue (Some (TdRead q)) = true
reads_queue o = false

-- what a waiting command uses: its updating command, or as an ENQ its value
abbrev pub needed_by : OpeningState → Verb → Option Op → List Resource
needed_by o verb (Some op) = uses_of o op
needed_by o (Enq value n nosuspend) None = User (bytes_of (take n value)) ∷ []
needed_by o verb None = []

-- a unit owns a resource that conflicts with one of these
abbrev pub holds_one : UnitsState → ℕ → List Resource → Bool
holds_one s u rs = list_any (λ r. list_any (conflicts r) (held_by s u)) rs

-- a unit owns a resource that conflicts with what a command uses
abbrev pub holds_back : UnitsState → ℕ → Verb → Option Op → Bool
holds_back s u verb op = holds_one s u (needed_by s.opening verb op)

-- the records of a transient data queue, if the open units end so
abbrev pub records_by : UnitsState → Outcomes → Bytes → List Bytes
records_by s fin q = unwrap_or (value_at q (store_by s.opening fin s.trace).td) []

-- a task's own unit, if it has one, isn't backed out if the open units end so
abbrev pub is_kept_in : Outcomes → Option ℕ → Bool
is_kept_in fin None = true
is_kept_in fin (Some u) = not (is_backed_out (fin u))

-- a unit has written to a LOGICAL queue; if it is backed out and the task's own unit isn't, the
-- queue has no record, however the other open units end
pub record IsStarved (s : UnitsState) (own : Option ℕ) (u : ℕ) (q : Bytes) : Type 0 where
  pub logical : queue_logical s.opening q ≡ true
  pub writes : used s.trace u (Td q) Writing ≡ true
  pub nothing : (fin : Outcomes) → Extends (outcome_of s.outcomes) fin → is_backed_out (fin u) ≡ true →
      is_kept_in fin own ≡ true → records_by s fin q ≡ []

-- a READQ TD finds nothing as long as the unit isn't committed
abbrev pub Starves : UnitsState → Option ℕ → ℕ → Option Op → Type 0
Starves s own u (Some (TdRead q)) = IsStarved s own u q
Starves s own u o = ⊥

-- a unit keeps a command waiting: it owns a conflicting resource, or is the writer of a queue that
-- has nothing to read
abbrev pub KeepsWaiting : UnitsState → Option ℕ → ℕ → Verb → Option Op → Type 0
KeepsWaiting s own u verb op = (holds_back s u verb op ≡ true) ⊎ Starves s own u op

-- a unit blocks a waiting command: it is open, isn't the unit of the command's task, and keeps it
-- waiting
pub record IsBlocked (m : Machine) (u : ℕ) (w : Suspended) : Type 0 where
  pub task : Task
  pub of_task : task_at m.tasks w.label ≡ Some task
  pub is_open : is_live m.units u ≡ true
  pub other : is_other task.unit u ≡ true
  pub keeps : KeepsWaiting m.units task.unit u w.command.verb w.op

-- a command releases nothing of its unit, unless the task is abended: it ends no unit of work,
-- enqueue, or update read of an unrecoverable file
abbrev pub is_keeping : OpeningState → Verb → Bool
is_keeping o (Read f key given n generic gteq update) = true
is_keeping o (Write f key given from n) = true
is_keeping o (Rewrite f from n) = file_recoverable o f
is_keeping o (Delete f key given generic) = file_recoverable o f
is_keeping o (Unlock f) = file_recoverable o f
is_keeping o (StartBr f key given generic equal) = true
is_keeping o (ResetBr f key given generic equal) = true
is_keeping o (ReadNext f n) = true
is_keeping o (ReadPrev f n) = true
is_keeping o (EndBr f) = true
is_keeping o (WriteqTs q from n item) = true
is_keeping o (ReadqTs q n item) = true
is_keeping o (DeleteqTs q) = true
is_keeping o (WriteqTd q from n) = true
is_keeping o (ReadqTd q n nosuspend) = true
is_keeping o (DeleteqTd q) = true
is_keeping o (Enq value n nosuspend) = true
is_keeping o _ = false

-- the task was told a reply, or waits: it hasn't ended
abbrev pub goes_on : Outcome → Bool
goes_on (Replied r) = true
goes_on (Waiting holder) = true
goes_on (Abended code reply) = false
goes_on Ended = false

-- the task of a waiting command hasn't waited too long
abbrev pub IsInTime : Machine → Suspended → Type 0
IsInTime m w = is_late m w (task_at m.tasks w.label) ≡ false
