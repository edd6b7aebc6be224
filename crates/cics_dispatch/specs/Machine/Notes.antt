-- What is known of the waiting commands: the blocker of each, and the deadline of its task.
use Rattle.std.specs.Prelude.{◌≡◌, ◌⊎◌, ℕ, suc, length, Bool, true, false, Option, Some, None, take, List, [], ◌∷◌, All, slice_get}
use Rattle.std.specs.List.{list_any}
use Rattle.cics_names.specs.Keyed.{Bytes}
use Rattle.cics_names.specs.declared.commands.Verb.{Verb}
use Rattle.cics_history.specs.declared.resources.Resource.{Resource}
use Rattle.cics_history.specs.State.{OpeningState}
use Rattle.cics_history.specs.Holding.{uses_of}
use Rattle.cics_history.specs.declared.ops.Op.{Op}
use Rattle.cics_dispatch.specs.declared.machine.findings.WaitLook.{WaitLook}
use Rattle.cics_dispatch.specs.declared.machine.findings.WaitLook.TheVariants.{MayGoOn, IsBlocked as Blocked}
use Rattle.cics_dispatch.specs.declared.notes.groups.WaitNote.{WaitNote}
use Rattle.cics_dispatch.specs.Machine.Machine.{Machine, Task, Suspended, task_at}
use Rattle.cics_dispatch.specs.Machine.Waking.{may_go_on, first_free}
use Rattle.cics_dispatch.specs.Machine.Settled.{reads_queue, needed_by, IsBlocked, IsInTime}
use Rattle.cics_dispatch.specs.Machine.Deadlines.{AreDue}
use Rattle.cics_dispatch.specs.Notes.Notes.{NotesValue, of_group, blocker_in, count, AreClosed}

-- the command uses the resource of a wait group and nothing else, and isn't READQ TD
pub record IsUse (o : OpeningState) (rs : List Resource) (w : Suspended) (g : ℕ) : Type 0 where
  pub resource : Resource
  pub there : slice_get rs g ≡ Some resource
  pub needed : needed_by o w.command.verb w.op ≡ resource ∷ []
  pub no_reader : reads_queue w.op ≡ false

-- a note is right: it has the label of the command's task; if it has a blocker, that blocks the
-- command; if it is in a wait group, the command uses the group's resource and nothing else
pub record IsNoted (m : Machine) (rs : List Resource) (bs : List (Option ℕ)) (n : WaitNote) (w : Suspended) : Type 0 where
  pub label : n.label ≡ w.label
  pub blocked : (u : ℕ) → blocker_in bs n ≡ Some u → IsBlocked m u w
  pub use_of : (g : ℕ) → n.group ≡ Some g → IsUse m.units.opening rs w g

-- the notes are of the earliest of these commands, in order, and each is right
abbrev pub AreNoted : Machine → List Resource → List (Option ℕ) → List (Option WaitNote) → List Suspended → Type 0
AreNoted m rs bs [] ws = Unit {0}
AreNoted m rs bs (None ∷ ns) ws = AreNoted m rs bs ns ws
AreNoted m rs bs (Some n ∷ ns) [] = ⊥
AreNoted m rs bs (Some n ∷ ns) (w ∷ ws) = IsNoted m rs bs n w × AreNoted m rs bs ns ws

-- the notes are of a region's earliest waiting commands, in order; each is right and has the
-- deadline of its command
pub record AreNotedNow (m : Machine) (v : NotesValue) : Type 0 where
  pub noted : AreNoted m v.resources v.blockers v.rows m.waiting
  pub due : AreDue m.tasks v.rows m.waiting v.deadlines

-- each waiting command of a region has a note, and none must be looked at
pub record AreSettled (m : Machine) (v : NotesValue) : Type 0 where
  pub closed : AreClosed v.blockers v.rows
  pub all : count v.rows ≡ length m.waiting

-- ---- A look at a waiting command

-- something holds of the waiting command of a label's task
abbrev pub OfWait : List Suspended → Bytes → (Suspended → Type 0) → Type 0
OfWait ws label P = (i : ℕ) (w : Suspended) → slice_get ws i ≡ Some w → w.label ≡ label → P w

-- what a look finds is true
abbrev pub IsFound : Machine → Suspended → WaitLook → Type 0
IsFound m w MayGoOn = may_go_on m w (task_at m.tasks w.label) ≡ true
IsFound m w (Blocked u) = IsBlocked m u w

-- an updating command uses this resource and nothing else, if it uses any, and isn't READQ TD
pub record IsOnlyUse (r : Resource) (op : Op) : Type 0 where
  pub only : (o : OpeningState) (p : Resource → Bool) →
      list_any p (uses_of o op) ≡ true → uses_of o op ≡ r ∷ []
  pub no_reader : reads_queue (Some op) ≡ false

-- a waiting command uses this resource and nothing else, if it uses any, and isn't READQ TD
pub record IsOnlyNeed (r : Resource) (verb : Verb) (op : Option Op) : Type 0 where
  pub only : (o : OpeningState) (p : Resource → Bool) →
      list_any p (needed_by o verb op) ≡ true → needed_by o verb op ≡ r ∷ []
  pub no_reader : reads_queue op ≡ false

-- no command of the wait group is of the task whose unit this is
abbrev pub OwnerIsElsewhere : Machine → List Resource → ℕ → ℕ → Type 0
OwnerIsElsewhere m rs g u = (i : ℕ) (t : Task) → slice_get m.tasks i ≡ Some t → t.unit ≡ Some u →
    OfWait m.waiting t.label (λ w. IsUse m.units.opening rs w g → ⊥)

-- a unit may be noted as a wait group's blocker: it is noted already, or no command of the group is
-- of its task
abbrev pub MayClose : Machine → List Resource → List (Option ℕ) → ℕ → ℕ → Type 0
MayClose m rs bs g u = (of_group bs g ≡ Some u) ⊎ OwnerIsElsewhere m rs g u

-- the first of these commands that may resume is the one of a label's task
pub record IsFirstFreeOf (m : Machine) (ws : List Suspended) (label : Bytes) : Type 0 where
  pub wait : Suspended
  pub first : first_free m ws ≡ Some wait
  pub own : wait.label ≡ label

-- the first of all waiting commands that may resume is the one of a label's task
abbrev pub IsFirstFree : Machine → Bytes → Type 0
IsFirstFree m label = IsFirstFreeOf m m.waiting label

-- the first command that may resume has its note at an index
pub record IsFreeAt (m : Machine) (v : NotesValue) (at : ℕ) (label : Bytes) : Type 0 where
  pub note : WaitNote
  pub there : slice_get v.rows at ≡ Some (Some note)
  pub own : note.label ≡ label
  pub first : IsFirstFree m label

-- the waiting command of a note uses the resource of the wait group g and nothing else; this may
-- rest on the same of the note's own group, if it has one
abbrev pub UseOf : Machine → List Resource → WaitNote → ℕ → Type 0
UseOf m rs n g = (w : Suspended) (i : ℕ) → slice_get m.waiting i ≡ Some w → w.label ≡ n.label →
    ((h : ℕ) → n.group ≡ Some h → IsUse m.units.opening rs w h) → IsUse m.units.opening rs w g

-- what a look at the note at an index leaves: right notes, as many as before; on success none up to
-- the index must be looked at
pub record IsLooked (m : Machine) (old new : NotesValue) (at : ℕ) (done : Bool) : Type 0 where
  pub noted : AreNotedNow m new
  pub closed : done ≡ true → AreClosed new.blockers (take (suc at) new.rows)
  pub count_is : count new.rows ≡ count old.rows
  pub long : length new.rows ≡ length old.rows

-- ---- What is remembered

-- what is remembered of the last looks: the notes are right; if is_settled, each waiting command
-- has one and none must be looked at; if is_in_time, no task has waited too long
pub record IsRemembered (m : Machine) (v : NotesValue) (is_settled is_in_time : Bool) : Type 0 where
  pub noted : AreNotedNow m v
  pub settled : is_settled ≡ true → AreSettled m v
  pub in_time : is_in_time ≡ true → All (IsInTime m) m.waiting
