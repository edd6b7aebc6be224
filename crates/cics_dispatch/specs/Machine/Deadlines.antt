-- The deadline of a waiting command: the last clock at which its task hasn't waited too long. The
-- notes have it at the index of the command's note.
use Rattle.std.specs.Prelude.{◌≡◌, ℕ, ◌+◌, ◌-◌, min, if◌then◌else◌, nat_lt, Option, Some, None, List, [], ◌∷◌}
use Rattle.cics_dispatch.specs.declared.notes.groups.WaitNote.{WaitNote}
use Rattle.cics_dispatch.specs.Machine.Machine.{Task, Suspended, task_at}
use Rattle.cics_dispatch.specs.Notes.Notes.{never}

-- the last clock at which a task that began to wait then hasn't waited too long
abbrev pub deadline_of : Task → ℕ → ℕ
deadline_of t since = if nat_lt 0 t.dtimout then min (since + (t.dtimout - 1)) never else never

-- a note is of the task of a waiting command, and its key is the command's deadline
pub record IsDue (ts : List Task) (n : WaitNote) (w : Suspended) (key : ℕ) : Type 0 where
  pub task : Task
  pub label : n.label ≡ w.label
  pub of_task : task_at ts w.label ≡ Some task
  pub deadline : key ≡ deadline_of task w.since

-- the notes are of the earliest of these commands, in order, and the index of each has its
-- deadline; an index without a note has never
abbrev pub AreDue : List Task → List (Option WaitNote) → List Suspended → List ℕ → Type 0
AreDue ts [] ws [] = Unit {0}
AreDue ts (None ∷ ns) ws (k ∷ ks) = (k ≡ never) × AreDue ts ns ws ks
AreDue ts (Some n ∷ ns) (w ∷ ws) (k ∷ ks) = IsDue ts n w k × AreDue ts ns ws ks
AreDue ts ns ws ks = ⊥
