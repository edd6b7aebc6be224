-- What is known of the waiting commands: the blocker of each, and the deadline of its task.
use Rattle.std.specs.Prelude.{◌≡◌, ◌<◌, ◌≤◌, ◌-◌, ◌^◌, ◌==◌, ℕ, suc, length, Bool, true, false, if◌then◌else◌, Option, Some, None, is_some, unwrap_or, take, List, [], ◌∷◌, slice_get, slice_set}
use Rattle.cics_names.specs.Keyed.{Bytes}
use Rattle.cics_history.specs.declared.resources.Resource.{Resource}
use Rattle.cics_dispatch.specs.declared.notes.groups.WaitNote.{WaitNote}

-- rows has the notes of the earliest waiting commands, in order, None for one that waits no more;
-- resources and blockers have for each wait group the one resource that its commands use, and its
-- blocker, if known; deadlines has the deadline at each index
pub record NotesValue : Type 0 where
  pub rows : List (Option WaitNote)
  pub resources : List Resource
  pub blockers : List (Option ℕ)
  pub deadlines : List ℕ

-- an optional unit is the one of this number
abbrev pub is_unit : Option ℕ → ℕ → Bool
is_unit None u = false
is_unit (Some v) u = v == u

-- the blocker of a wait group, if it is known
abbrev pub of_group : List (Option ℕ) → ℕ → Option ℕ
of_group bs g = unwrap_or (slice_get bs g) None

-- the known blocker of a command: its wait group's, or its own if it is in none
abbrev pub blocker_by : List (Option ℕ) → Option ℕ → Option ℕ → Option ℕ
blocker_by bs None own = own
blocker_by bs (Some g) own = of_group bs g

-- the known blocker of a note's command
abbrev pub blocker_in : List (Option ℕ) → WaitNote → Option ℕ
blocker_in bs n = blocker_by bs n.group n.blocker

-- what is known of a blocker once a unit, if one is given, may have released something
abbrev pub given_up : Option ℕ → Option ℕ → Option ℕ
given_up None b = b
given_up (Some u) b = if is_unit b u then None else b

-- a note once a unit, if one is given, may have released something
abbrev pub given_note : Option ℕ → WaitNote → WaitNote
given_note unit n = record n { blocker = given_up unit n.blocker }

-- the note at an index, if there is one, once a unit may have released something
abbrev pub forgotten : Option ℕ → Option WaitNote → Option WaitNote
forgotten unit None = None
forgotten unit (Some n) = Some (given_note unit n)

-- the note of a command that has begun to wait
abbrev pub new_note : Bytes → WaitNote
new_note label = record { label = label; group = None; blocker = None }

-- a note of a command with a blocker, in no wait group
abbrev pub alone : ℕ → WaitNote → WaitNote
alone u n = record { label = n.label; group = None; blocker = Some u }

-- a note of a command in a wait group
abbrev pub in_group : ℕ → WaitNote → WaitNote
in_group g n = record { label = n.label; group = Some g; blocker = None }

-- how many commands have a note
abbrev pub count : List (Option WaitNote) → ℕ
count [] = 0
count (None ∷ ns) = count ns
count (Some n ∷ ns) = suc (count ns)

-- no command must be looked at
abbrev pub AreClosed : List (Option ℕ) → List (Option WaitNote) → Type 0
AreClosed bs [] = Unit {0}
AreClosed bs (None ∷ ns) = AreClosed bs ns
AreClosed bs (Some n ∷ ns) = (is_some (blocker_in bs n) ≡ true) × AreClosed bs ns

-- the note at an index is the first whose command must be looked at
pub record IsOpenAt (rows : List (Option WaitNote)) (bs : List (Option ℕ)) (at : ℕ) (n : WaitNote) : Type 0 where
  pub there : slice_get rows at ≡ Some (Some n)
  pub open_yet : blocker_in bs n ≡ None
  pub before : AreClosed bs (take at rows)

-- the first command that must be looked at is that of the note at an index
pub record IsFirstOpen (v : NotesValue) (at : ℕ) (n : WaitNote) : Type 0 where
  pub there : slice_get v.rows at ≡ Some (Some n)
  pub open_yet : blocker_in v.blockers n ≡ None
  pub before : AreClosed v.blockers (take at v.rows)
  pub group : (g : ℕ) → n.group ≡ Some g → g < length v.blockers

-- no note is of a label
abbrev pub HasNone : Bytes → List (Option WaitNote) → Type 0
HasNone label ns = (i : ℕ) (n : WaitNote) → slice_get ns i ≡ Some (Some n) → n.label ≡ label → ⊥

-- the index is that of the note of a label, or there is no such note
abbrev pub IsPlaceOf : Bytes → List (Option WaitNote) → Option ℕ → Type 0
IsPlaceOf label ns None = HasNone label ns
IsPlaceOf label ns (Some at) = (n : WaitNote) × (slice_get ns at ≡ Some (Some n)) × (n.label ≡ label)

-- the notes without the one at an index, if one is given
abbrev pub without : List (Option WaitNote) → Option ℕ → List (Option WaitNote)
without ns None = ns
without ns (Some at) = slice_set ns at None

-- the deadline of a task that may wait without limit, and of an index without a note: no clock is
-- above it
abbrev pub never : ℕ
never = 2 ^ 64 - 1

-- the deadlines without the one at an index, if one is given
abbrev pub without_deadline : List ℕ → Option ℕ → List ℕ
without_deadline ks None = ks
without_deadline ks (Some at) = slice_set ks at never

-- an index has a note, and a deadline
pub record IsNoteAt (v : NotesValue) (at : ℕ) : Type 0 where
  pub note : WaitNote
  pub there : slice_get v.rows at ≡ Some (Some note)
  pub timed : at < length v.deadlines

-- each wait group keeps its resource
pub record KeepsResources (old new : List Resource) : Type 0 where
  pub kept : (g : ℕ) (r : Resource) → slice_get old g ≡ Some r → slice_get new g ≡ Some r

-- each wait group keeps its blocker, and a new one has none
pub record KeepsBlockers (old new : List (Option ℕ)) : Type 0 where
  pub kept : (g : ℕ) → of_group new g ≡ of_group old g
  pub long : length old ≤ length new
