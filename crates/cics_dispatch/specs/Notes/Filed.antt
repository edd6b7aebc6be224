-- How the notes are stored: what each unit blocks, and which commands must be looked at. Each such
-- command has the key 0, in a wait group at least the first. Others may have it too.
use Rattle.std.specs.Prelude.{◌≡◌, ◌≤◌, ℕ, Bool, true, false, Option, Some, None, length, map, List, Vec, slice_get, slice_set, nat_eq}
use Rattle.std.specs.Map.{lookup}
use Rattle.std.specs.BTreeSet.{BTreeSet, contains}
use Rattle.std.specs.Ordering.{nat_cmp}
use Rattle.std.specs.declared.alloc.Global.{Global}
use Rattle.cics_history.specs.declared.resources.Resource.{Resource}
use Rattle.cics_dispatch.specs.declared.notes.groups.WaitNote.{WaitNote}
use Rattle.cics_dispatch.specs.declared.notes.groups.Parked.{Parked}
use Rattle.cics_dispatch.specs.declared.notes.groups.Parked.TheVariants.{Group as OfGroup, Row as OfRow}
use Rattle.cics_dispatch.specs.declared.notes.groups.Groups.{Groups}
use Rattle.cics_dispatch.specs.Notes.Notes.{of_group, given_up, forgotten, count}

-- the index is one of these
abbrev pub has : BTreeSet ℕ → ℕ → Bool
has s i = contains nat_cmp s i

-- a wait group has the command of the note at an index
pub record IsMember (ms : List (BTreeSet ℕ)) (g i : ℕ) : Type 0 where
  pub members : BTreeSet ℕ
  pub there : slice_get ms g ≡ Some members
  pub member : has members i ≡ true

-- the note at an index is of a wait group
pub record IsInGroup (rows : List (Option WaitNote)) (i g : ℕ) : Type 0 where
  pub note : WaitNote
  pub there : slice_get rows i ≡ Some (Some note)
  pub own : note.group ≡ Some g

-- one of these, not above this index, has the key 0
pub record IsShownBy (s : BTreeSet ℕ) (keys : List ℕ) (i : ℕ) : Type 0 where
  pub place : ℕ
  pub before : place ≤ i
  pub member : has s place ≡ true
  pub key : slice_get keys place ≡ Some 0

-- each command that must be looked at has the key 0, or one of its wait group that isn't behind it
-- has; each wait group has the indexes of its notes
pub record IsShown (rows : List (Option WaitNote)) (bs : List (Option ℕ)) (ms : List (BTreeSet ℕ)) (keys : List ℕ) : Type 0 where
  pub even : length keys ≡ length rows
  pub sized : length ms ≡ length bs
  pub alone : (i : ℕ) (n : WaitNote) → slice_get rows i ≡ Some (Some n) → n.group ≡ None → n.blocker ≡ None → slice_get keys i ≡ Some 0
  pub member : (i : ℕ) (n : WaitNote) (g : ℕ) → slice_get rows i ≡ Some (Some n) → n.group ≡ Some g → IsMember ms g i
  pub row : (g : ℕ) (s : BTreeSet ℕ) (i : ℕ) → slice_get ms g ≡ Some s → has s i ≡ true → IsInGroup rows i g
  pub first : (g : ℕ) (s : BTreeSet ℕ) (i : ℕ) → slice_get ms g ≡ Some s → of_group bs g ≡ None → has s i ≡ true → IsShownBy s keys i

-- the same, of the notes with their wait groups
abbrev pub AreShown : Groups → Type 0
AreShown n = IsShown n.rows.items n.blockers.items n.members.items n.keys

-- an entry is in the list of a unit
pub record IsParked (parked : List (ℕ × Vec Parked Global)) (u : ℕ) (what : Parked) : Type 0 where
  pub list : Vec Parked Global
  pub there : lookup (nat_eq u) parked ≡ Some list
  pub place : ℕ
  pub at : slice_get list.items place ≡ Some what

-- each entry of a unit's list stays
abbrev pub KeepParked : List (ℕ × Vec Parked Global) → List (ℕ × Vec Parked Global) → Type 0
KeepParked parked more = (u : ℕ) (what : Parked) → IsParked parked u what → IsParked more u what

-- the note at an index has this blocker of its own
pub record IsAlone (rows : List (Option WaitNote)) (i u : ℕ) : Type 0 where
  pub note : WaitNote
  pub there : slice_get rows i ≡ Some (Some note)
  pub own : note.blocker ≡ Some u

-- each wait group, and each command in none, is in its blocker's list
pub record AreParked (rows : List (Option WaitNote)) (bs : List (Option ℕ)) (parked : List (ℕ × Vec Parked Global)) : Type 0 where
  pub rows_of : (i u : ℕ) → IsAlone rows i u → IsParked parked u (OfRow i)
  pub groups_of : (g u : ℕ) → of_group bs g ≡ Some u → IsParked parked u (OfGroup g)

-- the notes are counted, shown and parked, and each wait group has its resource
pub record IsFiled (rows : List (Option WaitNote)) (k : ℕ) (rs : List Resource) (bs : List (Option ℕ)) (ms : List (BTreeSet ℕ)) (parked : List (ℕ × Vec Parked Global)) (keys : List ℕ) : Type 0 where
  pub counted : k ≡ count rows
  pub resources : length rs ≡ length bs
  pub shown : IsShown rows bs ms keys
  pub lists : AreParked rows bs parked

-- ---- Changes

-- if no blocker is known, the first of these indexes has the key 0; each that had it keeps it
pub record IsFirstShown (b : Option ℕ) (s : BTreeSet ℕ) (keys new : List ℕ) : Type 0 where
  pub even : length new ≡ length keys
  pub kept : (i : ℕ) → slice_get keys i ≡ Some 0 → slice_get new i ≡ Some 0
  pub shown : (i : ℕ) → b ≡ None → has s i ≡ true → IsShownBy s new i

-- an index is added if there, else removed, and every other stays
pub record IsPut (at : ℕ) (there : Bool) (old new : BTreeSet ℕ) : Type 0 where
  pub here : has new at ≡ there
  pub others : (i : ℕ) → (i ≡ at → ⊥) → has new i ≡ has old i

-- a command has left its wait group
pub record HasLeft (at g : ℕ) (bs : List (Option ℕ)) (ms : List (BTreeSet ℕ)) (keys : List ℕ) (ls : List (BTreeSet ℕ)) (new : List ℕ) : Type 0 where
  pub old : BTreeSet ℕ
  pub rest : BTreeSet ℕ
  pub there : slice_get ms g ≡ Some old
  pub gone : IsPut at false old rest
  pub put : ls ≡ slice_set ms g rest
  pub first : IsFirstShown (of_group bs g) rest keys new

-- a command has left its wait group, or was in none
abbrev pub IsLeft : ℕ → Option ℕ → List (Option ℕ) → List (BTreeSet ℕ) → List ℕ → List (BTreeSet ℕ) → List ℕ → Type 0
IsLeft at None bs ms keys ls new = (ls ≡ ms) × (new ≡ keys)
IsLeft at (Some g) bs ms keys ls new = HasLeft at g bs ms keys ls new

-- what an entry stands for isn't blocked by a unit
abbrev pub IsNotOf : List (Option WaitNote) → List (Option ℕ) → ℕ → Parked → Type 0
IsNotOf rows bs u (OfRow i) = IsAlone rows i u → ⊥
IsNotOf rows bs u (OfGroup g) = of_group bs g ≡ Some u → ⊥

-- some of what a unit blocked must be looked at, and nothing else has changed
pub record IsReopening (u : ℕ) (rows ns : List (Option WaitNote)) (bs cs : List (Option ℕ)) : Type 0 where
  pub rows_alike : map (forgotten (Some u)) ns ≡ map (forgotten (Some u)) rows
  pub groups_alike : map (given_up (Some u)) cs ≡ map (given_up (Some u)) bs
  pub rows_of : (i v : ℕ) → IsAlone ns i v → IsAlone rows i v
  pub groups_of : (g v : ℕ) → of_group cs g ≡ Some v → of_group bs g ≡ Some v

-- the same, of the notes with their wait groups
abbrev pub Reopens : ℕ → Groups → Groups → Type 0
Reopens u old new = IsReopening u old.rows.items new.rows.items old.blockers.items new.blockers.items
