-- Waiting commands that were looked at: their notes are right, and the command and all before it
-- needn't be looked at again.
use Rattle.std.specs.Prelude.{◌≡◌, ℕ, ◌+◌, ◌<◌, ◌≤◌, ◌==◌, Bool, true, false, not, Option, Some, None, is_some, take, if◌then◌else◌, List, [], ◌∷◌, All, length, slice_get, slice_set, refl}
use Rattle.std.specs.List.{list_any}
use Rattle.std.proofs.Common.{◌⊎◌, zero, suc, inl, inr, sym, ap, ◌∙◌, subst, arith}
use Rattle.std.proofs.lemmas.Option.{slice_get_within}
use Rattle.std.proofs.lemmas.Bool.{false≢true, eqb-true, false_from_ne_true}
use Rattle.std.proofs.lemmas.List.Elements.{All-head, All-tail}
use Rattle.cics_history.specs.declared.resources.Resource.{Resource}
use Rattle.cics_history.specs.Holding.{held_by, conflicts, is_other}
use Rattle.cics_dispatch.specs.declared.notes.groups.WaitNote.{WaitNote}
use Rattle.cics_dispatch.specs.Machine.Machine.{Machine, Task, Suspended, task_at, is_waiting}
use Rattle.cics_dispatch.specs.Machine.Settled.{needed_by, holds_one, IsBlocked}
use Rattle.cics_dispatch.specs.Machine.KeptTasks.{IsWaitKept, AreTasksKept}
use Rattle.cics_dispatch.proofs.OfMachine.Blocked.{held_back}
use Rattle.cics_dispatch.specs.Machine.Waking.{may_go_on}
use Rattle.cics_dispatch.specs.Machine.Deadlines.{AreDue}
use Rattle.cics_dispatch.specs.Machine.Notes.{IsUse, IsNoted, AreNoted, AreNotedNow, IsLooked, UseOf, OfWait, IsOnlyNeed, MayClose, IsFreeAt, OwnerIsElsewhere}
use Rattle.cics_dispatch.specs.Notes.Notes.{of_group, blocker_by, blocker_in, alone, in_group, count, AreClosed, IsFirstOpen, KeepsResources, KeepsBlockers, NotesValue}
use Rattle.cics_dispatch.proofs.OfNotes.FiledNotes.{closed_each, known_set, known_own, count_set}
use Rattle.cics_dispatch.proofs.OfNotes.ShownNotes.{length_set}
use Rattle.cics_dispatch.proofs.OfMachine.Deadlines.{due_set}
use Rattle.cics_dispatch.proofs.OfMachine.Noted.{FirstAt, first_at, noted_each, noted_set}
use Rattle.cics_dispatch.proofs.OfMachine.TaskPlaces.{place_of_task}
use Rattle.cics_dispatch.proofs.OfMachine.Looks.{waits_at}

-- ---- The notes once a command was looked at

-- the notes stay right if there are more groups
pub noted_more : (m : Machine) (rs qs : List Resource) (bs cs : List (Option ℕ)) (ns : List (Option WaitNote)) (ws : List Suspended) → KeepsResources rs qs → KeepsBlockers bs cs → AreNoted m rs bs ns ws → AreNoted m qs cs ns ws
noted_more m rs qs bs cs ns ws more kept = noted_each m m rs qs bs cs (λ k w is. record {
  label = is.label;
  blocked = λ u own. is.blocked u (sym (same k.group k.blocker) ∙ own);
  use_of = λ g own. let has = is.use_of g own in record { resource = has.resource; there = more.kept g has.resource has.there; needed = has.needed; no_reader = has.no_reader };
}) ns ws
  where
    same : (group own : Option ℕ) → blocker_by cs group own ≡ blocker_by bs group own
    same None own = refl
    same (Some g) own = kept.kept g

-- the command in no group that has to wait for a unit
pub noted_alone : (m : Machine) (rs : List Resource) (bs : List (Option ℕ)) (k : WaitNote) (w : Suspended) (u : ℕ) → IsBlocked m u w → IsNoted m rs bs k w → IsNoted m rs bs (alone u k) w
noted_alone m rs bs k w u blocked is = record {
  label = is.label;
  blocked = λ v own. let same : u ≡ v = cc in subst (λ x. IsBlocked m x w) same blocked;
  use_of = λ g own. cc;
}

-- a unit that one command has to wait for keeps each waiting that uses the same and isn't of the
-- unit's own task
module _ (m : Machine) (rs : List Resource) (u g : ℕ) (v : Suspended) (blocked : IsBlocked m u v) (own : IsUse m.units.opening rs v g) (elsewhere : OwnerIsElsewhere m rs g u) where
  -- the command at a place
  blocked_too : (i : ℕ) (w : Suspended) → slice_get m.waiting i ≡ Some w → is_some (task_at m.tasks w.label) ≡ true → IsUse m.units.opening rs w g → IsBlocked m u w
  blocked_too i w waits there need = by (task_at m.tasks w.label) refl there
    where
      same_resource : own.resource ≡ need.resource
      same_resource = let both : Some own.resource ≡ Some need.resource = sym own.there ∙ need.there in cc

      same : needed_by m.units.opening w.command.verb w.op ≡ needed_by m.units.opening v.command.verb v.op
      same = need.needed ∙ ap (λ r. r ∷ []) (sym same_resource) ∙ sym own.needed

      another : (t : Task) → task_at m.tasks w.label ≡ Some t → is_other t.unit u ≡ true
      another t is = apart t.unit refl
        where
          never : t.unit ≡ Some u → ⊥
          never of_t =
              let place = place_of_task m.tasks w.label t is in
              elsewhere place.0 t place.1 of_t i w waits (sym place.2) need

          apart : (o : Option ℕ) → t.unit ≡ o → is_other o u ≡ true
          apart None none = refl
          apart (Some x) is = ap not (false_from_ne_true (u == x) (λ e. never (is ∙ ap Some (sym (eqb-true u x e)))))

      by : (o : Option Task) → task_at m.tasks w.label ≡ o → is_some o ≡ true → IsBlocked m u w
      by None is some = absurd (false≢true some)
      by (Some t) is some = record {
        task = t;
        of_task = is;
        is_open = blocked.is_open;
        other = another t is;
        keeps = inl (ap (holds_one m.units u) same ∙ held_back m u v blocked own.no_reader);
      }

-- the unit of a group once that of one is known
group_set : (bs : List (Option ℕ)) (g h u v : ℕ) → of_group (slice_set bs g (Some u)) h ≡ Some v → (of_group bs h ≡ Some v) ⊎ ((h ≡ g) × (u ≡ v))
group_set [] g h u v is = inl is
group_set (b ∷ bs) zero zero u v is = inr (refl, let same : u ≡ v = cc in same)
group_set (b ∷ bs) zero (suc h) u v is = inl is
group_set (b ∷ bs) (suc g) zero u v is = inl is
group_set (b ∷ bs) (suc g) (suc h) u v is = elim (group_set bs g h u v is) [ inl was ↦ inl was | inr now ↦ inr (ap suc now.0, now.1) ]

own_set : (bs : List (Option ℕ)) (g u v : ℕ) → of_group (slice_set bs g (Some u)) g ≡ Some v → u ≡ v
own_set [] g u v is = cc
own_set (b ∷ bs) zero u v is = cc
own_set (b ∷ bs) (suc g) u v is = own_set bs g u v is

module _ (m : Machine) (rs : List Resource) (bs : List (Option ℕ)) (u g : ℕ) (v : Suspended) (blocked : IsBlocked m u v) (own : IsUse m.units.opening rs v g) (closes : MayClose m rs bs g u) where
  closed_one : (k : WaitNote) (i : ℕ) (w : Suspended) → slice_get m.waiting i ≡ Some w → is_some (task_at m.tasks w.label) ≡ true → IsNoted m rs bs k w → IsNoted m rs (slice_set bs g (Some u)) k w
  closed_one k i w waits there is = record { label = is.label; blocked = λ x. by k.group refl x; use_of = is.use_of }
    where
      in_this : (x : ℕ) → k.group ≡ Some g → u ≡ x → IsBlocked m x w
      in_this x has same = subst (λ y. IsBlocked m y w) same (elim closes [
        | inl already ↦ is.blocked u ((λ i. blocker_by bs (has i) k.blocker) ∙ already)
        | inr elsewhere ↦ blocked_too m rs u g v blocked own elsewhere i w waits there (is.use_of g has)
      ])

      by : (group : Option ℕ) → k.group ≡ group → (x : ℕ) → blocker_by (slice_set bs g (Some u)) group k.blocker ≡ Some x → IsBlocked m x w
      by None none x known_x = is.blocked x ((λ i. blocker_by bs (none i) k.blocker) ∙ known_x)
      by (Some h) has x known_x = elim (group_set bs g h u x known_x) [
        | inl was ↦ is.blocked x ((λ i. blocker_by bs (has i) k.blocker) ∙ was)
        | inr now ↦ in_this x (has ∙ ap Some now.0) now.1
      ]

  closed_all : (ns : List (Option WaitNote)) (ws : List Suspended) → ((i : ℕ) (w : Suspended) → slice_get ws i ≡ Some w → (j : ℕ) × (slice_get m.waiting j ≡ Some w)) → All (IsWaitKept m) ws → AreNoted m rs bs ns ws →
      AreNoted m rs (slice_set bs g (Some u)) ns ws
  closed_all [] ws waits kept is = tt
  closed_all (None ∷ ns) ws waits kept is = closed_all ns ws waits kept is
  closed_all (Some k ∷ ns) [] waits kept is = absurd is
  closed_all (Some k ∷ ns) (w ∷ ws) waits kept is = (
    (let here = waits 0 w refl in closed_one k here.0 w here.1 (All-head (IsWaitKept m) w ws kept).of_task is.0),
    closed_all ns ws (λ i x there. waits (suc i) x there) (All-tail (IsWaitKept m) w ws kept) is.1,
  )

  -- all commands of a group have to wait for the unit
  pub group_closed : (ns : List (Option WaitNote)) → All (IsWaitKept m) m.waiting → AreNoted m rs bs ns m.waiting → AreNoted m rs (slice_set bs g (Some u)) ns m.waiting
  group_closed ns kept = closed_all ns m.waiting (λ i w there. (i, there)) kept

-- the note of a command in a group whose unit is known
pub noted_in_group : (m : Machine) (rs : List Resource) (bs : List (Option ℕ)) (k : WaitNote) (w : Suspended) (u g : ℕ) → IsBlocked m u w → IsUse m.units.opening rs w g → k.label ≡ w.label →
    IsNoted m rs (slice_set bs g (Some u)) (in_group g k) w
noted_in_group m rs bs k w u g blocked own label = record {
  label = label;
  blocked = λ x known_x. subst (λ y. IsBlocked m y w) (own_set bs g u x known_x) blocked;
  use_of = λ h has. let same : g ≡ h = cc in subst (IsUse m.units.opening rs w) same own;
}

-- ---- Commands that needn't be looked at again

-- one more is closed
closed_next : (bs : List (Option ℕ)) (ns : List (Option WaitNote)) (i : ℕ) (k n : WaitNote) → slice_get ns i ≡ Some (Some k) → is_some (blocker_in bs n) ≡ true → AreClosed bs (take i ns) → AreClosed bs (take (suc i) (slice_set ns i (Some n)))
closed_next bs [] i k n there known closed = cc
closed_next bs (j ∷ ns) zero k n there known closed = (known, tt)
closed_next bs (None ∷ ns) (suc i) k n there known closed = closed_next bs ns i k n there known closed
closed_next bs (Some j ∷ ns) (suc i) k n there known closed = (closed.0, closed_next bs ns i k n there known closed.1)

-- if memory was refused
looked_not : (m : Machine) (a : NotesValue) (at : ℕ) → AreNotedNow m a → IsLooked m a a at false
looked_not m a at noted = record { noted = noted; closed = λ e. absurd (false≢true e); count_is = refl; long = refl }

module _ (m : Machine) (a : NotesValue) (at u : ℕ) (n : WaitNote) (kept : AreTasksKept m) (noted : AreNotedNow m a) (first : IsFirstOpen a at n) (blocked : OfWait m.waiting n.label (IsBlocked m u)) where
  here : FirstAt m a.resources a.blockers n m.waiting
  here = first_at m a.resources a.blockers a.rows m.waiting at n kept noted.noted first.there first.before

  alone_then : IsLooked m a (record a { rows = slice_set a.rows at (Some (alone u n)) }) at true
  alone_then = record {
    noted = record {
      noted = noted_set m a.resources a.blockers a.rows m.waiting at n (alone u n) noted.noted first.there (λ w i there is. noted_alone m a.resources a.blockers n w u (blocked i w there (sym is.label)) is);
      due = due_set m.tasks a.rows m.waiting a.deadlines at n (alone u n) first.there refl noted.due;
    };
    closed = λ e. closed_next a.blockers a.rows at n (alone u n) first.there refl first.before;
    count_is = count_set a.rows at n (alone u n) first.there;
    long = length_set a.rows at (Some (alone u n));
  }

  -- the command in no group
  pub looked_alone : (b : NotesValue) (done : Bool) → b.rows ≡ (if done then slice_set a.rows at (Some (alone u n)) else a.rows) → b.resources ≡ a.resources → b.blockers ≡ a.blockers →
      b.deadlines ≡ a.deadlines → IsLooked m a b at done
  looked_alone b true rows resources blockers deadlines =
      subst (λ v. IsLooked m a v at true) (λ i. record { rows = sym rows i; resources = sym resources i; blockers = sym blockers i; deadlines = sym deadlines i }) alone_then
  looked_alone b false rows resources blockers deadlines =
      subst (λ v. IsLooked m a v at false) (λ i. record { rows = sym rows i; resources = sym resources i; blockers = sym blockers i; deadlines = sym deadlines i }) (looked_not m a at noted)

  module _ (g : ℕ) (within : g < length a.blockers) (closes : MayClose m a.resources a.blockers g u)
      (uses : UseOf m a.resources n g) where
    closed_then : IsLooked m a (record { rows = slice_set a.rows at (Some (in_group g n)); resources = a.resources; blockers = slice_set a.blockers g (Some u); deadlines = a.deadlines }) at true
    closed_then = record {
      noted = record {
        noted =
            noted_set m a.resources (slice_set a.blockers g (Some u)) a.rows m.waiting at n (in_group g n)
            (group_closed m a.resources a.blockers u g here.wait (blocked here.place here.wait here.there (sym here.noted.label)) (uses here.wait here.place here.there (sym here.noted.label) here.noted.use_of) closes a.rows kept.waits noted.noted) first.there
            (λ w i there is. noted_in_group m a.resources a.blockers n w u g (blocked i w there (sym is.label)) (uses w i there (sym is.label) is.use_of) is.label);
        due = due_set m.tasks a.rows m.waiting a.deadlines at n (in_group g n) first.there refl noted.due;
      };
      closed = λ e.
          closed_next (slice_set a.blockers g (Some u)) a.rows at n (in_group g n) first.there (known_own a.blockers g u within)
          (closed_each a.blockers (slice_set a.blockers g (Some u)) (λ h. known_set a.blockers g h u) (take at a.rows) first.before);
      count_is = count_set a.rows at n (in_group g n) first.there;
      long = length_set a.rows at (Some (in_group g n));
    }

    -- all commands of a group
    pub looked_group : (b : NotesValue) (done : Bool) → b.rows ≡ (if done then slice_set a.rows at (Some (in_group g n)) else a.rows) → b.resources ≡ a.resources →
        b.blockers ≡ (if done then slice_set a.blockers g (Some u) else a.blockers) → b.deadlines ≡ a.deadlines → IsLooked m a b at done
    looked_group b true rows resources blockers deadlines =
        subst (λ v. IsLooked m a v at true) (λ i. record { rows = sym rows i; resources = sym resources i; blockers = sym blockers i; deadlines = sym deadlines i }) closed_then
    looked_group b false rows resources blockers deadlines =
        subst (λ v. IsLooked m a v at false) (λ i. record { rows = sym rows i; resources = sym resources i; blockers = sym blockers i; deadlines = sym deadlines i }) (looked_not m a at noted)

-- the first command that has to be looked at waits, and if it may resume it is the first that may
pub looked_waits : (m : Machine) (a : NotesValue) (at : ℕ) (n : WaitNote) → AreTasksKept m → AreNotedNow m a → IsFirstOpen a at n → is_waiting m.waiting n.label ≡ true
looked_waits m a at n kept noted first =
    let here = first_at m a.resources a.blockers a.rows m.waiting at n kept noted.noted first.there first.before in
    ap (is_waiting m.waiting) here.noted.label ∙ waits_at m.waiting here.place here.wait here.there

pub looked_free : (m : Machine) (a : NotesValue) (at : ℕ) (n : WaitNote) → AreTasksKept m → AreNotedNow m a → IsFirstOpen a at n → OfWait m.waiting n.label (λ w. may_go_on m w (task_at m.tasks w.label) ≡ true) →
    IsFreeAt m a at n.label
looked_free m a at n kept noted first goes =
    let here = first_at m a.resources a.blockers a.rows m.waiting at n kept noted.noted first.there first.before in
    let own = sym here.noted.label in
    record { note = n; there = first.there; own = refl; first = record { wait = here.wait; first = here.first (goes here.place here.wait here.there own); own = own } }

-- ---- A group that is new

-- the first command that has to be looked at stays it
pub first_more : (a b : NotesValue) (at : ℕ) (n : WaitNote) → IsFirstOpen a at n → b.rows ≡ a.rows → KeepsBlockers a.blockers b.blockers → IsFirstOpen b at n
first_more a b at n first rows kept = record {
  there = ap (λ l. slice_get l at) rows ∙ first.there;
  open_yet = same n.group n.blocker ∙ first.open_yet;
  before = subst (λ l. AreClosed b.blockers (take at l)) (sym rows) (closed_each a.blockers b.blockers (λ g is. ap is_some (kept.kept g) ∙ is) (take at a.rows) first.before);
  group = λ g has. let was = first.group g has in let long = kept.long in omega (arith, was, long);
}
  where
    same : (group own : Option ℕ) → blocker_by b.blockers group own ≡ blocker_by a.blockers group own
    same None own = refl
    same (Some g) own = kept.kept g

-- and what a look leaves is told of the notes as they were before it
pub looked_since : (m : Machine) (a b c : NotesValue) (at : ℕ) (done : Bool) → b.rows ≡ a.rows → IsLooked m b c at done → IsLooked m a c at done
looked_since m a b c at done rows is = record { noted = is.noted; closed = is.closed; count_is = is.count_is ∙ ap count rows; long = is.long ∙ ap length rows }

pub looked_more : (m : Machine) (a b : NotesValue) (at : ℕ) → AreNotedNow m a → b.rows ≡ a.rows → KeepsResources a.resources b.resources → KeepsBlockers a.blockers b.blockers → b.deadlines ≡ a.deadlines →
    IsLooked m a b at false
looked_more m a b at noted rows more kept deadlines = record {
  noted = record {
    noted = subst (λ l. AreNoted m b.resources b.blockers l m.waiting) (sym rows) (noted_more m a.resources b.resources a.blockers b.blockers a.rows m.waiting more kept noted.noted);
    due = subst (λ l. AreDue m.tasks l m.waiting b.deadlines) (sym rows) (subst (AreDue m.tasks a.rows m.waiting) (sym deadlines) noted.due);
  };
  closed = λ e. absurd (false≢true e);
  count_is = ap count rows;
  long = ap length rows;
}

-- a command that uses nothing else than a resource is of its group
pub only_uses : (m : Machine) (rs : List Resource) (n : WaitNote) (g u : ℕ) (r : Resource) → slice_get rs g ≡ Some r → OfWait m.waiting n.label (IsBlocked m u) → OfWait m.waiting n.label (λ w. IsOnlyNeed r w.command.verb w.op) →
    UseOf m rs n g
only_uses m rs n g u r place blocked only w i there own uses = record {
  resource = r;
  there = place;
  needed = (only i w there own).only m.units.opening (λ x. list_any (conflicts x) (held_by m.units u)) (held_back m u w (blocked i w there own) (only i w there own).no_reader);
  no_reader = (only i w there own).no_reader;
}

-- ---- How many notes are behind the first that has to be looked at

abbrev pub left_open : List (Option ℕ) → List (Option WaitNote) → ℕ
left_open bs [] = 0
left_open bs (None ∷ ns) = left_open bs ns
left_open bs (Some n ∷ ns) = if is_some (blocker_in bs n) then left_open bs ns else suc (length ns)

open_few : (bs : List (Option ℕ)) (ns : List (Option WaitNote)) → left_open bs ns ≤ length ns
open_few bs [] = omega arith
open_few bs (None ∷ ns) = let few = open_few bs ns in omega (arith, few)
open_few bs (Some n ∷ ns) = elim (is_some (blocker_in bs n)) as (λ b. (if b then left_open bs ns else suc (length ns)) ≤ suc (length ns)) [
  | true ↦ let few = open_few bs ns in omega (arith, few)
  | false ↦ omega arith
]

open_behind : (bs : List (Option ℕ)) (ns : List (Option WaitNote)) (k : ℕ) → k ≤ length ns → AreClosed bs (take k ns) → left_open bs ns + k ≤ length ns
open_behind bs ns zero few closed = let all = open_few bs ns in omega (arith, all)
open_behind bs [] (suc k) few closed = omega (arith, few)
open_behind bs (None ∷ ns) (suc k) few closed = let rest = open_behind bs ns k (omega (arith, few)) closed in omega (arith, rest)
open_behind bs (Some n ∷ ns) (suc k) few closed =
    let rest = open_behind bs ns k (omega (arith, few)) closed.1 in
    subst (λ b. (if b then left_open bs ns else suc (length ns)) + suc k ≤ suc (length ns)) (sym closed.0) (omega (arith, rest))

open_from : (bs : List (Option ℕ)) (ns : List (Option WaitNote)) (i : ℕ) (n : WaitNote) → slice_get ns i ≡ Some (Some n) → blocker_in bs n ≡ None → AreClosed bs (take i ns) → left_open bs ns + i ≡ length ns
open_from bs [] i n there open_yet closed = cc
open_from bs (None ∷ ns) zero n there open_yet closed = cc
open_from bs (Some k ∷ ns) zero n there open_yet closed =
    let same : k ≡ n = let both : Some (Some k) ≡ Some (Some n) = there in cc in
    let shown : is_some (blocker_in bs k) ≡ false = ap (λ x. is_some (blocker_in bs x)) same ∙ ap is_some open_yet in
    subst (λ b. (if b then left_open bs ns else suc (length ns)) + 0 ≡ suc (length ns)) (sym shown) (omega arith)
open_from bs (None ∷ ns) (suc i) n there open_yet closed = let rest = open_from bs ns i n there open_yet closed in omega (arith, rest)
open_from bs (Some k ∷ ns) (suc i) n there open_yet closed =
    let rest = open_from bs ns i n there open_yet closed.1 in
    subst (λ b. (if b then left_open bs ns else suc (length ns)) + suc i ≡ suc (length ns)) (sym closed.0) (omega (arith, rest))

-- after a look fewer are
pub open_less : (m : Machine) (a b : NotesValue) (at : ℕ) (n : WaitNote) → IsFirstOpen a at n → IsLooked m a b at true → left_open b.blockers b.rows < left_open a.blockers a.rows
open_less m a b at n first is =
    let was = open_from a.blockers a.rows at n first.there first.open_yet first.before in
    let long = is.long in
    let within : suc at ≤ length b.rows = omega (arith, was, long, here) in
    let now = open_behind b.blockers b.rows (suc at) within (is.closed refl) in
    omega (arith, was, now, long)
  where
    here : at < length a.rows
    here = slice_get_within a.rows at (Some n) first.there
