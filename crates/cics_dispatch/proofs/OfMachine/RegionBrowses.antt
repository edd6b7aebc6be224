-- UNLOCK and the browses of a task leave what a region keeps, and the task stands where it stood.
use Rattle.std.specs.Prelude.{◌≡◌, ℕ, ◌<◌, if◌then◌else◌, Bool, true, false, Option, Some, None, is_some, unwrap_or, slice_get, length, List, [], refl}
use Rattle.std.proofs.Common.{sym, ap, ◌∙◌, subst}
use Rattle.std.proofs.lemmas.Bool.{false≢true}
use Rattle.cics_names.specs.Keyed.{Bytes, Map, value_at, with_value, without}
use Rattle.cics_names.specs.declared.conditions.Condition.{Condition}
use Rattle.cics_names.specs.declared.conditions.Condition.TheVariants.{Normal, Notfnd}
use Rattle.cics_browse.specs.Positions.{Position, finds_start, start_at, reset_condition, after_reset}
use Rattle.cics_browse.specs.declared.browses.Browsed.{Browsed}
use Rattle.cics_history.specs.State.{UnitsValue}
use Rattle.cics_dispatch.specs.Machine.Browses.{read_on, after_read_on}
use Rattle.cics_dispatch.specs.Machine.BrowseLoans.{moved, IsMoved}
use Rattle.cics_dispatch.specs.Machine.TasksLoans.{with_browses_of, with_browses_at}
use Rattle.cics_dispatch.specs.Machine.Machine.{Machine, Task, Suspended, RegionValue, replaced, is_waiting, records_in, with_task, with_units, with_browses}
use Rattle.cics_dispatch.specs.Machine.Replies.{plain, cut}
use Rattle.cics_dispatch.specs.Machine.Steps.{Stepped, answered, unlocked, started, reset, browsed, browse_reply, with_browse, browse_ended}
use Rattle.cics_dispatch.specs.Machine.Calls.{IsStepOf, reading_on}
use Rattle.cics_dispatch.specs.Machine.Regions.{region_of, IsRegionKept, ArePromised}
use Rattle.cics_dispatch.specs.declared.machine.browses.Direction.{Direction}
use Rattle.cics_dispatch.specs.declared.machine.outcomes.Outcome.{Outcome}
use Rattle.cics_dispatch.specs.declared.machine.outcomes.Reply.{Reply}
use Rattle.cics_dispatch.proofs.OfMachine.KeptTasks.{with_task_placed, kept_browses, kept_unlocked}
use Rattle.cics_dispatch.proofs.OfMachine.OwnedUnits.{owned_browses, owned_unlocked}
use Rattle.cics_dispatch.proofs.OfMachine.RegionSteps.{kept_as, placed_within, then_told, replaced_same}

-- a browse that is open isn't none
pub never_none : {X : Type 0} (o : Option X) → is_some o ≡ true → None ≡ o → ⊥
never_none None some none = false≢true some
never_none (Some x) some none = cc

-- the browse of a file, lent from these browses of a task, was moved from one position to another,
-- and leaves other browses
pub record IsLent (f : Bytes) (browses : Map Position) (p q : Position) (left : Map Position) : Type 0 where
  pub open_at : value_at f browses ≡ Some p
  pub left_is : left ≡ with_value f q browses
  pub same : q ≡ p → left ≡ browses

pub lent : (t : Task) (f : Bytes) (browses : Map Position) (p q : Position) (left : Map Position) → browses ≡ t.browses → Some p ≡ value_at f browses → IsMoved f browses q left →
    IsLent f t.browses p q left
lent t f browses p q left own found is = subst (λ b. IsLent f b p q left) own (record {
  open_at = sym found;
  left_is = is.moved ∙ ap (λ o. moved f q o browses) (sym found);
  same = λ stays. is.same (sym found ∙ ap Some (sym stays));
})

module _ {units : UnitsValue} {tasks : List Task} {waiting : List Suspended} {clock : ℕ} {is_down : Bool} (kept : IsRegionKept (region_of units tasks waiting clock is_down))
    (at : ℕ) (t : Task) (there : slice_get tasks at ≡ Some t) where
  abbrev machine : Machine
  machine = (region_of units tasks waiting clock is_down).machine

  -- UNLOCK
  pub unlocked_kept : (after : UnitsValue) (f : Bytes) → is_waiting waiting t.label ≡ false → with_units machine after.state ≡ unlocked machine t.unit f → ArePromised after →
      IsRegionKept (region_of after tasks waiting clock is_down)
  unlocked_kept after f awake is promised =
      kept_as (region_of after tasks waiting clock is_down) (unlocked machine t.unit f) is
      (kept_unlocked machine at t kept.tasks there awake f) (owned_unlocked machine t.unit f kept.owned) (record { headline = promised.0 }) (record { serializable = promised.1 })

  pub unlock_answered : (after : UnitsValue) (f : Bytes) (resp : Bool) (r : Reply) → with_units machine after.state ≡ unlocked machine t.unit f → r ≡ plain Normal →
      answered (region_of after tasks waiting clock is_down).machine t resp r ≡ answered (unlocked machine t.unit f) t resp (plain Normal)
  unlock_answered after f resp r is told = λ i. answered (is i) t resp (told i)

  -- a file's own records are those of the region's machine
  pub own_records : (f : Bytes) (records : Map Bytes) → value_at f units.store.files ≡ Some records → records ≡ records_in machine f
  own_records f records is = ap (λ o. unwrap_or o []) (sym is ∙ ap (λ s. value_at f s.files) kept.headline.headline.store)

  -- ---- The task has other browses
  module _ (browses : Map Position) where
    abbrev pub after : RegionValue
    after = region_of units (with_browses_at tasks at browses) waiting clock is_down

    abbrev owner : Task
    owner = with_browses t browses

    after_machine : after.machine ≡ with_task machine owner
    after_machine = ap (λ o. record machine { tasks = with_browses_of tasks browses o }) there

    -- the task stands where it stood
    owner_there : slice_get (with_browses_at tasks at browses) at ≡ Some owner
    owner_there = ap (λ m. slice_get m.tasks at) after_machine ∙ with_task_placed machine at t owner kept.tasks there refl

    pub owner_within : at < length (with_browses_at tasks at browses)
    owner_within = placed_within (with_browses_at tasks at browses) at owner owner_there

    pub browses_kept : is_waiting waiting t.label ≡ false → IsRegionKept after
    browses_kept awake =
        kept_as after (with_task machine owner) after_machine
        (kept_browses machine at t kept.tasks there awake browses) (owned_browses machine t at there kept.tasks.labels kept.owned browses)
        (record { headline = kept.headline.headline }) (record { serializable = kept.serializable.serializable })

    -- once it is told a reply, it has made a step
    pub then_told_so : {new : RegionValue} {x : Outcome} (resp : Bool) (r told : Reply) (f : Task → Stepped Outcome) → is_waiting waiting t.label ≡ false → r ≡ told →
        answered (with_task machine owner) owner resp told ≡ f t → IsStepOf after at (λ s. answered after.machine s resp r) x new →
        IsStepOf (region_of units tasks waiting clock is_down) at f x new
    then_told_so resp r told f awake says is =
        then_told at t owner resp r f there owner_there (browses_kept awake) ((λ i. answered (after_machine i) owner resp (says i)) ∙ is)

    -- with the browses that it had all is as it was
    pub same_browses : browses ≡ t.browses → after ≡ region_of units tasks waiting clock is_down
    same_browses same =
        ap (λ o. region_of units (with_browses_of tasks browses o) waiting clock is_down) there
        ∙ ap (λ b. region_of units (replaced tasks (with_browses t b)) waiting clock is_down) same
        ∙ ap (λ ts. region_of units ts waiting clock is_down) (replaced_same tasks at t kept.tasks.labels there)

  -- ---- What the task is answered

  -- by STARTBR, as it finds its start or doesn't
  abbrev started_as : Bool → Bool → Bytes → Position → Stepped Outcome
  started_as finds resp f p =
      let owner = with_browse t f p in
      if finds then answered (with_task machine owner) owner resp (plain Normal) else answered machine t resp (plain Notfnd)

  module _ (resp : Bool) (f : Bytes) where
    -- STARTBR that finds its start, and one that doesn't
    module _ (key : Bytes) (generic equal : Bool) (records : Map Bytes) (own : records ≡ records_in machine f) where
      pub started_there : (browse : Position) (browses : Map Position) → Some browse ≡ (if finds_start records key generic equal then Some (start_at key generic) else None) →
          browses ≡ with_value f browse t.browses → answered (with_task machine (with_browses t browses)) (with_browses t browses) resp (plain Normal) ≡ started machine t resp f key generic equal
      started_there browse browses found put = by (finds_start records key generic equal) found (ap (λ rs. finds_start rs key generic equal) own)
        where
          by : (b : Bool) → Some browse ≡ (if b then Some (start_at key generic) else None) → b ≡ finds_start (records_in machine f) key generic equal →
              answered (with_task machine (with_browses t browses)) (with_browses t browses) resp (plain Normal) ≡ started machine t resp f key generic equal
          by false is finds = cc
          by true is finds =
              let start : browse ≡ start_at key generic = cc in
              ap (λ b. answered (with_task machine (with_browses t b)) (with_browses t b) resp (plain Normal)) (put ∙ ap (λ p. with_value f p t.browses) start)
              ∙ ap (λ b. started_as b resp f (start_at key generic)) finds

      pub not_started : None ≡ (if finds_start records key generic equal then Some (start_at key generic) else None) → answered machine t resp (plain Notfnd) ≡ started machine t resp f key generic equal
      not_started found = by (finds_start records key generic equal) found (ap (λ rs. finds_start rs key generic equal) own)
        where
          by : (b : Bool) → None ≡ (if b then Some (start_at key generic) else None) → b ≡ finds_start (records_in machine f) key generic equal →
              answered machine t resp (plain Notfnd) ≡ started machine t resp f key generic equal
          by false is finds = ap (λ b. started_as b resp f (start_at key generic)) finds
          by true is finds = cc

    -- ENDBR
    pub end_answered : (browses : Map Position) → browses ≡ without f t.browses → answered (with_task machine (with_browses t browses)) (with_browses t browses) resp (plain Normal) ≡ browse_ended machine t resp f
    end_answered browses ended = ap (λ b. answered (with_task machine (with_browses t b)) (with_browses t b) resp (plain Normal)) ended

    module _ {p q : Position} {left : Map Position} (browse : IsLent f t.browses p q left) (records : Map Bytes) (own : records ≡ records_in machine f) where
      moved_to : (after : Map Bytes → Position) (condition : Map Bytes → Reply) → q ≡ after records →
          answered (with_task machine (with_browses t left)) (with_browses t left) resp (condition records)
          ≡ (let owner = with_browse t f (after (records_in machine f)) in answered (with_task machine owner) owner resp (condition (records_in machine f)))
      moved_to after reply to =
          ap (λ b. answered (with_task machine (with_browses t b)) (with_browses t b) resp (reply records)) (browse.left_is ∙ ap (λ x. with_value f x t.browses) to)
          ∙ ap (λ rs. answered (with_task machine (with_browse t f (after rs))) (with_browse t f (after rs)) resp (reply rs)) own

      -- READNEXT and READPREV
      pub read_answered : (n : Option ℕ) (direction : Direction) (b : Browsed) → b ≡ read_on direction records p → q ≡ after_read_on direction records p →
          answered (with_task machine (with_browses t left)) (with_browses t left) resp (cut n (browse_reply b)) ≡ reading_on machine resp f n direction t
      read_answered n direction b given to =
          ap (λ x. answered (with_task machine (with_browses t left)) (with_browses t left) resp (cut n (browse_reply x))) given
          ∙ moved_to (λ rs. after_read_on direction rs p) (λ rs. cut n (browse_reply (read_on direction rs p))) to
          ∙ ap (λ o. browsed machine t resp f n o (read_on direction (records_in machine f)) (after_read_on direction (records_in machine f))) (sym browse.open_at)

      -- RESETBR
      pub reset_answered : (key : Bytes) (generic equal : Bool) (condition : Condition) → condition ≡ reset_condition records key generic equal → q ≡ after_reset records p key generic equal →
          answered (with_task machine (with_browses t left)) (with_browses t left) resp (plain condition) ≡ reset machine t resp f key generic equal (value_at f t.browses)
      reset_answered key generic equal condition is to =
          ap (λ x. answered (with_task machine (with_browses t left)) (with_browses t left) resp (plain x)) is
          ∙ moved_to (λ rs. after_reset rs p key generic equal) (λ rs. plain (reset_condition rs key generic equal)) to
          ∙ ap (reset machine t resp f key generic equal) (sym browse.open_at)
