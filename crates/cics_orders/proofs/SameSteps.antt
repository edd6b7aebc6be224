-- States that are the same go on alike: each line leads to states that are the same again.
use Rattle.std.proofs.Common.{◌≡◌, ℕ, zero, suc, Bool, ◌∷◌, ◌++◌, map, length, Option, None, Some, option_map, Result, Ok, Err, refl, ap, sym, ◌∙◌, subst}
use Rattle.std.proofs.lemmas.Option.{slice_get-map}
use Rattle.std.specs.Prelude.{slice_get}
use Rattle.cics_names.specs.Stamps.{list_stamp}
use Rattle.cics_dispatch.specs.Machine.Machine.{Machine}
use Rattle.cics_dispatch.specs.Machine.Stamps.{region_stamp}
use Rattle.cics_dispatch.specs.Machine.Steps.{Stepped, attached, issued}
use Rattle.cics_dispatch.specs.Machine.Waking.{woken, expired, clock_set}
use Rattle.cics_dispatch.specs.Machine.Shutdown.{unless_down, shut_down}
use Rattle.cics_dispatch.specs.Machine.Events.{Happened, happened, told_by, issued_event, played, late_turn, waking_turn, turn, Drained, behind_turn, drained_within}
use Rattle.cics_dispatch.specs.declared.machine.events.Request.{Request}
use Rattle.cics_dispatch.specs.declared.machine.events.Request.TheVariants as request
use Rattle.cics_dispatch.specs.declared.machine.events.Subject.{Subject}
use Rattle.cics_dispatch.specs.declared.machine.events.Subject.TheVariants as subject
use Rattle.cics_dispatch.specs.declared.machine.events.Event.{Event}
use Rattle.cics_dispatch.specs.declared.machine.events.Event.TheVariants as event
use Rattle.cics_dispatch.specs.declared.machine.outcomes.Woken.{Woken}
use Rattle.cics_dispatch.specs.declared.machine.outcomes.Expired.{Expired}
use Rattle.cics_dispatch.specs.declared.machine.outcomes.Refused.{Refused}
use Rattle.cics_dispatch.specs.Future.Futures.{IsSteady, HaveSameFuture, AreSameSteps}
use Rattle.cics_dispatch.proofs.OfFuture.Events.{same_itself, down_same, issued_same, reason_same, attached_same, clock_same, shut_same, woken_same, expired_same}
use Rattle.cics_script.specs.Lines.{line}
use Rattle.cics_orders.specs.Plans.Taking.{NumberedLine}
use Rattle.cics_orders.specs.declared.plans.plans.TaskPlan.{TaskPlan}
use Rattle.cics_orders.specs.Giving.{State, asked, happening, after_asked, givers, counted, given_line, given_by, given, with_task}
use Rattle.cics_orders.specs.Stamps.{seen, lane_stamp, state_stamp}
use Rattle.cics_orders.specs.Same.{SameState}
use Rattle.cics_orders.specs.declared.lanes.Lane.{Lane}
use Rattle.cics_orders.proofs.Seen.{told_same, given_same, giving_same}

-- ---- Events of two machines that have the same future

-- the same happened, and they have the same future again
record AreSame (a b : Happened) : Type 0 where
  event : a.event ≡ b.event
  machine : HaveSameFuture a.machine b.machine

-- the same happened to both, or nothing to either
abbrev AreSameTurns : Option Happened → Option Happened → Type 0
AreSameTurns None None = Unit {0}
AreSameTurns (Some a) (Some b) = AreSame a b
AreSameTurns _ _ = ⊥

-- all that happened is the same
record AreSameDrained (a b : Drained) : Type 0 where
  events : map (λ (h : Happened). h.event) a.turns ≡ map (λ (h : Happened). h.event) b.turns
  machine : HaveSameFuture a.machine b.machine

module _ (m n : Machine) (same : HaveSameFuture m n) where
  told_alike : {X : Type 0} (who : Subject) (told : X → Event) (s t : Stepped (Result X Refused)) → AreSameSteps s t → AreSame (told_by m who told s) (told_by n who told t)
  told_alike {X} who told s t steps = by down.outcome down.machine
    where
      down : AreSameSteps (unless_down m s) (unless_down n t)
      down = down_same m n same s t steps

      either : (r : Result X Refused) (k l : Machine) → HaveSameFuture k l → AreSame (happened m who told r k) (happened n who told r l)
      either (Ok x) k l after_it = record { event = refl; machine = after_it }
      either (Err e) k l after_it = record { event = refl; machine = same }

      by : {r q : Result X Refused} {k l : Machine} → r ≡ q → HaveSameFuture k l → AreSame (happened m who told r k) (happened n who told q l)
      by {r} {q} {k} {l} is after_it = subst (λ q. AreSame (happened m who told r k) (happened n who told q l)) is (either r k l after_it)

  -- they play each request alike
  played_same : (r : Request) → AreSame (played m r) (played n r)
  played_same (request.Attach label transaction dtimout) =
      told_alike (subject.Task label) (λ _. event.Attached label transaction) (attached m label dtimout) (attached n label dtimout) (attached_same m n same label dtimout)
  played_same (request.Clock seconds) = told_alike subject.Clock (λ _. event.ClockSet seconds) (clock_set m seconds) (clock_set n seconds) (clock_same m n same seconds)
  played_same (request.Issue label command) =
      let who = subject.Task label in
      subst (λ r. AreSame (played m (request.Issue label command)) (told_by n who (λ outcome. event.Issued label outcome r) (issued n label command))) (reason_same m n same label command.verb)
      (told_alike who (issued_event m label command) (issued m label command) (issued n label command) (issued_same m n same label command))
  played_same request.Shutdown = told_alike subject.Shutdown event.ShutDown (shut_down m) (shut_down n) (shut_same m n same)

  late_same : (o p : Option Expired) (k l : Machine) → o ≡ p → HaveSameFuture k l → AreSameTurns (late_turn o k) (late_turn p l)
  late_same o p k l is after_it = subst (λ p. AreSameTurns (late_turn o k) (late_turn p l)) is (by o)
    where
      by : (o : Option Expired) → AreSameTurns (late_turn o k) (late_turn o l)
      by None = tt
      by (Some e) = record { event = refl; machine = after_it }

  waking_same : (o p : Option Woken) (k l : Machine) (a b : Option Happened) → o ≡ p → HaveSameFuture k l → AreSameTurns a b → AreSameTurns (waking_turn o k a) (waking_turn p l b)
  waking_same o p k l a b is after_it late = subst (λ p. AreSameTurns (waking_turn o k a) (waking_turn p l b)) is (by o)
    where
      by : (o : Option Woken) → AreSameTurns (waking_turn o k a) (waking_turn o l b)
      by None = late
      by (Some w) = record { event = refl; machine = after_it }

  turn_same : AreSameTurns (turn m) (turn n)
  unfolding turn
  turn_same =
      let wake = woken_same m n same in
      let expiry = expired_same m n same in
      waking_same (woken m).outcome (woken n).outcome (woken m).machine (woken n).machine (late_turn (expired m).outcome (expired m).machine)
      (late_turn (expired n).outcome (expired n).machine) wake.outcome wake.machine
      (late_same (expired m).outcome (expired n).outcome (expired m).machine (expired n).machine expiry.outcome expiry.machine)

within_same : (k : ℕ) (m n : Machine) → HaveSameFuture m n → AreSameDrained (drained_within k m) (drained_within k n)
unfolding drained_within
within_same zero m n same = record { events = refl; machine = same }
within_same (suc k) m n same = by (within_same k) (turn m) (turn n) (turn_same m n same)
  where
    by : ((m n : Machine) → HaveSameFuture m n → AreSameDrained (drained_within k m) (drained_within k n)) → (a b : Option Happened) → AreSameTurns a b →
        AreSameDrained (behind_turn m a (drained_within k)) (behind_turn n b (drained_within k))
    by rest None None both = record { events = refl; machine = same }
    by rest (Some a) (Some b) both =
        let more = rest a.machine b.machine both.machine in
        record { events = λ i. both.event i ∷ more.events i; machine = more.machine }
    by rest None (Some b) both = absurd both
    by rest (Some a) None both = absurd both

happening_same : (m n : Machine) → HaveSameFuture m n → (r : Request) → AreSameDrained (happening m r) (happening n r)
unfolding happening
happening_same m n same r =
    let first = played_same m n same r in
    let rest = subst (λ k. AreSameDrained (drained_within (length (played m r).machine.waiting) (played m r).machine) (drained_within k (played n r).machine))
    (ap length first.machine.alike.waiting) (within_same (length (played m r).machine.waiting) (played m r).machine (played n r).machine first.machine) in
    record { events = λ i. first.event i ∷ rest.events i; machine = rest.machine }

-- a task is attached to a region that is steady
pub attached_steady : (m : Machine) (t : TaskPlan) → IsSteady m → IsSteady (with_task m t)
unfolding with_task
attached_steady m t steady = (played_same m m (same_itself m steady) (request.Attach t.label t.transaction t.dtimout)).machine.first

module _ (told : Bool) where
  abbrev Same : State → State → Type 0
  Same = SameState told

  -- ---- A lane gives

  asked_same : (s t : State) (o : Option Request) → Same s t → Same (after_asked s o) (after_asked t o)
  asked_same s t None same = same
  asked_same s t (Some r) same =
      let all = happening_same s.machine t.machine same.machine r in
      record {
        plan = same.plan;
        machine = all.machine;
        lanes = told_same told (happening s.machine r).turns (happening t.machine r).turns s.lanes t.lanes all.events same.lanes;
      }

  counted_same : (s t : State) (l : ℕ) (x y : Lane) → Same s t → seen told x ≡ seen told y → Same (counted s l x) (counted t l y)
  counted_same s t l x y same one = record { plan = same.plan; machine = same.machine; lanes = given_same told s.lanes t.lanes l x y same.lanes one }

  next_same : (s t : State) (l : ℕ) (x y : Lane) (o p : Option NumberedLine) → Same s t → seen told x ≡ seen told y → o ≡ p → Same (given_line s l x o) (given_line t l y p)
  next_same s t l x y o p same one is = subst (λ p. Same (given_line s l x o) (given_line t l y p)) is (by o)
    where
      by : (o : Option NumberedLine) → Same (given_line s l x o) (given_line t l y o)
      by None = same
      by (Some next) = asked_same (counted s l x) (counted t l y) (asked (line next.1)) (counted_same s t l x y same one)

  -- whatever lane gives
  pub given_alike : (s t : State) (l : ℕ) → Same s t → Same (given s l) (given t l)
  unfolding given
  given_alike s t l same =
      by (slice_get s.lanes l) (slice_get t.lanes l)
      (sym (slice_get-map (seen told) s.lanes l) ∙ ap (λ xs. slice_get xs l) same.lanes ∙ slice_get-map (seen told) t.lanes l)
    where
      by : (o p : Option Lane) → option_map (seen told) o ≡ option_map (seen told) p → Same (given_by s l o) (given_by t l p)
      by None None one = same
      by (Some x) (Some y) one =
          let alike : seen told x ≡ seen told y = cc in
          next_same s t l x y (slice_get x.lines x.given) (slice_get y.lines y.given) same alike (ap (λ (z : Lane). slice_get z.lines z.given) alike)
      by None (Some y) one = cc
      by (Some x) None one = cc

  -- the same lanes may give
  pub givers_alike : (s t : State) (from : ℕ) → Same s t → givers s from ≡ givers t from
  givers_alike s t from same = giving_same told s.machine t.machine same.machine s.lanes t.lanes from same.lanes

  -- and the states have one stamp
  pub stamps_alike : ((m n : Machine) → HaveSameFuture m n → region_stamp m ≡ region_stamp n) → (s t : State) → Same s t → state_stamp told s ≡ state_stamp told t
  unfolding state_stamp
  stamps_alike regions s t same = λ i. list_stamp lane_stamp (same.lanes i) ++ regions s.machine t.machine same.machine i
