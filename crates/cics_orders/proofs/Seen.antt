-- What is seen of lanes after a step, by what was seen of them before it.
use Rattle.std.proofs.Common.{◌≡◌, ℕ, suc, ◌+◌, ◌-◌, Bool, true, false, not, ◌&&◌, ◌||◌, List, [], ◌∷◌, ◌++◌, map, length, drop, Option, None, Some, option_map, refl, ap, sym, ◌∙◌, arith, length-append}
use Rattle.std.proofs.lemmas.List.{drop-map, map-set}
use Rattle.std.specs.Prelude.{if◌then◌else◌, is_none, is_some, slice_get, slice_set}
use Rattle.cics_names.specs.Keyed.{Bytes, is_same}
use Rattle.cics_dispatch.specs.Machine.Machine.{Machine, Task, task_at}
use Rattle.cics_dispatch.specs.Machine.Blockers.{unit_of}
use Rattle.cics_dispatch.specs.Machine.Events.{Happened, ended, task_ended}
use Rattle.cics_dispatch.specs.Machine.Tasks.{had_by, own_unit}
use Rattle.cics_dispatch.specs.Future.Futures.{HaveSameFuture, unnumbered}
use Rattle.cics_dispatch.proofs.OfFuture.Events.{command_same}
use Rattle.cics_dispatch.specs.declared.machine.events.Event.{Event}
use Rattle.cics_dispatch.specs.declared.machine.events.Event.TheVariants as event
use Rattle.cics_dispatch.specs.declared.machine.outcomes.Outcome.{Outcome}
use Rattle.cics_dispatch.specs.declared.machine.outcomes.Outcome.TheVariants.{Waiting, Abended}
use Rattle.cics_orders.specs.Space.Orders.{numbered, numbered_from}
use Rattle.cics_orders.specs.Plans.Firsts.{with_first}
use Rattle.cics_orders.specs.Giving.{is_of, is_last, told_more, with_told, hearing, told_by, told_all, is_ready, may_give, with_given}
use Rattle.cics_orders.specs.Stamps.{end_told, seen}
use Rattle.cics_orders.specs.Turns.{last_said, goes_on, is_unfinished, is_in_turn}
use Rattle.cics_orders.specs.declared.lanes.Lane.{Lane}

-- ---- Lists

last_more : {X : Type 0} (xs : List X) (x : X) → slice_get (xs ++ x ∷ []) (length (xs ++ x ∷ []) - 1) ≡ Some x
last_more [] x = refl
last_more (y ∷ ys) x =
    let long : length (ys ++ x ∷ []) ≡ length ys + 1 = length-append ys (x ∷ []) in
    let last : length (y ∷ (ys ++ x ∷ [])) - 1 ≡ suc (length (ys ++ x ∷ []) - 1) = omega (arith, long) in
    ap (slice_get (y ∷ (ys ++ x ∷ []))) last ∙ last_more ys x

module _ {X : Type 0} (f : X → X) where
  numbered_mapped : (may : X → Bool) → ((x : X) → may (f x) ≡ may x) → (xs : List X) (l : ℕ) → numbered may l (map f xs) ≡ numbered may l xs
  numbered_mapped may same [] l = refl
  numbered_mapped may same (x ∷ xs) l =
      (λ i. if same x i then l ∷ numbered_mapped may same xs (suc l) i else numbered_mapped may same xs (suc l) i)

  pub numbers_mapped : (may : X → Bool) → ((x : X) → may (f x) ≡ may x) → (xs : List X) (from : ℕ) → numbered_from may (map f xs) from ≡ numbered_from may xs from
  numbers_mapped may same xs from = ap (numbered may from) (drop-map f from xs) ∙ numbered_mapped may same (drop from xs) from

-- ---- A task is told

-- what is seen of a lane whose task is told an outcome
abbrev told_seen : Bool → Outcome → Lane → Lane
told_seen told o z = record z { told = if told then z.told ++ o ∷ [] else (if is_last o then o ∷ [] else []) }

seen_told : (told : Bool) (x : Lane) (o : Outcome) → seen told (told_more x o) ≡ told_seen told o (seen told x)
seen_told true x o = refl
seen_told false x o = ap (λ p. record x { told = end_told p }) (last_more x.told o)

module _ (told : Bool) where
  abbrev sees : List Lane → List Lane
  sees xs = map (seen told) xs

  lanes_told : (xs : List Lane) (label : Bytes) (o : Outcome) → sees (with_told xs label o) ≡ with_first (λ z. is_of z label) (told_seen told o) (sees xs)
  lanes_told [] label o = refl
  lanes_told (x ∷ xs) label o = by (lanes_told xs label o) (is_of x label)
    where
      by : sees (with_told xs label o) ≡ with_first (λ z. is_of z label) (told_seen told o) (sees xs) → (b : Bool) →
          sees (if b then told_more x o ∷ xs else x ∷ with_told xs label o)
          ≡ (if b then told_seen told o (seen told x) ∷ sees xs else seen told x ∷ with_first (λ z. is_of z label) (told_seen told o) (sees xs))
      by rest true = ap (λ z. z ∷ sees xs) (seen_told told x o)
      by rest false = ap (λ zs. seen told x ∷ zs) rest

  module _ (xs ys : List Lane) (same : sees xs ≡ sees ys) where
    with_same : (label : Bytes) (o : Outcome) → sees (with_told xs label o) ≡ sees (with_told ys label o)
    with_same label o = lanes_told xs label o ∙ ap (with_first (λ z. is_of z label) (told_seen told o)) same ∙ sym (lanes_told ys label o)

    hearing_same : (label : Bytes) (o : Outcome) → sees (hearing xs label o) ≡ sees (hearing ys label o)
    hearing_same label (Waiting blocker) = same
    hearing_same label o = with_same label o

    event_same : (e : Event) → sees (told_by xs e) ≡ sees (told_by ys e)
    event_same (event.Issued label o reason) = hearing_same label o
    event_same (event.Woken w) = hearing_same w.label w.outcome
    event_same (event.Expired e) = hearing_same e.label (Abended e.code None)
    event_same _ = same

  -- the same events
  pub told_same : (hs ks : List Happened) (xs ys : List Lane) → map (λ (h : Happened). h.event) hs ≡ map (λ (h : Happened). h.event) ks → sees xs ≡ sees ys →
      sees (told_all xs hs) ≡ sees (told_all ys ks)
  told_same [] [] xs ys events same = same
  told_same (h ∷ hs) (k ∷ ks) xs ys events same =
      let first : h.event ≡ k.event = cc in
      let rest : map (λ (h : Happened). h.event) hs ≡ map (λ (h : Happened). h.event) ks = cc in
      told_same hs ks (told_by xs h.event) (told_by ys k.event) rest (event_same xs ys same h.event ∙ ap (λ e. sees (told_by ys e)) first)
  told_same [] (k ∷ ks) xs ys events same = cc
  told_same (h ∷ hs) [] xs ys events same = cc

  pub given_same : (xs ys : List Lane) (l : ℕ) (x y : Lane) → sees xs ≡ sees ys → seen told x ≡ seen told y →
      sees (slice_set xs l (with_given x)) ≡ sees (slice_set ys l (with_given y))
  given_same xs ys l x y same one =
      map-set (seen told) xs l (with_given x) ∙ (λ i. slice_set (same i) l (with_given (one i))) ∙ sym (map-set (seen told) ys l (with_given y))

-- ---- Tasks, by their labels

ended_bare : (ts : List Task) (x : Bytes) → ended (task_at (map unnumbered ts) x) ≡ ended (task_at ts x)
ended_bare [] x = refl
ended_bare (t ∷ ts) x = by (ended_bare ts x) (is_same t.label x)
  where
    by : ended (task_at (map unnumbered ts) x) ≡ ended (task_at ts x) → (b : Bool) → ended (if b then Some (unnumbered t) else task_at (map unnumbered ts) x) ≡ ended (if b then Some t else task_at ts x)
    by rest true = refl
    by rest false = rest

has_unit : (o : Option ℕ) → is_some {T = ℕ} (option_map (λ u. 0) o) ≡ is_some o
has_unit None = refl
has_unit (Some u) = refl

unit_bare : (ts : List Task) (x : Bytes) → is_some (had_by own_unit (task_at (map unnumbered ts) x)) ≡ is_some (had_by own_unit (task_at ts x))
unit_bare [] x = refl
unit_bare (t ∷ ts) x = by (unit_bare ts x) (is_same t.label x)
  where
    by : is_some (had_by own_unit (task_at (map unnumbered ts) x)) ≡ is_some (had_by own_unit (task_at ts x)) → (b : Bool) →
        is_some (had_by own_unit (if b then Some (unnumbered t) else task_at (map unnumbered ts) x)) ≡ is_some (had_by own_unit (if b then Some t else task_at ts x))
    by rest true = has_unit t.unit
    by rest false = rest

-- ---- Which lanes may give, and whose tasks are within a turn

module _ (m n : Machine) (same : HaveSameFuture m n) where
  -- the same tasks have ended
  pub ended_same : (x : Bytes) → task_ended m x ≡ task_ended n x
  ended_same x = sym (ended_bare m.tasks x) ∙ ap (λ ts. ended (task_at ts x)) same.alike.tasks ∙ ended_bare n.tasks x

  -- the same tasks have an open unit
  pub units_same : (x : Bytes) → is_some (unit_of m x) ≡ is_some (unit_of n x)
  units_same x = sym (unit_bare m.tasks x) ∙ ap (λ ts. is_some (had_by own_unit (task_at ts x))) same.alike.tasks ∙ unit_bare n.tasks x

  ready_same : (label : Option Bytes) → is_ready m label ≡ is_ready n label
  ready_same None = refl
  ready_same (Some label) = λ i. not (ended_same label i) && is_none (command_same m n same label i)

  may_same : (x : Lane) → may_give m x ≡ may_give n x
  may_same x = ap (λ b. is_some (slice_get x.lines x.given) && b) (ready_same x.label)

  unfinished_same : (x : Lane) (label : Option Bytes) → is_unfinished m x label ≡ is_unfinished n x label
  unfinished_same x None = refl
  unfinished_same x (Some label) = λ i. not (ended_same label i) && (units_same label i || is_some (slice_get x.lines x.given))

  turn_same : (x : Lane) → is_in_turn m x ≡ is_in_turn n x
  turn_same x = ap (λ b. goes_on (last_said x.lines x.given) && b) (unfinished_same x x.label)

module _ (told : Bool) (m n : Machine) (same : HaveSameFuture m n) where
  -- what is told by what is seen of a lane, and is the same in both, is so of the same lanes
  same_numbers : (p : Machine → Lane → Bool) → ((k : Machine) (x : Lane) → p k (seen told x) ≡ p k x) → ((x : Lane) → p m x ≡ p n x) → (xs ys : List Lane) (from : ℕ) → sees told xs ≡ sees told ys →
      numbered_from (p m) xs from ≡ numbered_from (p n) ys from
  same_numbers p by_seen both xs ys from alike =
      sym (numbers_mapped (seen told) (p m) (by_seen m) xs from)
      ∙ (λ i. numbered_from (λ x. both x i) (alike i) from)
      ∙ numbers_mapped (seen told) (p n) (by_seen n) ys from

  -- the same lanes may give
  pub giving_same : (xs ys : List Lane) (from : ℕ) → sees told xs ≡ sees told ys → numbered_from (may_give m) xs from ≡ numbered_from (may_give n) ys from
  giving_same = same_numbers may_give (λ k x. refl) (may_same m n same)

  -- the tasks of the same lanes are within a turn
  pub turns_same : (xs ys : List Lane) (from : ℕ) → sees told xs ≡ sees told ys → numbered_from (is_in_turn m) xs from ≡ numbered_from (is_in_turn n) ys from
  turns_same = same_numbers is_in_turn (λ k x. refl) (turn_same m n same)
