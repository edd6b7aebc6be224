-- The plain run of an order's lines goes the way of the order.
use Rattle.std.proofs.Common.{◌≡◌, ℕ, zero, suc, ◌+◌, Bool, true, false, ◌||◌, List, [], ◌∷◌, ◌++◌, map, length, replicate, get_or, Option, None, Some, Result, Ok, refl, ap, sym, ◌∙◌, arith, subst, append_assoc, append-nil}
use Rattle.std.proofs.lemmas.Bool.{and_parts}
use Rattle.std.proofs.lemmas.List.{map-append}
use Rattle.std.specs.Prelude.{is_some, slice_get, slice_set}
use Rattle.std.specs.List.{fold}
use Rattle.cics_names.specs.Keyed.{Bytes}
use Rattle.cics_dispatch.specs.Machine.Machine.{Machine, task_at, initial_region}
use Rattle.cics_script.specs.Lines.{line}
use Rattle.cics_script.specs.declared.lines.Line.{Line}
use Rattle.cics_script.specs.declared.lines.Line.TheVariants as says
use Rattle.cics_script.specs.declared.faults.LineFault.{LineFault}
use Rattle.cics_run.specs.Session.Lines.{all_lines}
use Rattle.cics_run.specs.Session.Running.{Played, next, stepped, start}
use Rattle.cics_run.specs.Stage.Stages.{region_at, region_of, initial_stage, silent, followed}
use Rattle.cics_orders.specs.Space.Orders.{Order, after, IsOneOf, IsWay}
use Rattle.cics_orders.proofs.OfSearch.Regrouping.{Each}
use Rattle.cics_orders.proofs.OfSpace.OrdersLaws.{after-append, way-append}
use Rattle.cics_orders.specs.Plans.Taking.{NumberedLine, initial_taken, taken_apart, planned}
use Rattle.cics_orders.specs.Plans.Proper.{is_proper}
use Rattle.cics_orders.proofs.OfPlans.ProperLaws.{proper_parts, planned_proper}
use Rattle.cics_orders.specs.declared.plans.plans.Plan.{Plan}
use Rattle.cics_orders.specs.declared.plans.plans.Planned.{Planned}
use Rattle.cics_orders.specs.declared.plans.plans.TaskPlan.{TaskPlan}
use Rattle.cics_orders.specs.Giving.{State, is_of, asked, after_asked, may_give, is_ready, givers, with_given, counted, given, lanes, opened, frame, task_lane, initial_lane, initial_state}
use Rattle.cics_orders.proofs.OrderLaws.{May, numbers_may}
use Rattle.cics_orders.proofs.Gists.{Gave, gist, gave_at, stays_given}
use Rattle.cics_orders.proofs.GivenLanes.{IsRight, AreRight, right_frames, right_at, right_initial}
use Rattle.cics_orders.specs.Accepts.{has_lane, AcceptsReady}
use Rattle.cics_orders.proofs.Accepting.{orders_accept}
use Rattle.cics_orders.proofs.Ways.{Holds, holds_along, label_of_lane, right_command, one_of}
use Rattle.cics_orders.specs.declared.lanes.Lane.{Lane}
use Rattle.cics_orders.specs.Report.Along.{Along, lines_of, lane_lines, with_next, given_more, initial_along}
use Rattle.cics_orders.specs.Report.Reporting.{script_text}
use Rattle.cics_orders.specs.Report.Leads.{machine_of, AcceptsLine, AcceptsLines, LeadsTo, ScriptsLeadThere}
use Rattle.cics_orders.proofs.OfReport.ScriptLines.{run_lines, run_bytes, lines_again, all_texts}
use Rattle.cics_orders.proofs.OfReport.Titles.{title, title_is, is_comment}
use Rattle.cics_orders.proofs.OfReport.Opening.{bytes_of, planned_sound}
use Rattle.cics_orders.proofs.OfReport.Leading.{leads_more, right_runs, attaches}

-- ---- Only the lane that gives counts a line

-- how many lines each lane has given
abbrev counts : List Lane → List ℕ
counts xs = map (λ x. x.given) xs

counts_gist : (xs : List Lane) → counts (map gist xs) ≡ counts xs
counts_gist [] = refl
counts_gist (x ∷ xs) = ap (λ ns. x.given ∷ ns) (counts_gist xs)

counts_same : (xs ys : List Lane) → map gist xs ≡ map gist ys → counts xs ≡ counts ys
counts_same xs ys same = sym (counts_gist xs) ∙ ap counts same ∙ counts_gist ys

counts_given : (xs : List Lane) (l : ℕ) (x : Lane) → counts (slice_set xs l (with_given x)) ≡ slice_set (counts xs) l (x.given + 1)
counts_given [] l x = refl
counts_given (y ∷ ys) zero x = refl
counts_given (y ∷ ys) (suc l) x = ap (λ ns. y.given ∷ ns) (counts_given ys l x)

count_at : (xs : List Lane) (l : ℕ) (x : Lane) → slice_get xs l ≡ Some x → get_or (counts xs) l 0 ≡ x.given
count_at [] l x at = cc
count_at (y ∷ ys) zero x at = let same : y ≡ x = cc in ap (λ (z : Lane). z.given) same
count_at (y ∷ ys) (suc l) x at = count_at ys l x at

counts_first : (ts : List TaskPlan) (clock : List NumberedLine) → replicate (length ts + 1) 0 ≡ counts (map task_lane ts ++ initial_lane None clock ∷ [])
counts_first [] clock = refl
counts_first (t ∷ ts) clock =
    let longer : length (t ∷ ts) + 1 ≡ suc (length ts + 1) = omega arith in
    ap (λ n. replicate n 0) longer ∙ ap (λ ns. 0 ∷ ns) (counts_first ts clock)

-- ---- The lines of a lane

frame_at : (xs : List Lane) (l : ℕ) (x : Lane) → slice_get xs l ≡ Some x → slice_get (map frame xs) l ≡ Some (frame x)
frame_at [] l x at = cc
frame_at (y ∷ ys) zero x at = let same : y ≡ x = cc in ap (λ z. Some (frame z)) same
frame_at (y ∷ ys) (suc l) x at = frame_at ys l x at

lines_at : (clock : List NumberedLine) (ts : List TaskPlan) (l : ℕ) (x : Lane) → slice_get (map task_lane ts ++ initial_lane None clock ∷ []) l ≡ Some x →
    lines_of clock (slice_get ts l) ≡ x.lines
lines_at clock [] zero x at = let same : initial_lane None clock ≡ x = cc in ap (λ (z : Lane). z.lines) same
lines_at clock [] (suc l) x at = cc
lines_at clock (t ∷ ts) zero x at = let same : task_lane t ≡ x = cc in ap (λ (z : Lane). z.lines) same
lines_at clock (t ∷ ts) (suc l) x at = lines_at clock ts l x at

-- ---- The lane of a label

-- a lane is one of its label
lane_there : (xs : List Lane) (l : ℕ) (x : Lane) (label : Bytes) → slice_get xs l ≡ Some x → is_of x label ≡ true → has_lane xs label ≡ true
lane_there [] l x label at own = cc
lane_there (y ∷ ys) zero x label at own = let same : y ≡ x = cc in ap (λ b. b || has_lane ys label) (ap (λ z. is_of z label) same ∙ own)
lane_there (y ∷ ys) (suc l) x label at own = or_there (is_of y label) (has_lane ys label) (lane_there ys l x label at own)
  where
    or_there : (a b : Bool) → b ≡ true → (a || b) ≡ true
    or_there true b is = refl
    or_there false b is = is

-- a lane that is ready isn't refused its line
accepted : (s : State) (l : ℕ) (x : Lane) → AcceptsReady s → slice_get s.lanes l ≡ Some x → is_ready s.machine x.label ≡ true →
    (r : Result Line LineFault) → IsRight x.label r → AcceptsLine s.machine r
accepted s l x accepts at ready (Ok (says.Issue label c)) right =
    let own : x.label ≡ Some label = right_command x.label label c right in
    accepts label c (lane_there s.lanes l x label at (label_of_lane x.label x label own)) (ap (is_ready s.machine) (sym own) ∙ ready)
accepted s l x accepts at ready (Ok (says.Attach label transaction dtimout)) right = not_attach x.label right
  where
    not_attach : (l : Option Bytes) → IsRight l (Ok (says.Attach label transaction dtimout)) → AcceptsLine s.machine (Ok (says.Attach label transaction dtimout))
    not_attach None right = cc
    not_attach (Some k) right = cc
accepted s l x accepts at ready _ right = tt

-- ---- A way

-- a run came to a state by the lines that its lanes gave
record Led (q : Played) (s : State) (before : List Bytes) (a : Along) : Type 0 where
  counts : a.0 ≡ counts s.lanes
  leads : LeadsTo q s.machine (before ++ bytes_of a.1)

module _ (q : Played) (p : Plan) (proper : is_proper p ≡ true) (before : List Bytes) where
  -- the line of a lane
  next_led : (s : State) → Holds p s → AcceptsReady s → (a : Along) → Led q s before a → (l : ℕ) (x : Lane) → slice_get s.lanes l ≡ Some x →
      is_ready s.machine x.label ≡ true → (next : NumberedLine) → slice_get x.lines x.given ≡ Some next → Led q (given s l) before (given_more p a l)
  unfolding given
  next_led s holds accepts a led l x at ready next is = record {
    counts = ap (λ (b : Along). b.0) along ∙ ap (λ ns. slice_set ns l (x.given + 1)) led.counts ∙ sym counts_now;
    leads = subst (λ b. LeadsTo q (given s l).machine (before ++ bytes_of b)) (sym (ap (λ (b : Along). b.1) along)) leads_now;
  }
    where
      c : State
      c = counted s l x

      gives : Gave s l x next
      gives = gave_at s l x next at is

      after_it : given s l ≡ after_asked c (asked (line next.1))
      after_it = gives.is

      lines_same : lane_lines p l ≡ x.lines
      lines_same = lines_at p.clock p.tasks l (frame x) (ap (λ xs. slice_get xs l) (sym holds.frames) ∙ frame_at s.lanes l x at)

      count_same : get_or a.0 l 0 ≡ x.given
      count_same = ap (λ ns. get_or ns l 0) led.counts ∙ count_at s.lanes l x at

      along : given_more p a l ≡ (slice_set a.0 l (x.given + 1), a.1 ++ next ∷ [])
      along =
          (λ i. with_next a l (slice_get (lines_same i) (count_same i))) ∙ ap (with_next a l) is
          ∙ ap (λ n. (slice_set a.0 l (n + 1), a.1 ++ next ∷ [])) count_same

      counts_now : counts (given s l).lanes ≡ slice_set (counts s.lanes) l (x.given + 1)
      counts_now = counts_same (given s l).lanes c.lanes (stays_given s l x next gives).gists ∙ counts_given s.lanes l x

      right : IsRight x.label (line next.1)
      right = right_at s.lanes l x (right_frames s.lanes (subst AreRight (sym holds.frames) (right_initial p proper))) at x.given next is

      one : LeadsTo q (given s l).machine ((before ++ bytes_of a.1) ++ next.1 ∷ [])
      one =
          subst (λ (t : State). LeadsTo q t.machine ((before ++ bytes_of a.1) ++ next.1 ∷ [])) (sym after_it)
          (leads_more q s.machine (after_asked c (asked (line next.1))).machine (before ++ bytes_of a.1) next.1 led.leads
          (accepted s l x accepts at ready (line next.1) right)
          (λ stage at. right_runs stage c x.label (line next.1) right at))

      leads_now : LeadsTo q (given s l).machine (before ++ bytes_of (a.1 ++ next ∷ []))
      leads_now =
          subst (LeadsTo q (given s l).machine)
          (append_assoc before (bytes_of a.1) (next.1 ∷ []) ∙ ap (λ xs. before ++ xs) (sym (map-append (λ (n : NumberedLine). n.1) a.1 (next ∷ [])))) one

  -- a lane that may give
  lane_led : (s : State) → Holds p s → AcceptsReady s → (a : Along) → Led q s before a → (l : ℕ) → IsOneOf l (givers s 0) → Led q (given s l) before (given_more p a l)
  lane_led s holds accepts a led l one =
      let may = one_of (May (may_give s.machine) s.lanes) (givers s 0) l (numbers_may (may_give s.machine) s.lanes 0 s.lanes refl) one in
      let both = and_parts (is_some (slice_get may.one.lines may.one.given)) (is_ready s.machine may.one.label) may.does in
      by may.one may.at both.1 (slice_get may.one.lines may.one.given) refl both.0
    where
      by : (x : Lane) → slice_get s.lanes l ≡ Some x → is_ready s.machine x.label ≡ true → (o : Option NumberedLine) → slice_get x.lines x.given ≡ o → is_some o ≡ true →
          Led q (given s l) before (given_more p a l)
      by x at ready None is there = cc
      by x at ready (Some next) is there = next_led s holds accepts a led l x at ready next is

  way_led : (done : Order) → IsWay lanes (initial_state p) done → (a : Along) → Led q (after lanes (initial_state p) done) before a →
      (o : Order) → IsWay lanes (after lanes (initial_state p) done) o →
      Led q (after lanes (after lanes (initial_state p) done) o) before (fold (given_more p) a o)
  way_led done way a led [] rest = led
  way_led done way a led (l ∷ o) (one, rest) =
      let s = after lanes (initial_state p) done in
      let same : after lanes (initial_state p) (done ++ l ∷ []) ≡ given s l = after-append lanes (initial_state p) done l in
      let next = lane_led s (holds_along p proper done way) (orders_accept p done) a led l one in
      subst (λ t. Led q (after lanes t o) before (fold (given_more p) a (l ∷ o))) same
      (way_led (done ++ l ∷ []) (way-append lanes (initial_state p) done l way one) (given_more p a l)
      (subst (λ t. Led q t before (given_more p a l)) (sym same) next) o (subst (λ t. IsWay lanes t o) (sym same) rest))

-- ---- A script

-- a run that nothing is defined in goes the way of an order by its lines
pub run_leads : (q : Played) → q.fault ≡ None → q.stage ≡ initial_stage → (script : List Bytes) (p : Planned) (o : Order) →
    planned (taken_apart initial_taken 1 script) ≡ Ok p → IsWay lanes (initial_state p.plan) o →
    LeadsTo q (after lanes (initial_state p.plan) o).machine (run_lines p.plan o)
unfolding initial_state
run_leads q none start script taken o is way =
    let p = taken.plan in
    let proper = planned_proper script taken is in
    let sound = planned_sound q none start script taken is in
    let m = initial_region (opened p.definitions) in
    let before = bytes_of p.definitions in
    let defined : LeadsTo q m before
    = record { fault = sound.defines.fault; accepts = sound.defines.accepts; region = ap region_of sound.defines.stage } in
    let attached = attaches q p.tasks m before (proper_parts p proper).distinct sound.attaches (record { up = refl; idle = refl; fresh = first p.tasks }) defined in
    let tasks = bytes_of (map (λ t. t.attach) p.tasks) in
    let led : Led q (initial_state p) (before ++ tasks) (initial_along p)
    = record { counts = counts_first p.tasks p.clock; leads = subst (LeadsTo q (initial_state p).machine) (sym (append-nil (before ++ tasks))) attached } in
    subst (LeadsTo q (after lanes (initial_state p) o).machine) (append_assoc before tasks (bytes_of (fold (given_more p) (initial_along p) o).1))
    (way_led q p proper (before ++ tasks) [] tt (initial_along p) led o way).leads
  where
    first : (ts : List TaskPlan) → Each (λ (t : TaskPlan). task_at [] t.label ≡ None) ts
    first [] = tt
    first (t ∷ ts) = (refl, first ts)

-- a title is put in front of the lines
pub scripts_lead : ScriptsLeadThere
scripts_lead script p r k e is way titled =
    record {
      fault = subst (λ ls. (fold next start ls).fault ≡ None) (sym again) led.fault;
      accepts = subst (AcceptsLines start) (sym again) accepts;
      region = subst (λ ls. region_of (fold next start ls).stage ≡ region_at m) (sym again) led.region;
    }
  where
    comment : line (title r k e) ≡ Ok says.Blank
    comment = is_comment r k e titled

    q : Played
    q = next start (title r k e)

    m : Machine
    m = (after lanes (initial_state p.plan) e.order).machine

    lines : List Bytes
    lines = title r k e ∷ run_lines p.plan e.order

    behind : q ≡ stepped start (title r k e) (silent initial_stage)
    behind = ap (λ says. stepped start (title r k e) (followed initial_stage says)) comment

    led : LeadsTo q m (run_lines p.plan e.order)
    led = run_leads q (ap (λ (q : Played). q.fault) behind) (ap (λ (q : Played). q.stage) behind) script p e.order is way

    accepts : AcceptsLines start lines
    accepts = (subst (AcceptsLine (machine_of start)) (sym comment) tt, led.accepts)

    again : all_lines (script_text p.plan r k e) ≡ lines
    again = ap all_lines (λ i. title_is r k e i ++ run_bytes p.plan e.order i) ∙ lines_again lines (all_texts lines start led.fault)
