-- Along each way a region is steady, lanes keep their labels and lines, and each waiting command is
-- the one that the lane of its task gave last.
use Rattle.std.proofs.Common.{◌≡◌, ℕ, Bool, true, false, not, ◌&&◌, List, [], ◌∷◌, ◌++◌, map, Option, None, Some, option_map, Result, Ok, refl, ap, sym, ◌∙◌, subst, inl, inr}
use Rattle.std.proofs.lemmas.Bool.{and_parts}
use Rattle.std.specs.Prelude.{if◌then◌else◌, is_none, is_some, slice_get}
use Rattle.std.specs.List.{fold}
use Rattle.cics_names.specs.Keyed.{Bytes, Map, is_same, value_at, with_value, is_rising}
use Rattle.cics_names.specs.KeyedLaws.{is_same-self, is_same-eq, value_at-with_value}
use Rattle.cics_names.specs.declared.commands.Command.{Command}
use Rattle.cics_ksds.specs.Files.{key_of}
use Rattle.cics_history.specs.State.{OpeningState, FileOpening, QueueOpening}
use Rattle.cics_history.specs.Openings.{initial_opening, loaded_file, is_in_order, IsOpeningInOrder}
use Rattle.cics_history.specs.declared.ops.UnitState.TheVariants.{BackedOut}
use Rattle.cics_history.proofs.Maps.{rising-with_value}
use Rattle.cics_dispatch.specs.Machine.Machine.{Machine, Task, Suspended, is_waiting, with_waiting, unit_closed, initial_region}
use Rattle.cics_dispatch.specs.Machine.Checks.{fault_of}
use Rattle.cics_dispatch.specs.Machine.Blockers.{waiting_command}
use Rattle.cics_dispatch.specs.Machine.Events.{task_ended, played}
use Rattle.cics_dispatch.specs.Machine.Waits.{wait_of}
use Rattle.cics_dispatch.specs.Machine.Shutdown.{all_ended}
use Rattle.cics_dispatch.specs.declared.machine.events.Request.{Request}
use Rattle.cics_dispatch.specs.declared.machine.events.Request.TheVariants as request
use Rattle.cics_dispatch.proofs.OfMachine.TaskPlaces.{place_of_task}
use Rattle.cics_dispatch.specs.Future.Futures.{IsSteady}
use Rattle.cics_dispatch.proofs.OfFuture.Events.{same_itself, same_begins}
use Rattle.cics_script.specs.Lines.{line}
use Rattle.cics_script.specs.declared.lines.Line.{Line}
use Rattle.cics_script.specs.declared.lines.Line.TheVariants as says
use Rattle.cics_script.specs.declared.faults.LineFault.{LineFault}
use Rattle.cics_orders.proofs.OfSearch.Regrouping.{Each}
use Rattle.cics_orders.specs.Space.Orders.{Order, after, IsOneOf, IsWay}
use Rattle.cics_orders.specs.Plans.Defining.{defined_by}
use Rattle.cics_orders.specs.Plans.Proper.{is_proper}
use Rattle.cics_orders.specs.Plans.Taking.{NumberedLine}
use Rattle.cics_orders.specs.declared.plans.plans.Plan.{Plan}
use Rattle.cics_orders.specs.declared.plans.plans.TaskPlan.{TaskPlan}
use Rattle.cics_orders.specs.Giving.{State, is_labelled, is_of, asked, after_asked, is_ready, may_give, givers, counted, given_line, given_by, given, lanes, defined_more, opened, with_task, frame, initial_lanes, initial_state}
use Rattle.cics_orders.specs.declared.lanes.Lane.{Lane}
use Rattle.cics_orders.specs.Same.{SameState}
use Rattle.cics_orders.proofs.OrderLaws.{May, numbers_may, plan_stays}
use Rattle.cics_orders.proofs.CommandSteps.{closes, checked_keeps}
use Rattle.cics_orders.proofs.EventCases.{issue_cases, clock_cases, shutdown_cases, attach_cases, happening_keeps}
use Rattle.cics_orders.proofs.Gists.{stays_asked}
use Rattle.cics_orders.proofs.GivenLanes.{IsRight, AreApart, AreRight, gists_gave, apart_frames, right_frames, right_at, command_given, waits_given, apart_initial, right_initial, frames_initial, frames_along}
use Rattle.cics_orders.proofs.GivenWaits.{said, command_of, given_as, AreGiven, Keeps, waits_kept, may_wait, turn_waits}
use Rattle.cics_orders.proofs.SameSteps.{given_alike, attached_steady}

-- ---- What is defined

named_in_order : (o : OpeningState) (name : Bytes) (file : FileOpening) → IsOpeningInOrder o → is_rising file.records ≡ true →
    IsOpeningInOrder (record { files = with_value name file o.files; prefixes = o.prefixes; queues = o.queues })
named_in_order o name file order rising = record {
  files = rising-with_value name file o.files order.files;
  records = λ f. ap (λ e. is_in_order (option_map (λ e. e.records) e)) (value_at-with_value f name file o.files) ∙ by f (is_same f name);
  queues = order.queues;
}
  where
    by : (f : Bytes) (b : Bool) → is_in_order (option_map (λ e. e.records) (if b then Some file else value_at f o.files)) ≡ true
    by f true = rising
    by f false = order.records f

queued_in_order : (o : OpeningState) (name : Bytes) (queue : QueueOpening) → IsOpeningInOrder o →
    IsOpeningInOrder (record { files = o.files; prefixes = o.prefixes; queues = with_value name queue o.queues })
queued_in_order o name queue order = record { files = order.files; records = order.records; queues = rising-with_value name queue o.queues order.queues }

defined_in_order : (o : OpeningState) → IsOpeningInOrder o → (r : Result Line LineFault) → IsOpeningInOrder (defined_by o r)
unfolding defined_by
defined_in_order o order (Ok (says.DefineFile name d)) = named_in_order o name (record { definition = d; records = [] }) order refl
defined_in_order o order (Ok (says.DefineTsPrefix prefix)) = record { files = order.files; records = order.records; queues = order.queues }
defined_in_order o order (Ok (says.DefineTd name recovery)) = queued_in_order o name (record { recovery = recovery; records = [] }) order
defined_in_order o order (Ok (says.LoadFile name content)) = by (value_at name o.files) refl
  where
    changed : Option FileOpening → Map FileOpening
    changed None = o.files
    changed (Some file) = with_value name (loaded_file file content) o.files

    by : (e : Option FileOpening) → value_at name o.files ≡ e → IsOpeningInOrder (record { files = changed e; prefixes = o.prefixes; queues = o.queues })
    by None is = record { files = order.files; records = order.records; queues = order.queues }
    by (Some file) is =
        named_in_order o name (loaded_file file content) order
        (rising-with_value (key_of file.definition content) content file.records (sym (ap (λ e. is_in_order (option_map (λ e. e.records) e)) is) ∙ order.records name))
defined_in_order o order (Ok (says.LoadTd name content)) = by (value_at name o.queues)
  where
    changed : Option QueueOpening → Map QueueOpening
    changed None = o.queues
    changed (Some queue) = with_value name (record { recovery = queue.recovery; records = queue.records ++ content ∷ [] }) o.queues

    by : (e : Option QueueOpening) → IsOpeningInOrder (record { files = o.files; prefixes = o.prefixes; queues = changed e })
    by None = record { files = order.files; records = order.records; queues = order.queues }
    by (Some queue) = queued_in_order o name (record { recovery = queue.recovery; records = queue.records ++ content ∷ [] }) order
defined_in_order o order _ = order

more_in_order : (lines : List NumberedLine) (o : OpeningState) → IsOpeningInOrder o → IsOpeningInOrder (defined_more o lines)
more_in_order [] o order = order
more_in_order (next ∷ lines) o order = more_in_order lines (defined_by o (line next.1)) (defined_in_order o order (line next.1))

opened_in_order : (lines : List NumberedLine) → IsOpeningInOrder (opened lines)
opened_in_order lines = more_in_order lines initial_opening (record { files = refl; records = λ f. refl; queues = refl })

-- ---- The initial state

tasks_steady : (ts : List TaskPlan) (m : Machine) → IsSteady m → IsSteady (fold with_task m ts)
tasks_steady [] m steady = steady
tasks_steady (t ∷ ts) m steady = tasks_steady ts (with_task m t) (attached_steady m t steady)

task_opening : (m : Machine) (t : TaskPlan) → (with_task m t).units.opening ≡ m.units.opening
task_opening m t = attach_cases (λ n. n.units.opening ≡ m.units.opening) m refl t refl

tasks_opening : (ts : List TaskPlan) (m : Machine) → (fold with_task m ts).units.opening ≡ m.units.opening
tasks_opening [] m = refl
tasks_opening (t ∷ ts) m = tasks_opening ts (with_task m t) ∙ task_opening m t

-- an attach makes no command wait
task_waits : (m : Machine) (t : TaskPlan) → (with_task m t).waiting ≡ m.waiting
task_waits m t = attach_cases (λ n. n.waiting ≡ m.waiting) m refl t refl

-- to attach tasks changes no wait
pub attaches_wait : (m : Machine) (ts : List TaskPlan) → (fold with_task m ts).waiting ≡ m.waiting
attaches_wait m [] = refl
attaches_wait m (t ∷ ts) = attaches_wait (with_task m t) ts ∙ task_waits m t

-- ---- What lines ask

module _ (begun : OpeningState) where
  all_keep : (xs : List Lane) (ts : List Task) (n : Machine) → Keeps xs begun n → Keeps xs begun (all_ended n ts)
  all_keep xs [] n keeps = keeps
  all_keep xs (t ∷ ts) n keeps = all_keep xs ts (unit_closed n t BackedOut true) (closes (Keeps xs begun) (waits_kept xs begun) n t BackedOut true keeps)

  -- the line that a lane gave last is a command of its task, or none
  abbrev IsOwn : List Lane → Result Line LineFault → Type 0
  IsOwn xs r = (label : Bytes) (c : Command) → r ≡ Ok (says.Issue label c) → command_of xs label ≡ Some c

  played_keeps : (xs : List Lane) (m : Machine) (r : Result Line LineFault) (q : Request) → asked r ≡ Some q → IsOwn xs r → Keeps xs begun m → Keeps xs begun (played m q).machine
  played_keeps xs m (Ok (says.Issue label c)) q is own keeps =
      let same : request.Issue label c ≡ q = cc in
      subst (λ q. Keeps xs begun (played m q).machine) same
      (issue_cases (Keeps xs begun) m keeps label c
      (λ up t at ended waits.
      checked_keeps (Keeps xs begun) (waits_kept xs begun) m t c
      (may_wait xs begun t.label c (ap (command_of xs) (place_of_task m.tasks label t at).2 ∙ own label c refl)) keeps (fault_of m t c.verb)))
  played_keeps xs m (Ok (says.Clock seconds)) q is own keeps =
      let same : request.Clock seconds ≡ q = cc in
      subst (λ q. Keeps xs begun (played m q).machine) same (clock_cases (Keeps xs begun) m keeps seconds (record { waits = keeps.waits; opening = keeps.opening }))
  played_keeps xs m (Ok says.Shutdown) q is own keeps =
      let same : request.Shutdown ≡ q = cc in
      let all = all_keep xs m.tasks (with_waiting m []) (record { waits = tt; opening = keeps.opening }) in
      subst (λ q. Keeps xs begun (played m q).machine) same (shutdown_cases (Keeps xs begun) m keeps (λ up. record { waits = all.waits; opening = all.opening }))
  played_keeps xs m _ q is own keeps = cc

  asked_keeps : (s : State) (r : Result Line LineFault) → IsOwn s.lanes r → Keeps s.lanes begun s.machine → Keeps (after_asked s (asked r)).lanes begun (after_asked s (asked r)).machine
  asked_keeps s r own keeps = by (asked r) refl
    where
      by : (o : Option Request) → asked r ≡ o → Keeps (after_asked s o).lanes begun (after_asked s o).machine
      by None is = keeps
      by (Some q) is =
          let t = after_asked s (Some q) in
          let all = happening_keeps (Keeps s.lanes begun) (turn_waits s.lanes begun) s.machine q (played_keeps s.lanes s.machine r q is own keeps) in
          record {
            waits = given_as s.lanes t.lanes (λ label. sym (gists_gave t.lanes s.lanes (stays_asked s (Some q)).gists label)) t.machine.waiting all.waits;
            opening = all.opening;
          }

-- ---- A lane gives

-- a task without a waiting command doesn't wait
pub none_waits : (ws : List Suspended) (label : Bytes) → is_none (option_map (λ w. w.command) (wait_of ws label)) ≡ true → is_waiting ws label ≡ false
none_waits [] label none = refl
none_waits (w ∷ ws) label none = by (none_waits ws label) (is_same w.label label) none
  where
    by : (is_none (option_map (λ w. w.command) (wait_of ws label)) ≡ true → is_waiting ws label ≡ false) → (b : Bool) →
        is_none (option_map (λ w. w.command) (if b then Some w else wait_of ws label)) ≡ true → (if b then true else is_waiting ws label) ≡ false
    by rest true none = cc
    by rest false none = rest none

-- whose lane it is
of_label : (l : Option Bytes) (label : Bytes) → is_labelled l label ≡ true → l ≡ Some label
of_label None label own = cc
of_label (Some k) label own = ap Some (is_same-eq k label own)

-- a lane with a label is that of the label
pub label_of_lane : (l : Option Bytes) (x : Lane) (label : Bytes) → l ≡ Some label → is_of (record x { label = l }) label ≡ true
label_of_lane None x label own = cc
label_of_lane (Some k) x label own = let same : k ≡ label = cc in ap (λ k. is_same k label) same ∙ is_same-self label

-- a right line that is a command is one of its lane's task
pub right_command : (l : Option Bytes) (label : Bytes) (c : Command) → IsRight l (Ok (says.Issue label c)) → l ≡ Some label
right_command None label c right = cc
right_command (Some k) label c right = ap Some (sym (is_same-eq label k right))

module _ (begun : OpeningState) (s : State) (l : ℕ) (x : Lane) (keeps : Keeps s.lanes begun s.machine) (apart : AreApart s.lanes) (right : AreRight s.lanes)
    (at : slice_get s.lanes l ≡ Some x) where
  idle : is_ready s.machine x.label ≡ true → (label : Bytes) → is_of x label ≡ true → is_waiting s.machine.waiting label ≡ false
  idle ready label own =
      let mine : x.label ≡ Some label = of_label x.label label own in
      let told : is_ready s.machine (Some label) ≡ true = ap (is_ready s.machine) (sym mine) ∙ ready in
      none_waits s.machine.waiting label (and_parts (not (task_ended s.machine label)) (is_none (waiting_command s.machine label)) told).1

  next_keeps : (next : NumberedLine) → slice_get x.lines x.given ≡ Some next → is_ready s.machine x.label ≡ true →
      Keeps (given_line s l x (Some next)).lanes begun (given_line s l x (Some next)).machine
  next_keeps next is ready =
      asked_keeps begun (counted s l x) (line next.1) own (record { waits = waits_given s.lanes l x at s.machine.waiting (idle ready) keeps.waits; opening = keeps.opening })
    where
      own : (label : Bytes) (c : Command) → line next.1 ≡ Ok (says.Issue label c) → command_of (counted s l x).lanes label ≡ Some c
      own label c says_it =
          let mine : x.label ≡ Some label = right_command x.label label c (subst (IsRight x.label) says_it (right_at s.lanes l x right at x.given next is)) in
          command_given s.lanes l x label next at (label_of_lane x.label x label mine) apart is ∙ ap said says_it

  given_keeps : may_give s.machine x ≡ true → Keeps (given s l).lanes begun (given s l).machine
  unfolding given
  given_keeps may = subst (λ o. Keeps (given_by s l o).lanes begun (given_by s l o).machine) (sym at) (by (slice_get x.lines x.given) refl may)
    where
      by : (o : Option NumberedLine) → slice_get x.lines x.given ≡ o → (is_some o && is_ready s.machine x.label) ≡ true → Keeps (given_line s l x o).lanes begun (given_line s l x o).machine
      by None is may = keeps
      by (Some next) is may = next_keeps next is may

-- ---- Ways

-- what holds after each way from the initial state of a proper plan
pub record Holds (p : Plan) (s : State) : Type 0 where
  pub plan : s.plan ≡ p
  pub steady : IsSteady s.machine
  pub keeps : Keeps s.lanes (opened p.definitions) s.machine
  pub frames : map frame s.lanes ≡ initial_lanes p

-- what holds of each in a list holds of one in it
pub one_of : (P : ℕ → Type 0) (ls : List ℕ) (l : ℕ) → Each P ls → IsOneOf l ls → P l
one_of P [] l each one = absurd one
one_of P (k ∷ ks) l (first, each) (inl same) = subst P (sym same) first
one_of P (k ∷ ks) l (first, each) (inr one) = one_of P ks l each one

module _ (p : Plan) (proper : is_proper p ≡ true) where
  holds_initial : Holds p (initial_state p)
  unfolding initial_state
  holds_initial =
      let begun = initial_region (opened p.definitions) in
      record {
        plan = refl;
        steady = tasks_steady p.tasks begun (same_begins (opened p.definitions) (opened_in_order p.definitions)).first;
        keeps = record {
          waits = subst (AreGiven (initial_lanes p)) (sym (attaches_wait begun p.tasks)) tt;
          opening = tasks_opening p.tasks begun;
        };
        frames = frames_initial p;
      }

  holds_given : (s : State) (l : ℕ) → Holds p s → IsOneOf l (givers s 0) → Holds p (given s l)
  holds_given s l holds one =
      let may = one_of (May (may_give s.machine) s.lanes) (givers s 0) l (numbers_may (may_give s.machine) s.lanes 0 s.lanes refl) one in
      let apart = apart_frames s.lanes (subst AreApart (sym holds.frames) (apart_initial p proper)) in
      let right = right_frames s.lanes (subst AreRight (sym holds.frames) (right_initial p proper)) in
      let itself : SameState true s s = record { plan = refl; machine = same_itself s.machine holds.steady; lanes = refl } in
      record {
        plan = plan_stays s l ∙ holds.plan;
        steady = (given_alike true s s l itself).machine.first;
        keeps = given_keeps (opened p.definitions) s l may.one holds.keeps apart right may.at may.does;
        frames = frames_along s (l ∷ []) ∙ holds.frames;
      }

  holds_after : (s : State) (o : Order) → Holds p s → IsWay lanes s o → Holds p (after lanes s o)
  holds_after s [] holds way = holds
  holds_after s (l ∷ o) holds (one, way) = holds_after (given s l) o (holds_given s l holds one) way

  -- after each way
  pub holds_along : (o : Order) → IsWay lanes (initial_state p) o → Holds p (after lanes (initial_state p) o)
  holds_along o way = holds_after (initial_state p) o holds_initial way
