-- Lanes keep their labels and lines, and tell which command each gave last.
use Rattle.std.proofs.Common.{◌≡◌, ◌⊎◌, inl, inr, ℕ, zero, suc, ◌+◌, ◌-◌, Bool, true, false, not, List, [], ◌∷◌, ◌++◌, map, Option, None, Some, Result, refl, ap, sym, ◌∙◌, subst, arith}
use Rattle.std.proofs.lemmas.Bool.{true≢false, and_parts, not-true, false_from_ne_true}
use Rattle.std.specs.Prelude.{if◌then◌else◌, slice_get, slice_set, option_and_then}
use Rattle.std.specs.List.{list_all}
use Rattle.cics_names.specs.Keyed.{Bytes, is_same}
use Rattle.cics_names.specs.KeyedLaws.{is_same-self, is_same-eq}
use Rattle.cics_dispatch.specs.Machine.Machine.{Suspended, is_waiting}
use Rattle.cics_script.specs.Lines.{line}
use Rattle.cics_script.specs.declared.lines.Line.{Line}
use Rattle.cics_script.specs.declared.faults.LineFault.{LineFault}
use Rattle.cics_orders.specs.Space.Orders.{Order, after}
use Rattle.cics_orders.specs.Plans.Taking.{NumberedLine, has_task}
use Rattle.cics_orders.specs.Plans.Proper.{is_command_of, is_timing, has_own_lines, are_distinct, is_proper}
use Rattle.cics_orders.proofs.OfPlans.ProperLaws.{has_first, proper_parts}
use Rattle.cics_orders.specs.declared.plans.plans.Plan.{Plan}
use Rattle.cics_orders.specs.declared.plans.plans.TaskPlan.{TaskPlan}
use Rattle.cics_orders.specs.Giving.{State, is_of, with_given, counted, given, lanes, initial_lane, frame, task_lane, initial_lanes, initial_machine, initial_state}
use Rattle.cics_orders.proofs.Gists.{gist, Gave, gave, stays_given}
use Rattle.cics_orders.specs.declared.lanes.Lane.{Lane}
use Rattle.cics_orders.specs.Stamps.{seen}
use Rattle.cics_orders.proofs.GivenWaits.{said, last_command, command_of, AreGiven}

-- the gist of a lane tells its last command
commands_gist : (xs : List Lane) (label : Bytes) → command_of (map gist xs) label ≡ command_of xs label
commands_gist [] label = refl
commands_gist (x ∷ xs) label = ap (λ o. if is_of x label then last_command x else o) (commands_gist xs label)

-- lanes with the same gists gave the same last
pub gists_gave : (xs ys : List Lane) → map gist xs ≡ map gist ys → (label : Bytes) → command_of xs label ≡ command_of ys label
gists_gave xs ys same label = sym (commands_gist xs label) ∙ ap (λ zs. command_of zs label) same ∙ commands_gist ys label

-- the gist of a lane tells its frame
frames_gist : (xs : List Lane) → map frame (map gist xs) ≡ map frame xs
frames_gist [] = refl
frames_gist (x ∷ xs) = ap (λ ys. frame x ∷ ys) (frames_gist xs)

-- lanes with the same gists have the same frames
gist_frames : (xs ys : List Lane) → map gist xs ≡ map gist ys → map frame xs ≡ map frame ys
gist_frames xs ys same = sym (frames_gist xs) ∙ ap (map frame) same ∙ frames_gist ys

-- lanes of which the same is seen gave the same
module _ (told : Bool) where
  commands_seen : (xs : List Lane) (label : Bytes) → command_of (map (seen told) xs) label ≡ command_of xs label
  commands_seen [] label = refl
  commands_seen (x ∷ xs) label = ap (λ o. if is_of x label then last_command x else o) (commands_seen xs label)

  pub seen_gave : (xs ys : List Lane) → map (seen told) xs ≡ map (seen told) ys → (label : Bytes) → command_of xs label ≡ command_of ys label
  seen_gave xs ys same label = sym (commands_seen xs label) ∙ ap (λ zs. command_of zs label) same ∙ commands_seen ys label

-- ---- Labels are apart, and lines are right

-- no lane is of a label
abbrev pub NoneOf : List Lane → Bytes → Type 0
NoneOf [] label = Unit {0}
NoneOf (x ∷ xs) label = (is_of x label ≡ false) × NoneOf xs label

-- no two lanes are of one label
abbrev pub AreApart : List Lane → Type 0
AreApart [] = Unit {0}
AreApart (x ∷ xs) = ((label : Bytes) → is_of x label ≡ true → NoneOf xs label) × AreApart xs

-- a line of a task is a command of it, and one of the clock is none
abbrev pub IsRight : Option Bytes → Result Line LineFault → Type 0
IsRight None r = is_timing r ≡ true
IsRight (Some label) r = is_command_of label r ≡ true

-- each line of a lane is right
abbrev pub HasRight : Lane → Type 0
HasRight x = (k : ℕ) (next : NumberedLine) → slice_get x.lines k ≡ Some next → IsRight x.label (line next.1)

-- each line of each lane is right for it
abbrev pub AreRight : List Lane → Type 0
AreRight [] = Unit {0}
AreRight (x ∷ xs) = HasRight x × AreRight xs

none_frames : (xs : List Lane) (label : Bytes) → NoneOf (map frame xs) label → NoneOf xs label
none_frames [] label none = tt
none_frames (x ∷ xs) label (first, none) = (first, none_frames xs label none)

-- lanes whose frames have different labels have different labels
pub apart_frames : (xs : List Lane) → AreApart (map frame xs) → AreApart xs
apart_frames [] apart = tt
apart_frames (x ∷ xs) (first, apart) = (λ label own. none_frames xs label (first label own), apart_frames xs apart)

-- lanes whose frames are right are right
pub right_frames : (xs : List Lane) → AreRight (map frame xs) → AreRight xs
right_frames [] right = tt
right_frames (x ∷ xs) (first, right) = (first, right_frames xs right)

-- each of right lanes is right
pub right_at : (xs : List Lane) (l : ℕ) (x : Lane) → AreRight xs → slice_get xs l ≡ Some x → HasRight x
right_at [] l x right at = cc
right_at (y ∷ ys) zero x (first, right) at = let same : y ≡ x = cc in subst HasRight same first
right_at (y ∷ ys) (suc l) x (first, right) at = right_at ys l x right at

-- if no lane is of a label, none at an index is
pub none_at : (xs : List Lane) (l : ℕ) (x : Lane) (label : Bytes) → NoneOf xs label → slice_get xs l ≡ Some x → is_of x label ≡ false
none_at [] l x label none at = cc
none_at (y ∷ ys) zero x label (first, none) at = let same : y ≡ x = cc in subst (λ z. is_of z label ≡ false) same first
none_at (y ∷ ys) (suc l) x label (first, none) at = none_at ys l x label none at

-- ---- A lane gives

-- a line that a lane gives leaves all frames as they are
pub frames_given : (xs : List Lane) (l : ℕ) (x : Lane) → slice_get xs l ≡ Some x → map frame (slice_set xs l (with_given x)) ≡ map frame xs
frames_given [] l x at = refl
frames_given (y ∷ ys) zero x at = let same : y ≡ x = cc in ap (λ z. frame z ∷ map frame ys) (sym same)
frames_given (y ∷ ys) (suc l) x at = ap (λ zs. frame y ∷ zs) (frames_given ys l x at)

-- an order leaves all frames as they are
frames_stay : (s : State) (l : ℕ) → map frame (given s l).lanes ≡ map frame s.lanes
frames_stay s l = by (gave s l)
  where
    by : (given s l ≡ s) ⊎ ((x : Lane) × (next : NumberedLine) × Gave s l x next) → map frame (given s l).lanes ≡ map frame s.lanes
    by (inl same) = ap (λ (t : State). map frame t.lanes) same
    by (inr (x, next, gave)) = gist_frames (given s l).lanes (counted s l x).lanes (stays_given s l x next gave).gists ∙ frames_given s.lanes l x gave.at

pub frames_along : (s : State) (o : Order) → map frame (after lanes s o).lanes ≡ map frame s.lanes
frames_along s [] = refl
frames_along s (l ∷ o) = frames_along (given s l) o ∙ frames_stay s l

-- other lanes gave what they gave
other_given : (xs : List Lane) (l : ℕ) (x : Lane) (label : Bytes) → slice_get xs l ≡ Some x → is_of x label ≡ false →
    command_of (slice_set xs l (with_given x)) label ≡ command_of xs label
other_given [] l x label at other = refl
other_given (y ∷ ys) zero x label at other =
    let same : y ≡ x = cc in
    ap (λ b. if b then last_command (with_given x) else command_of ys label) other
    ∙ sym (ap (λ b. if b then last_command y else command_of ys label) (ap (λ z. is_of z label) same ∙ other))
other_given (y ∷ ys) (suc l) x label at other = ap (λ o. if is_of y label then last_command y else o) (other_given ys l x label at other)

-- the lane of a label gave this line last
own_given : (xs : List Lane) (l : ℕ) (x : Lane) (label : Bytes) → slice_get xs l ≡ Some x → is_of x label ≡ true → AreApart xs →
    command_of (slice_set xs l (with_given x)) label ≡ last_command (with_given x)
own_given [] l x label at own apart = cc
own_given (y ∷ ys) zero x label at own apart =
    ap (λ b. if b then last_command (with_given x) else command_of ys label) own
own_given (y ∷ ys) (suc l) x label at own (first, apart) = by (own_given ys l x label at own apart) (is_of y label) refl
  where
    by : command_of (slice_set ys l (with_given x)) label ≡ last_command (with_given x) → (b : Bool) → is_of y label ≡ b → (if b then last_command y else command_of (slice_set ys l (with_given x)) label) ≡ last_command (with_given x)
    by rest true is = let clash : true ≡ false = sym own ∙ none_at ys l x label (first label is) at in cc
    by rest false is = rest

-- the last command of a lane that gave a line is what this line says
pub command_given : (xs : List Lane) (l : ℕ) (x : Lane) (label : Bytes) (next : NumberedLine) → slice_get xs l ≡ Some x → is_of x label ≡ true → AreApart xs →
    slice_get x.lines x.given ≡ Some next → command_of (slice_set xs l (with_given x)) label ≡ said (line next.1)
command_given xs l x label next at own apart is =
    let back : x.given + 1 - 1 ≡ x.given = omega arith in
    own_given xs l x label at own apart
    ∙ (λ i. option_and_then (λ next. said (line next.1)) (slice_get x.lines (back i)))
    ∙ ap (option_and_then (λ next. said (line next.1))) is

-- the commands that wait are given by other lanes
pub waits_given : (xs : List Lane) (l : ℕ) (x : Lane) → slice_get xs l ≡ Some x → (ws : List Suspended) →
    ((label : Bytes) → is_of x label ≡ true → is_waiting ws label ≡ false) → AreGiven xs ws → AreGiven (slice_set xs l (with_given x)) ws
waits_given xs l x at [] idle all = tt
waits_given xs l x at (w ∷ ws) idle (first, all) =
    (other_given xs l x w.label at (false_from_ne_true (is_of x w.label) other) ∙ first, waits_given xs l x at ws rest all)
  where
    apart : (b c : Bool) → (if b then true else c) ≡ false → c ≡ false
    apart true c none = cc
    apart false c none = none

    other : is_of x w.label ≡ true → ⊥
    other own = true≢false (sym (ap (λ b. if b then true else is_waiting ws w.label) (is_same-self w.label)) ∙ idle w.label own)

    rest : (label : Bytes) → is_of x label ≡ true → is_waiting ws label ≡ false
    rest label own = apart (is_same w.label label) (is_waiting ws label) (idle label own)

-- ---- The initial state

-- if all pass a test, each of them does
pub all_at : {X : Type 0} (test : X → Bool) (xs : List X) (k : ℕ) (x : X) → list_all test xs ≡ true → slice_get xs k ≡ Some x → test x ≡ true
all_at test [] k x all at = cc
all_at test (y ∷ ys) zero x all at = let same : y ≡ x = cc in ap test (sym same) ∙ (and_parts (test y) (list_all test ys) all).0
all_at test (y ∷ ys) (suc k) x all at = all_at test ys k x (and_parts (test y) (list_all test ys) all).1 at

module _ (clock : List NumberedLine) where
  abbrev all_lanes : List TaskPlan → List Lane
  all_lanes ts = map task_lane ts ++ initial_lane None clock ∷ []

  none_have : (ts : List TaskPlan) (label : Bytes) → has_task ts label ≡ false → NoneOf (all_lanes ts) label
  none_have [] label none = (refl, tt)
  none_have (t ∷ ts) label none = by (none_have ts label) (is_same t.label label) refl (sym (has_first t ts label) ∙ none)
    where
      by : (has_task ts label ≡ false → NoneOf (all_lanes ts) label) → (b : Bool) → is_same t.label label ≡ b → (if b then true else has_task ts label) ≡ false → NoneOf (all_lanes (t ∷ ts)) label
      by rest true is none = cc
      by rest false is none = (is, rest none)

  apart_tasks : (ts : List TaskPlan) → are_distinct ts ≡ true → AreApart (all_lanes ts)
  apart_tasks [] distinct = (λ label own. tt, tt)
  apart_tasks (t ∷ ts) distinct =
      let parts = and_parts (not (has_task ts t.label)) (are_distinct ts) distinct in
      let none : has_task ts t.label ≡ false = not-true (has_task ts t.label) parts.0 in
      (λ label own. none_have ts label (ap (has_task ts) (sym (is_same-eq t.label label own)) ∙ none), apart_tasks ts parts.1)

  right_tasks : (ts : List TaskPlan) → list_all has_own_lines ts ≡ true → list_all (λ next. is_timing (line next.1)) clock ≡ true → AreRight (all_lanes ts)
  right_tasks [] own times = (λ k next at. all_at (λ next. is_timing (line next.1)) clock k next times at, tt)
  right_tasks (t ∷ ts) own times =
      let parts = and_parts (has_own_lines t) (list_all has_own_lines ts) own in
      (λ k next at. all_at (λ next. is_command_of t.label (line next.1)) t.lines k next parts.0 at, right_tasks ts parts.1 times)

-- the first lanes of a proper plan have different labels
pub apart_initial : (p : Plan) → is_proper p ≡ true → AreApart (initial_lanes p)
apart_initial p proper = apart_tasks p.clock p.tasks (proper_parts p proper).distinct

-- each line of an initial lane is right for it
pub right_initial : (p : Plan) → is_proper p ≡ true → AreRight (initial_lanes p)
right_initial p proper = right_tasks p.clock p.tasks (proper_parts p proper).own (proper_parts p proper).clock

frames_tasks : (clock : List NumberedLine) (ts : List TaskPlan) → map frame (map task_lane ts ++ initial_lane None clock ∷ []) ≡ map task_lane ts ++ initial_lane None clock ∷ []
frames_tasks clock [] = refl
frames_tasks clock (t ∷ ts) = ap (λ xs. task_lane t ∷ xs) (frames_tasks clock ts)

-- initial lanes are their own frames
pub frames_initial : (p : Plan) → map frame (initial_lanes p) ≡ initial_lanes p
frames_initial p = frames_tasks p.clock p.tasks

-- in the initial state of a plan no line of its lanes is given
pub initial_is : (p : Plan) → initial_state p ≡ record { plan = p; machine = initial_machine p; lanes = map frame (initial_lanes p) }
unfolding initial_state
initial_is p = ap (λ xs. record { plan = p; machine = initial_machine p; lanes = xs }) (sym (frames_initial p))
