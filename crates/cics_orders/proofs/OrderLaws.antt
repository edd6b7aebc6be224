-- The lines that are left: each line that is given leaves one fewer, and nothing else takes or adds
-- any.
use Rattle.std.proofs.Common.{◌≡◌, ◌<◌, ◌≤◌, ℕ, zero, suc, ◌+◌, ◌-◌, Bool, true, false, ◌&&◌, List, [], ◌∷◌, ◌++◌, map, length, drop, Option, None, Some, refl, ap, sym, ◌∙◌, arith, subst, ◌⊎◌, inl, inr}
use Rattle.std.proofs.lemmas.Option.{slice_get_within}
use Rattle.std.specs.Prelude.{All, is_some, slice_get, slice_set, if◌then◌else◌}
use Rattle.std.specs.List.{fold}
use Rattle.cics_dispatch.specs.Machine.Machine.{Machine}
use Rattle.cics_orders.specs.Space.Orders.{Order, after, orders, led_by, led_by_any, numbered, IsOrdered}
use Rattle.cics_orders.proofs.OfSpace.Givers.{givers_ordered}
use Rattle.cics_orders.proofs.OfSearch.Regrouping.{Each}
use Rattle.cics_orders.proofs.OfSearch.Ways.{each_append, each_mapped, each_at}
use Rattle.cics_orders.specs.Plans.Taking.{NumberedLine}
use Rattle.cics_orders.specs.Giving.{State, may_give, is_ready, givers, with_given, given, lanes, task_lane, initial_lane, initial_lanes, initial_state, line_count}
use Rattle.cics_orders.specs.declared.plans.plans.TaskPlan.{TaskPlan}
use Rattle.cics_orders.proofs.Gists.{gist, Gave, gave, gives_line, stays_given}
use Rattle.cics_orders.specs.declared.lanes.Lane.{Lane}

-- how many lines the lanes of these gists have left
abbrev left : List Lane → ℕ
left [] = 0
left (g ∷ gs) = (length g.lines - g.given) + left gs

-- ---- A line is given

left_given : (xs : List Lane) (l : ℕ) (x : Lane) → slice_get xs l ≡ Some x → x.given < length x.lines →
    suc (left (map gist (slice_set xs l (with_given x)))) ≡ left (map gist xs)
left_given [] l x at short = cc
left_given (y ∷ ys) zero x at short =
    let same : y ≡ x = cc in
    subst (λ z. suc ((length x.lines - (x.given + 1)) + left (map gist ys)) ≡ (length z.lines - z.given) + left (map gist ys)) (sym same) (omega (arith, short))
left_given (y ∷ ys) (suc l) x at short = omega (arith, left_given ys l x at short)

-- the plan stays, whatever lane gives
pub plan_stays : (s : State) (l : ℕ) → (given s l).plan ≡ s.plan
plan_stays s l = by (gave s l)
  where
    by : (given s l ≡ s) ⊎ ((x : Lane) × (next : NumberedLine) × Gave s l x next) → (given s l).plan ≡ s.plan
    by (inl same) = ap (λ (s : State). s.plan) same
    by (inr (x, next, gave)) = (stays_given s l x next gave).plan

-- a lane that may give leaves a line fewer
given_fewer : (s : State) (l : ℕ) (x : Lane) → slice_get s.lanes l ≡ Some x → may_give s.machine x ≡ true → suc (left (map gist (given s l).lanes)) ≡ left (map gist s.lanes)
given_fewer s l x at may =
    let (next, gave) = gives_line s l x at may in
    ap (λ gs. suc (left gs)) (stays_given s l x next gave).gists
    ∙ left_given s.lanes l x at (slice_get_within x.lines x.given next gave.line_at)

-- ---- No line left

none_left : (m : Machine) (xs : List Lane) (l : ℕ) → left (map gist xs) ≡ 0 → numbered (may_give m) l xs ≡ []
none_left m [] l none = refl
none_left m (x ∷ xs) l none = by (none_left m xs (suc l) (omega (arith, none))) (slice_get x.lines x.given) refl
  where
    by : numbered (may_give m) (suc l) xs ≡ [] → (o : Option NumberedLine) → slice_get x.lines x.given ≡ o → numbered (may_give m) l (x ∷ xs) ≡ []
    by rest None is = ap (λ o. if is_some o && is_ready m x.label then l ∷ numbered (may_give m) (suc l) xs else numbered (may_give m) (suc l) xs) is ∙ rest
    by rest (Some next) is = absurd (omega (arith, none, slice_get_within x.lines x.given next is))

-- ---- The numbers of lanes that may give

-- a number is that of a lane that may
pub record May {X : Type 0} (may : X → Bool) (xs : List X) (k : ℕ) : Type 0 where
  pub one : X
  pub at : slice_get xs k ≡ Some one
  pub does : may one ≡ true

front : {X : Type 0} (xs : List X) (k : ℕ) (y : X) (ys : List X) → drop k xs ≡ y ∷ ys → (slice_get xs k ≡ Some y) × (drop (suc k) xs ≡ ys)
front [] zero y ys is = cc
front [] (suc k) y ys is = cc
front (x ∷ xs) zero y ys is =
    let same : x ≡ y = cc in
    let rest : xs ≡ ys = cc in
    (ap Some same, rest)
front (x ∷ xs) (suc k) y ys is = front xs k y ys is

-- each of those that are numbered may give
pub numbers_may : {X : Type 0} (may : X → Bool) (xs : List X) (k : ℕ) (ys : List X) → drop k xs ≡ ys → Each (May may xs) (numbered may k ys)
numbers_may may xs k [] is = tt
numbers_may {X} may xs k (y ∷ ys) is = by (numbers_may may xs (suc k) ys (front xs k y ys is).1) (may y) refl
  where
    by : Each (May may xs) (numbered may (suc k) ys) → (b : Bool) → may y ≡ b → Each (May may xs) (if b then k ∷ numbered may (suc k) ys else numbered may (suc k) ys)
    by rest true does = (record { one = y; at = (front xs k y ys is).0; does = does }, rest)
    by rest false does = rest

-- ---- Every order ends

-- no lane may give after an order
abbrev pub Ends : State → Order → Type 0
Ends s o = givers (after lanes s o) 0 ≡ []

all_led : (s : State) (more : ℕ → List Order) (ls : List ℕ) → Each (May (may_give s.machine) s.lanes) ls →
    ((l : ℕ) → May (may_give s.machine) s.lanes l → Each (Ends (given s l)) (more l)) → Each (Ends s) (led_by more ls)
all_led s more [] may ends = tt
all_led s more (l ∷ ls) (one, may) ends =
    each_append (Ends s) (map (λ o. l ∷ o) (more l)) (led_by more ls) (each_mapped (Ends s) (λ o. l ∷ o) (more l) (ends l one)) (all_led s more ls may ends)

orders_end : (n : ℕ) (s : State) → left (map gist s.lanes) ≤ n → Each (Ends s) (orders lanes n s)
orders_end zero s few = (none_left s.machine s.lanes 0 (omega (arith, few)), tt)
orders_end (suc n) s few =
    by (λ l one. orders_end n (given s l) (omega (arith, few, given_fewer s l one.one one.at one.does))) (givers s 0) refl
    (numbers_may (may_give s.machine) s.lanes 0 s.lanes refl)
  where
    by : ((l : ℕ) → May (may_give s.machine) s.lanes l → Each (Ends (given s l)) (orders lanes n (given s l))) → (ls : List ℕ) → givers s 0 ≡ ls →
        Each (May (may_give s.machine) s.lanes) ls → Each (Ends s) (led_by_any (λ l. orders lanes n (given s l)) ls)
    by more [] is may = (is, tt)
    by more (l ∷ ls) is may = all_led s (λ l. orders lanes n (given s l)) (l ∷ ls) may more

-- ---- The initial state

left_tasks : (n m : ℕ) (ts : List TaskPlan) (clock : List NumberedLine) → n ≡ m + length clock →
    fold (λ n t. n + length t.lines) n ts ≡ m + left (map gist (map task_lane ts ++ initial_lane None clock ∷ []))
left_tasks n m [] clock is = omega (arith, is)
left_tasks n m (t ∷ ts) clock is = left_tasks (n + length t.lines) (m + length t.lines) ts clock (omega (arith, is)) ∙ omega arith

-- each order of a script ends within its lines
pub most_ends : (s : State) →
    All (λ o. givers (after lanes (initial_state s.plan) o) 0 ≡ []) (orders lanes (line_count (initial_state s.plan).plan) (initial_state s.plan))
unfolding initial_state
most_ends s =
    let p = s.plan in
    let few : left (map gist (initial_lanes p)) ≤ line_count p = omega (arith, left_tasks (length p.clock) 0 p.tasks p.clock (omega arith)) in
    λ k d short. each_at (Ends (initial_state p)) (orders lanes (line_count p) (initial_state p)) k d (orders_end (line_count p) (initial_state p) few) short

-- the lanes that may give stand in their order
pub lanes_ordered : IsOrdered lanes
lanes_ordered s from l ls is = givers_ordered (may_give s.machine) s.lanes from l ls is
