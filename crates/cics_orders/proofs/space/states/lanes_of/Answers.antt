use Rattle.std.proofs.Common.{◌≡◌, ◌<◌, ◌∙◌, ◌&&◌, ◌++◌, ◌∷◌, [], suc, length, not, true, false, filter, Bool, if◌then◌else◌, ℕ, List, Option, None, Some, refl, ap, sym, arith, append_assoc}
use Rattle.cics_orders.specs.Space.Orders.{IsFirst}
use Rattle.cics_orders.specs.Giving.{State, givers}
use Rattle.cics_orders.specs.Turns.{breaks}
use Rattle.cics_orders.proofs.OrderLaws.{lanes_ordered}
use Rattle.cics_orders.proofs.space.states.lanes_of.Invariants.{rest, chosen}
use Rattle.cics_orders.proofs.space.states.lanes_of.Goals as goal

-- the lanes that may give are the first and those behind it
firsts : (s : State) (n : ℕ) (giver : Option ℕ) → IsFirst giver (givers s n) → givers s n ≡ rest s giver
firsts s n None none = none
firsts s n (Some l) (more, is) = is ∙ ap (λ ls. l ∷ ls) (lanes_ordered s n l more is).1

-- a lane more is followed, or it is not
one_chosen : (b : Bool) (s : State) (l : ℕ) (ls : List ℕ) → chosen b s (l ∷ ls) ≡ (if b && breaks s l then [] else l ∷ []) ++ chosen b s ls
one_chosen false s l ls = refl
one_chosen true s l ls = by (breaks s l) refl
  where
    by : (c : Bool) → breaks s l ≡ c → filter (λ k. not (breaks s k)) (l ∷ ls) ≡ (if c then [] else l ∷ []) ++ filter (λ k. not (breaks s k)) ls
    by true is = rw is refl
    by false is = rw is refl

shorter : (m n : ℕ) → n ≡ suc m → m < n
shorter m n is = omega (arith, is)

preserved : (b : Bool) (s : State) (l : ℕ) (ls new : List ℕ) (giver next : Option ℕ) → giver ≡ Some l → givers s (suc l) ≡ rest s next →
    new ≡ ls ++ (if b && breaks s l then [] else l ∷ []) → chosen b s (givers s 0) ≡ ls ++ chosen b s (rest s giver) →
    chosen b s (givers s 0) ≡ new ++ chosen b s (rest s next)
preserved b s l ls new giver next is on added so_far =
    let one : List ℕ = if b && breaks s l then [] else l ∷ [] in
    so_far ∙ ap (λ g. ls ++ chosen b s (rest s g)) is ∙ ap (λ ys. ls ++ ys) (one_chosen b s l (givers s (suc l)))
    ∙ sym (append_assoc ls one (chosen b s (givers s (suc l)))) ∙ (λ i. sym added i ++ chosen b s (on i))

-- the lanes that are left, from the first on
pub loop-giver-init : goal.loop-giver-init
loop-giver-init c =
    let b = c.args.is_serial in
    let s = c.args.walk.now in
    let giver = c.first_giver-giver.result in
    ap (chosen b s) (firsts s 0 giver c.first_giver-giver.ensures) ∙ sym (ap (λ (xs : List ℕ). xs ++ chosen b s (rest s giver)) c.new-lanes.ensures)

pub loop-giver-smaller : goal.loop-giver-smaller
loop-giver-smaller c =
    let s = c.args.walk.now in
    let next : givers s (suc c.in-Some.lane) ≡ rest s c.giver_after-giver.result = firsts s (suc c.in-Some.lane) c.giver_after-giver.result c.giver_after-giver.ensures in
    let before : rest s c.loop-giver.giver ≡ c.in-Some.lane ∷ givers s (suc c.in-Some.lane) = ap (rest s) c.in-Some.is in
    let more : length (rest s c.loop-giver.giver) ≡ suc (length (rest s c.giver_after-giver.result)) = ap length before ∙ ap (λ (xs : List ℕ). suc (length xs)) next in
    shorter (length (rest s c.giver_after-giver.result)) (length (rest s c.loop-giver.giver)) more

-- a lane more
pub loop-giver-preserved : goal.loop-giver-preserved
loop-giver-preserved c =
    let b = c.args.is_serial in
    let s = c.args.walk.now in
    let lane = c.in-Some.lane in
    let next : givers s (suc lane) ≡ rest s c.giver_after-giver.result = firsts s (suc lane) c.giver_after-giver.result c.giver_after-giver.ensures in
    preserved b s lane c.loop-giver.lanes c.add_lane.new.lanes c.loop-giver.giver c.giver_after-giver.result c.in-Some.is next c.in_ok-add_lane.ensures c.loop-giver.invariant
