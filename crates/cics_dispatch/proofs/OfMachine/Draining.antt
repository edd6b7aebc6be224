-- A region drains: as many turns as commands wait are enough.
use Rattle.std.specs.Prelude.{◌≡◌, ℕ, zero, suc, ◌<◌, ◌≤◌, ◌∷◌, length, [], Option, Some, None, Result, Ok, refl}
use Rattle.std.proofs.Common.{arith, sym, ap, ◌∙◌, subst}
use Rattle.cics_dispatch.specs.Machine.Machine.{Machine}
use Rattle.cics_dispatch.specs.Machine.Waking.{woken, expired, IsAtRest}
use Rattle.cics_dispatch.specs.Machine.Events.{Happened, late_turn, waking_turn, turn, IsTurn, Drained, behind_turn, drained_within, drained}
use Rattle.cics_dispatch.specs.declared.machine.events.Event.{Event}
use Rattle.cics_dispatch.specs.declared.machine.events.Event.TheVariants as event
use Rattle.cics_dispatch.specs.declared.machine.outcomes.Woken.{Woken}
use Rattle.cics_dispatch.specs.declared.machine.outcomes.Expired.{Expired}
use Rattle.cics_dispatch.specs.declared.machine.outcomes.Refused.{Refused}
use Rattle.cics_dispatch.proofs.OfMachine.FewerWaits.{woken_fewer, woken_none, expired_fewer, expired_none}

-- ---- One turn

-- a command resumes
pub turn_woken : (m n : Machine) (w : Woken) → (woken m).outcome ≡ Some w → n ≡ (woken m).machine → turn m ≡ Some (record { event = event.Woken w; machine = n })
unfolding turn
turn_woken m n w told left =
    ap (λ o. waking_turn o (woken m).machine (late_turn (expired m).outcome (expired m).machine)) told
    ∙ ap (λ n. Some (record { event = event.Woken w; machine = n })) (sym left)

-- none does, and a task has waited too long
pub turn_expired : (m n : Machine) (e : Expired) → (woken m).outcome ≡ None → (expired m).outcome ≡ Some e → n ≡ (expired m).machine →
    turn m ≡ Some (record { event = event.Expired e; machine = n })
unfolding turn
turn_expired m n e quiet told left =
    ap (λ o. waking_turn o (woken m).machine (late_turn (expired m).outcome (expired m).machine)) quiet
    ∙ ap (λ o. late_turn o (expired m).machine) told
    ∙ ap (λ n. Some (record { event = event.Expired e; machine = n })) (sym left)

-- neither
pub turn_none : (m : Machine) → (woken m).outcome ≡ None → (expired m).outcome ≡ None → turn m ≡ None
unfolding turn
turn_none m waits early =
    ap (λ o. waking_turn o (woken m).machine (late_turn (expired m).outcome (expired m).machine)) waits
    ∙ ap (λ o. late_turn o (expired m).machine) early

-- a machine at rest has no turn to take
pub rest_has_none : (m : Machine) → IsAtRest m → turn m ≡ None
rest_has_none m rests = turn_none m rests.0 rests.1

-- a machine that has no turn to take is at rest
pub none_rests : (m : Machine) → turn m ≡ None → IsAtRest m
unfolding turn
none_rests m = by (woken m).outcome (expired m).outcome
  where
    by : (k : Option Woken) (e : Option Expired) → waking_turn k (woken m).machine (late_turn e (expired m).machine) ≡ None → (k ≡ None) × (e ≡ None)
    by (Some w) e none = cc
    by None (Some e) none = cc
    by None None none = (refl, refl)

-- a turn takes a command out of the waiting ones
pub turn_fewer : (m : Machine) (t : Happened) → turn m ≡ Some t → length t.machine.waiting < length m.waiting
unfolding turn
turn_fewer m t = by (woken m).outcome (expired m).outcome refl refl
  where
    by : (k : Option Woken) (e : Option Expired) → (woken m).outcome ≡ k → (expired m).outcome ≡ e →
        waking_turn k (woken m).machine (late_turn e (expired m).machine) ≡ Some t → length t.machine.waiting < length m.waiting
    by (Some w) e goes late is =
        let same : record { event = event.Woken w; machine = (woken m).machine } ≡ t = cc in
        subst (λ t. length t.machine.waiting < length m.waiting) same (woken_fewer m w goes)
    by None (Some e) goes late is =
        let same : record { event = event.Expired e; machine = (expired m).machine } ≡ t = cc in
        subst (λ t. length t.machine.waiting < length m.waiting) same (expired_fewer m e late)
    by None None goes late is = cc

-- ---- All turns

-- where no command waits there is no turn to take
none_left : (m : Machine) → length m.waiting ≤ 0 → turn m ≡ None
none_left m empty = by (turn m) refl
  where
    by : (o : Option Happened) → turn m ≡ o → o ≡ None
    by None is = refl
    by (Some t) is = absurd (omega (arith, turn_fewer m t is, empty))

-- more turns than commands wait lead to the same
enough : (j k : ℕ) (m : Machine) → length m.waiting ≤ j → length m.waiting ≤ k → drained_within j m ≡ drained_within k m
unfolding drained_within
enough zero zero m a b = refl
enough zero (suc k) m a b = sym (ap (λ o. behind_turn m o (drained_within k)) (none_left m a))
enough (suc j) zero m a b = ap (λ o. behind_turn m o (drained_within j)) (none_left m b)
enough (suc j) (suc k) m a b = by (enough j k) (turn m) refl
  where
    by : ((n : Machine) → length n.waiting ≤ j → length n.waiting ≤ k → drained_within j n ≡ drained_within k n) → (o : Option Happened) → turn m ≡ o →
        behind_turn m o (drained_within j) ≡ behind_turn m o (drained_within k)
    by rest None is = refl
    by rest (Some t) is =
        let less = turn_fewer m t is in
        ap (λ (d : Drained). behind_turn m (Some t) (λ n. d)) (rest t.machine (omega (arith, less, a)) (omega (arith, less, b)))

-- as many turns as commands wait are enough: behind them there is none to take
no_more : (most : ℕ) (m : Machine) → length m.waiting ≤ most → turn (drained_within most m).machine ≡ None
unfolding drained_within
no_more zero m few = none_left m few
no_more (suc most) m few = by (no_more most) (turn m) refl
  where
    by : ((n : Machine) → length n.waiting ≤ most → turn (drained_within most n).machine ≡ None) → (o : Option Happened) → turn m ≡ o → turn (behind_turn m o (drained_within most)).machine ≡ None
    by rest None is = is
    by rest (Some t) is = rest t.machine (omega (arith, turn_fewer m t is, few))

-- a region that has drained is at rest
pub drained_rests : (m : Machine) → IsAtRest (drained m).machine
drained_rests m = none_rests (drained m).machine (no_more (length m.waiting) m (omega arith))

one_more : (m : Machine) → drained m ≡ behind_turn m (turn m) (drained_within (length m.waiting))
unfolding drained_within
one_more m = enough (length m.waiting) (suc (length m.waiting)) m (omega arith) (omega arith)

-- a turn, and the turns behind it
pub drained_turn : (m : Machine) (t : Happened) → turn m ≡ Some t → drained m ≡ behind_turn m (Some t) drained
drained_turn m t is =
    one_more m ∙ ap (λ o. behind_turn m o (drained_within (length m.waiting))) is
    ∙ ap (λ (d : Drained). behind_turn m (Some t) (λ n. d)) (enough (length m.waiting) (length t.machine.waiting) t.machine (omega (arith, turn_fewer m t is)) (omega arith))

-- without a turn to take, none is taken
pub drained_none : (m : Machine) → turn m ≡ None → drained m ≡ record { machine = m; turns = [] }
drained_none m none = one_more m ∙ ap (λ o. behind_turn m o (drained_within (length m.waiting))) none

-- ---- The call that takes a turn

-- the answer of the call that resumes a command
abbrev pub answer : Option Woken → Result (Option Woken) Refused
answer o = Ok o

-- what was woken is told by it
told_woken : (a b c : Option Woken) → answer a ≡ answer b → b ≡ c → a ≡ c
told_woken a b c e f = let same : a ≡ b = cc in same ∙ f

-- a command resumed
pub took_woken : (m new : Machine) (o : Option Woken) (w : Woken) → answer (woken m).outcome ≡ answer o → o ≡ Some w → new ≡ (woken m).machine → IsTurn m (Some (event.Woken w)) new
took_woken m new o w told is left = turn_woken m new w (told_woken (woken m).outcome o (Some w) told is) left

-- none did, and this machine was left
module _ (m mid : Machine) (o : Option Woken) (told : answer (woken m).outcome ≡ answer o) (is : o ≡ None) (left : mid ≡ (woken m).machine) where
  quiet : (woken m).outcome ≡ None
  quiet = told_woken (woken m).outcome o None told is

  same : mid ≡ m
  same = left ∙ woken_none m quiet

  -- a task was abended, as it had waited too long
  pub took_expired : (new : Machine) (e : Expired) → Some e ≡ (expired mid).outcome → new ≡ (expired mid).machine → IsTurn m (Some (event.Expired e)) new
  took_expired new e late after =
      turn_expired m new e quiet (ap (λ n. (expired n).outcome) (sym same) ∙ sym late) (after ∙ ap (λ n. (expired n).machine) same)

  -- and none was
  pub took_none : (new : Machine) → None ≡ (expired mid).outcome → new ≡ (expired mid).machine → IsTurn m None new
  took_none new none after =
      let late : (expired m).outcome ≡ None = ap (λ n. (expired n).outcome) (sym same) ∙ sym none in
      (turn_none m quiet late, after ∙ ap (λ n. (expired n).machine) same ∙ expired_none m late)
