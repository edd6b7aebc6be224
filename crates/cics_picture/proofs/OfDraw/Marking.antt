-- A lane is marked exactly if its task is in a deadlock.
use Rattle.std.proofs.Common.{◌≡◌, ℕ, true, false, cond, ◌≤◌, [], length, ap, sym, ◌∙◌, arith, Some, None}
use Rattle.std.proofs.lemmas.Bool.{false≢true}
use Rattle.std.proofs.lemmas.Bool.Decides.{nat_tests}
use Rattle.std.specs.Prelude.{◌↔◌, nat_lt, Bool, Option, unwrap_or, slice_get}
use Rattle.cics_names.specs.Keyed.{Bytes}
use Rattle.cics_dispatch.specs.Machine.Machine.{Machine}
use Rattle.cics_dispatch.specs.Machine.Blockers.{label_at}
use Rattle.cics_dispatch.specs.Deadlocks.Deadlocks.{in_deadlock}
use Rattle.cics_dispatch.proofs.OfDeadlocks.Told.{flag_is}
use Rattle.cics_picture.specs.Lanes.{most_lanes}
use Rattle.cics_picture.specs.Draw.Standings.{shown_deadlocks, standing_of, standing_at, IsInDeadlock}

all-shown : (m : Machine) → length m.tasks ≤ most_lanes → shown_deadlocks m ≡ in_deadlock m
unfolding shown_deadlocks
all-shown m few =
    let no_more : nat_lt 16 (length m.tasks) ≡ false = grind (arith, few, nat_tests) in
    ap (λ b. cond b [] (in_deadlock m)) no_more

-- a flag that counts as true is there
is-there : (o : Option Bool) → unwrap_or o false ≡ true → o ≡ Some true
is-there None wrong = absurd (false≢true wrong)
is-there (Some flag) is = ap Some is

pub marked : (m : Machine) (number : ℕ) (label : Bytes) → length m.tasks ≤ most_lanes → label_at m.tasks number ≡ Some label
    → ((standing_at m (shown_deadlocks m) number).is_deadlocked ≡ true) ↔ IsInDeadlock m number
marked m number label few there =
    let flag : (standing_at m (shown_deadlocks m) number).is_deadlocked ≡ unwrap_or (slice_get (in_deadlock m) number) false =
    ap (λ o. (standing_of m (unwrap_or (slice_get (shown_deadlocks m) number) false) o).is_deadlocked) there
    ∙ ap (λ flags. unwrap_or (slice_get flags number) false) (all-shown m few) in (
      λ e. (flag_is m number).0 (is-there (slice_get (in_deadlock m) number) (sym flag ∙ e)),
      λ led. flag ∙ ap (λ o. unwrap_or o false) ((flag_is m number).1 led),
    )
