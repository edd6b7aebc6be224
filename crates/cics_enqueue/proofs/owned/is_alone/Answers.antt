use Rattle.std.proofs.Common.{◌≡◌, ◌∙◌, ◌≤◌, ℕ, length, sym, ap, Some, true, false, arith}
use Rattle.std.specs.Prelude.{slice_get}
use Rattle.std.specs.Option.{option_map}
use Rattle.cics_names.specs.Keyed.{Bytes}
use Rattle.cics_enqueue.specs.Kept.{owns}
use Rattle.cics_history.specs.Holding.{is_other}
use Rattle.cics_enqueue.proofs.Owning.{on_not_by, owns_alone}
use Rattle.cics_enqueue.proofs.owned.is_alone.Goals as goal

pub returns-in-Some : goal.returns-in-Some
returns-in-Some c =
    let own = c.args.owned.now.entries in
    let first : slice_get own 0 ≡ Some (c.in-Some.unit.now, c.in-Some.field-0-1.now) = sym c.first.ensures.entry ∙ ap (option_map (λ p. (p.0.now, p.1.now))) c.in-Some.is in
    let one : length own ≤ 1 = omega (arith, c.len.ensures.len, c.if-len-gt1.false) in
    on_not_by {Q = (u : ℕ) (k : Bytes) → is_other c.args.asker.now u ≡ true → owns own u k ≡ false} c.is_another.result
    (λ same. owns_alone own c.args.asker.now (c.in-Some.unit.now, c.in-Some.field-0-1.now) first one (sym c.is_another.ensures ∙ same))
