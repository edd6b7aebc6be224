use Rattle.std.proofs.Common.{◌≡◌, ◌∙◌, sym, ap, true, false, cond, Some}
use Rattle.std.specs.Cmp.Lexicographic.{pointwise}
use Rattle.std.specs.Prelude.{nat_eq}
use Rattle.std.specs.Map.{lookup}
use Rattle.cics_names.specs.KeyedLaws.{pointwise-is_same}
use Rattle.cics_names.specs.Keyed.{is_same}
use Rattle.cics_enqueue.proofs.compact.find_among.Goals as goal

pub returns-then-eq : goal.returns-then-eq
returns-then-eq c =
    let bytes = c.args.bytes.now in
    let found : is_same bytes c.in-Some.key.now ≡ true = sym (pointwise-is_same bytes c.in-Some.key.now) ∙ ap (pointwise nat_eq bytes) (sym c.as_slice.ensures) ∙ sym c.eq.ensures ∙ c.if-eq.true in
    sym (sym c.loop-key.invariant.rest ∙ ap (lookup (is_same bytes)) c.in-Some.ensures.steps ∙ ap (λ b. cond b (Some c.in-Some.holding.now) (lookup (is_same bytes) c.next.new.self)) found)

pub loop-key-preserved : goal.loop-key-preserved
loop-key-preserved c =
    let bytes = c.args.bytes.now in
    let other : is_same bytes c.in-Some.key.now ≡ false = sym (pointwise-is_same bytes c.in-Some.key.now) ∙ ap (pointwise nat_eq bytes) (sym c.as_slice.ensures) ∙ sym c.eq.ensures ∙ c.if-eq.false in
    record {
      can = tt;
      finite = tt;
      rest = sym (ap (λ b. cond b (Some c.in-Some.holding.now) (lookup (is_same bytes) c.next.new.self)) other) ∙ sym (ap (lookup (is_same bytes)) c.in-Some.ensures.steps) ∙ c.loop-key.invariant.rest;
    }
