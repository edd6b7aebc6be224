use Rattle.std.proofs.Common.{drop-cons, get_or, ◌||◌, arith, ◌≡◌, ◌∙◌, sym, ap, suc, drop, false, nat_eq, ◌+◌}
use Rattle.std.specs.Cmp.Lexicographic.{pointwise}
use Rattle.std.specs.List.{list_any}
use Rattle.cics_names.specs.KeyedLaws.{pointwise-is_same}
use Rattle.cics_names.specs.Keyed.{is_same}
use Rattle.cics_enqueue.proofs.owned.find.Goals as goal

pub loop-key-preserved : goal.loop-key-preserved
loop-key-preserved c =
    let bytes = c.args.bytes.now in
    let other : is_same bytes c.key-item.result ≡ false = sym (pointwise-is_same bytes c.key-item.result) ∙ ap (pointwise nat_eq bytes) (sym c.as_slice.ensures) ∙ sym c.eq.ensures ∙ c.if-eq.false in
    let items = c.deref-key-items.result.now in
    let index = c.loop-key.key-index in
    let next : suc index ≡ index + 1 = omega arith in
    record {
      rest = sym (ap (λ b. b || list_any (is_same bytes) (drop (index + 1) items)) (ap (is_same bytes) (sym c.key-item.is) ∙ other))
          ∙ ap (λ n. is_same bytes (get_or items index c.key-item.result) || list_any (is_same bytes) (drop n items)) (sym next)
          ∙ sym (ap (list_any (is_same bytes)) (drop-cons items index c.key-item.result c.loop-key-test.true)) ∙ c.loop-key.invariant.rest;
    }
