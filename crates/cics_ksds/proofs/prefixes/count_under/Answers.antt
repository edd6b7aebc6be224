use Rattle.std.proofs.Common.{◌≡◌, length, suc, ◌∙◌, ap, arith}
use Rattle.cics_ksds.specs.Slots.{slots_in, left_at}
use Rattle.cics_ksds.proofs.UnderPrefix.{start_left, fewer_under, found_at}
use Rattle.cics_ksds.proofs.prefixes.count_under.Goals as goal
use Rattle.cics_ksds.proofs.prefixes.count_under.Goals.{After-next_under-next}

pub loop-next-init : goal.loop-next-init
loop-next-init c = record {
  found = c.first_under-next.ensures.found;
  counted = omega (arith, ap length (c.first_under-next.ensures.left ∙ start_left c.args.definition c.args.slots.now c.args.prefix.now c.start_of-start.result c.start_of-start.ensures.before c.start_of-start.ensures.after));
  few = c.first_under-next.ensures.few;
}

-- once a record is counted, one less is left
one_less : (c : After-next_under-next) → length (left_at c.args.definition c.args.slots.now c.args.prefix.now c.loop-next.next) ≡ suc (length (left_at c.args.definition c.args.slots.now c.args.prefix.now c.next_under-next.result))
one_less c =
    let found = found_at c.args.definition c.args.slots.now c.args.prefix.now c.loop-next.next c.in-Some.at c.in-Some.is c.loop-next.invariant.found in
    ap (λ o. length (left_at c.args.definition c.args.slots.now c.args.prefix.now o)) c.in-Some.is ∙ ap length (c.next_under-next.ensures.left found.record_there.0 found.record_there.1)

pub overflow_add-number : goal.overflow_add-number
overflow_add-number c = omega (arith, one_less (goal.at.overflow_add-number c).After-next_under-next, c.loop-next.invariant.counted, c.loop-next.invariant.few, fewer_under c.args.definition c.args.prefix.now (slots_in c.args.slots.now))

pub loop-next-smaller : goal.loop-next-smaller
loop-next-smaller c = omega (arith, one_less (goal.at.loop-next-smaller c).After-next_under-next)

pub loop-next-preserved : goal.loop-next-preserved
loop-next-preserved c = record {
  found = c.next_under-next.ensures.found;
  counted = omega (arith, one_less (goal.at.loop-next-preserved c).After-next_under-next, c.loop-next.invariant.counted);
  few = c.loop-next.invariant.few;
}
