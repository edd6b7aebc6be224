use Rattle.std.proofs.Common.{◌≡◌, ◌+◌, ◌-◌, ◌/◌, ◌<◌, length, sym, ◌∙◌, ap, arith}
use Rattle.cics_names.specs.Keyed.{bytes_cmp}
use Rattle.cics_ksds.specs.Slots.{key_at}
use Rattle.cics_ksds.proofs.Order.{smaller_up_to, greater_from, key_of_read, same_key}
use Rattle.cics_ksds.proofs.slots.search.Goals as goal
use Rattle.cics_ksds.proofs.slots.search.Goals.{After-order_to}

-- how the key of the slot in the middle stands to the key
compared : (c : After-order_to) → c.order_to.result ≡ bytes_cmp (key_at c.args.definition c.args.slots.now (c.loop-low.low + (c.loop-low.high - c.loop-low.low) / 2)) c.args.key.now
compared c =
    let in_range : c.loop-low.low + (c.loop-low.high - c.loop-low.low) / 2 < length c.args.slots.now = omega arith in
    c.order_to.ensures ∙ ap (λ k. bytes_cmp k c.args.key.now) (key_of_read c.args.definition c.args.slots.now _ _ c.index-slots-middle.is in_range)

pub loop-low-preserved-in-Less : goal.loop-low-preserved-in-Less
loop-low-preserved-in-Less c = record {
  ordered = omega arith;
  in_range = omega arith;
  smaller_before = smaller_up_to c.args.definition c.args.slots.now c.requires.slots.rising c.args.key.now _ (omega arith) (sym (compared (goal.at.loop-low-preserved-in-Less c).After-order_to) ∙ c.in-Less.is);
  greater_after = c.loop-low.invariant.greater_after;
}

pub returns-in-Equal-clause-found : goal.returns-in-Equal-clause-found
returns-in-Equal-clause-found c = record {
  in_range = omega arith;
  has_key = same_key _ _ (sym (compared (goal.at.returns-in-Equal-clause-found c).After-order_to) ∙ c.in-Equal.is);
}

pub loop-low-preserved : goal.loop-low-preserved
loop-low-preserved c = record {
  ordered = omega arith;
  in_range = omega arith;
  smaller_before = c.loop-low.invariant.smaller_before;
  greater_after = greater_from c.args.definition c.args.slots.now c.requires.slots.rising c.args.key.now _ (omega arith) (sym (compared (goal.at.loop-low-preserved c).After-order_to) ∙ c.in-Greater.is);
}
