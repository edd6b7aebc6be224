use Rattle.std.proofs.Common.{◌∙◌, ◌++◌}
use Rattle.cics_enqueue.specs.Keys.{bytes_of}
use Rattle.cics_enqueue.proofs.Heads.{AreParts-made, bytes_of-parts}
use Rattle.cics_enqueue.proofs.keys.Key.set.Goals as goal

pub invariant_of-self-2 : goal.invariant_of-self-2
invariant_of-self-2 c = AreParts-made _ _ (c.args.front.now ++ c.args.rest.now) c.head_of-self-inside.ensures c.in_ok-refill.ensures.filled

pub returns-clause-set : goal.returns-clause-set
returns-clause-set c = (λ i. bytes_of (c.head_of-self-inside.ensures i) (c.in_ok-refill.ensures.filled i)) ∙ bytes_of-parts (c.args.front.now ++ c.args.rest.now)
