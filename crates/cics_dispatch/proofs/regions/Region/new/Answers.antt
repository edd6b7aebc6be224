use Rattle.std.proofs.lemmas.Bool.{false≢true}
use Rattle.cics_dispatch.proofs.OfMachine.Noted.{noted_empty}
use Rattle.cics_dispatch.proofs.regions.Region.new.Goals as goal

-- a region without a task remembers nothing
pub invariant_of-result : goal.invariant_of-result
invariant_of-result c = (
  c.in_ok-dispatcher.ensures.kept,
  record {
    noted = noted_empty _ c.new-2.result c.new-2.ensures.rows c.new-2.ensures.deadlines;
    settled = λ y. absurd (false≢true y);
    in_time = λ y. absurd (false≢true y);
  },
)
