use Rattle.cics_enqueue.proofs.Lawful.{lawful-none, lawful-taken, lawful-given_back, lawful-released}
use Rattle.cics_enqueue.proofs.laws.tables_stay_lawful.Goals as goal

pub returns : goal.returns
returns c = record {
  begins = lawful-none;
  takes = lawful-taken;
  gives_back = lawful-given_back;
  releases = lawful-released;
}
