use Rattle.cics_history.proofs.InPlace.{initial_units-AreMarksOf, execution-AreMarksOf, commit-AreMarksOf, back_out-AreMarksOf, enqueue-AreMarksOf, dequeue-AreMarksOf, unlock-AreMarksOf, ts_reading-AreMarksOf, shows_of, committed_in_place, sees_where_shown}
use Rattle.cics_history.proofs.laws.marks.calls_keep_marks.Goals as goal

pub returns : goal.returns
returns c = record {
  begins = initial_units-AreMarksOf;
  executes = execution-AreMarksOf;
  commits = commit-AreMarksOf;
  backs_out = back_out-AreMarksOf;
  enqueues = enqueue-AreMarksOf;
  dequeues = dequeue-AreMarksOf;
  unlocks = unlock-AreMarksOf;
  reads = ts_reading-AreMarksOf;
  shown = shows_of;
  committed = λ s u p q i h acts l free. committed_in_place s u p q i h l acts free;
  sees = λ s u p q i h l free. sees_where_shown s u p q i h l free;
}
