use Rattle.std.proofs.Common.{◌≡◌, ◌≤◌, ◌+◌, ◌-◌, drop}
use Rattle.cics_dispatch.specs.Machine.Notes.{AreNotedNow}
use Rattle.cics_dispatch.specs.Notes.Notes.{count}
use Rattle.cics_dispatch.proofs.dispatcher.Dispatcher.note_behind.Given as goal

-- those that are left are behind those that were passed and those that got a note
abbrev pub invariant-loop-wait : goal.invariant-loop-wait
invariant-loop-wait l = record {
  noted : AreNotedNow l.self.machine l.notes;
  few : l.passed ≤ l.noted;
  more : l.noted ≤ count l.notes.rows;
  rest : drop (l.passed + (count l.notes.rows - l.noted)) l.self.machine.waiting ≡ l.wait-iterator;
}
