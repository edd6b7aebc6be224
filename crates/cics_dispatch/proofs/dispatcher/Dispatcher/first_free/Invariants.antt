use Rattle.std.proofs.Common.{◌≡◌, length}
use Rattle.cics_dispatch.specs.Machine.Notes.{AreNotedNow}
use Rattle.cics_dispatch.specs.Notes.Notes.{count}
use Rattle.cics_dispatch.proofs.OfMachine.Looked.{left_open}
use Rattle.cics_dispatch.proofs.dispatcher.Dispatcher.first_free.Given as goal

-- each waiting command has its note
abbrev pub invariant-loop-at : goal.invariant-loop-at
invariant-loop-at l = record {
  noted : AreNotedNow l.self.machine l.notes;
  all : count l.notes.rows ≡ length l.self.machine.waiting;
}

-- each look leaves fewer to look at
abbrev pub decreases-loop-at : goal.decreases-loop-at
decreases-loop-at l = left_open l.notes.blockers l.notes.rows
