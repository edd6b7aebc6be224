use Rattle.cics_history.proofs.MarkedParts.{queue_of-shown, first_of-seen, marks_of-written, marks_of-read, marks_of-deleted, marks_of-reader, marks_of-writer}
use Rattle.cics_history.proofs.laws.marks.queues_carry_their_marks.Goals as goal

pub returns : goal.returns
returns c = record {
  shown = queue_of-shown;
  first = first_of-seen;
  written = marks_of-written;
  read = marks_of-read;
  deleted = marks_of-deleted;
  reader_commits = marks_of-reader;
  writer_commits = marks_of-writer;
}
