use Rattle.cics_history.proofs.CarriedImages.{carried_written, carried_read, carried_deleted, carried_ready, carried_undone, carried_marked}
use Rattle.cics_history.proofs.laws.marks.queues_give_the_images_of_their_marks.Goals as goal

pub returns : goal.returns
returns c = record {
  written = carried_written;
  read = carried_read;
  deleted = carried_deleted;
  ready = carried_ready;
  undone = carried_undone;
  marked = carried_marked;
}
