use Rattle.std.proofs.Common.{refl}
use Rattle.cics_tempstor.specs.Places.{in_order_written, in_order_rewritten, in_order_deleted, in_order_read, in_order_committed, in_order_backed_out, places_of-written, places_of-rewritten, places_of-deleted, places_of-read, places_of-committed, places_of-backed_out}
use Rattle.cics_tempstor.proofs.laws.next_places_are_no_part_of_what_is_undone.Goals as goal

pub returns : goal.returns
returns c = record {
  empty = (record { rising = tt; hides = λ q none. refl }, refl);
  written = λ rows q d ordered. (in_order_written rows ordered q d, places_of-written rows ordered.rising q d);
  rewritten = λ rows q n d ordered. (in_order_rewritten rows ordered q n d, places_of-rewritten rows ordered.rising q n d);
  deleted = λ keep rows q ordered. (in_order_deleted rows ordered q keep, places_of-deleted rows ordered.rising q keep);
  read = λ rows q n ordered. (in_order_read rows ordered q n, places_of-read rows ordered.rising q n);
  committed = λ rows images ordered. (in_order_committed rows images ordered, places_of-committed rows images ordered.rising);
  backed_out = λ rows images ordered. (in_order_backed_out rows images ordered, places_of-backed_out rows images ordered);
}
