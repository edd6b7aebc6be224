-- The NEXT cursors of the queues as they stand are those of the units, through each call.
use Rattle.std.proofs.Common.{◌≡◌, ℕ, Bool, true, false, Option, None, refl, ap, sym, ◌∙◌}
use Rattle.std.specs.Prelude.{if◌then◌else◌}
use Rattle.cics_names.specs.Keyed.{Bytes, Map, has_key, with_value, without}
use Rattle.cics_tempstor.specs.declared.queue_rows.Row.{Row}
use Rattle.cics_tempstor.specs.Queues.{Queue, is_there, has_item, queue_at, queues_of, places_of, delete_condition, after_read_item}
use Rattle.cics_tempstor.specs.Shown.{queue_at-queues_of}
use Rattle.cics_tempstor.specs.Places.{AreInOrder, has_key-queues_of, places_of-written, places_of-rewritten, places_of-deleted, places_of-read, without-absent_queue, in_order_written, in_order_rewritten, in_order_deleted, in_order_read}
use Rattle.cics_history.specs.State.{Store, UnitsState}
use Rattle.cics_history.specs.Store.{apply, ts_queue, is_normal}
use Rattle.cics_history.specs.Holding.{store_of, awaited}
use Rattle.cics_history.specs.Execution.{next_after, state_of, after_execution, after_ts_reading}
use Rattle.cics_history.specs.declared.ops.Op.{Op}
use Rattle.cics_history.specs.declared.ops.Op.TheVariants.{TsWrite, TsRewrite, TsDelete}
use Rattle.cics_units.specs.QueueChanges.{rows_after}
use Rattle.cics_units.specs.StorePlaces.{HavePlaces}

-- ---- commands
module _ (rows : Map Row) (in_order : AreInOrder rows) where
  -- the rows stay in order
  rows_in_order : (op : Op) (keep : Bool) → AreInOrder (rows_after op keep rows)
  rows_in_order (TsWrite q d) keep = in_order_written rows in_order q d
  rows_in_order (TsRewrite q n d) keep = in_order_rewritten rows in_order q n d
  rows_in_order (TsDelete q) keep = in_order_deleted rows in_order q keep
  rows_in_order _ keep = in_order

  -- the items of a queue, read off those that are there
  items_of : (store : Store) → store.ts ≡ queues_of rows → (q : Bytes) → ts_queue store q ≡ queue_at q rows
  items_of store same q = ap (λ t. ts_queue (record store { ts = t }) q) same ∙ queue_at-queues_of q rows in_order.rising

  -- the write that makes a queue finds no place of it
  place_made : (store : Store) → store.ts ≡ queues_of rows → (q : Bytes) →
      places_of rows ≡ (if has_key q store.ts then places_of rows else without q (places_of rows))
  place_made store same q = by (is_there (queue_at q rows)) refl
      ∙ ap (λ b. if b then places_of rows else without q (places_of rows)) (sym (ap (has_key q) same ∙ has_key-queues_of q rows in_order.rising))
    where
      by : (b : Bool) → is_there (queue_at q rows) ≡ b → places_of rows ≡ (if b then places_of rows else without q (places_of rows))
      by true there = refl
      by false absent = sym (without-absent_queue rows in_order.rising q absent)

  -- a delete answers NORMAL if the queue is there
  normal_there : (b : Bool) (queue : Queue) → is_there queue ≡ b → is_normal (delete_condition queue) ≡ b
  normal_there true queue there = rw there refl
  normal_there false queue absent = rw absent refl

  -- the places after a command are those of the units after it
  places_after : (op : Op) (keep : Bool) (store : Store) → store.ts ≡ queues_of rows →
      places_of (rows_after op keep rows) ≡ next_after store op (apply store op).answer.condition (places_of rows)
  places_after (TsWrite q d) keep store same = places_of-written rows in_order.rising q d ∙ place_made store same q
  places_after (TsRewrite q n d) keep store same = places_of-rewritten rows in_order.rising q n d
  places_after (TsDelete q) keep store same =
      places_of-deleted rows in_order.rising q keep
      ∙ ap (λ b. if b then without q (places_of rows) else places_of rows)
      (sym (ap (λ c. is_normal (delete_condition c)) (items_of store same q) ∙ normal_there (is_there (queue_at q rows)) (queue_at q rows) refl))
  places_after _ keep store same = refl

module _ (s : UnitsState) (rows : Map Row) (have : HavePlaces s rows) where
  -- an executed command keeps the cursors those of the units; one that is on no temporary
  -- storage queue leaves the rows
  pub executed_places : (u : Option ℕ) (op : Op) (keep : Bool) → (store_of s).ts ≡ queues_of rows → awaited s u op ≡ None →
      HavePlaces (after_execution s u op) (rows_after op keep rows)
  executed_places u op keep same free = record {
    in_order = rows_in_order rows have.in_order op keep;
    places = places_after rows have.in_order op keep (store_of s) same
        ∙ ap (next_after (store_of s) op (apply (store_of s) op).answer.condition) have.places
        ∙ ap (λ w. (state_of s u op w).next) (sym free);
  }

  -- READQ TS of an item sets the place of its queue
  pub read_places : (q : Bytes) (n : ℕ) → (store_of s).ts ≡ queues_of rows → HavePlaces (after_ts_reading s q n) (after_read_item rows q n)
  read_places q n same = record {
    in_order = in_order_read rows have.in_order q n;
    places = places_of-read rows have.in_order.rising q n ∙ by (has_item (queue_at q rows) n)
        ∙ ap (λ items. (if has_item items n then record s { next = with_value q n s.next } else s).next) (sym (items_of rows have.in_order (store_of s) same q));
  }
    where
      by : (b : Bool) → (if b then with_value q n (places_of rows) else places_of rows) ≡ (if b then record s { next = with_value q n s.next } else s).next
      by true = ap (with_value q n) have.places
      by false = have.places
