use Rattle.std.proofs.Common.{◌≡◌, ◌∙◌, sym, ap, drop, arith}
use Rattle.std.specs.Option.{option_map}
use Rattle.std.specs.Map.Iter.{deref_pair}
use Rattle.cics_tempstor.specs.Queues.{place_of, places_of}
use Rattle.cics_tempstor.specs.Tables.{cursors_of, those_set}
use Rattle.cics_tempstor.proofs.Listing.{in_order-drop, insert_entry-with_value, those_set-cursors_of}
use Rattle.cics_tempstor.proofs.stores.TempStore.cursors.Goals as goal

pub loop-index-preserved-in_ok-insert : goal.loop-index-preserved-in_ok-insert
loop-index-preserved-in_ok-insert c = record {
  within = omega arith;
  sorted = in_order-drop place_of c.self.inside.queues.entries c.loop-index.index c.in-Some.name.now c.in-Some.row.now c.place.result c.loop-index.sorted.entries c.insert.new.self.entries c.loop-index-test.true
      (sym c.get_index.ensures.entry ∙ ap (option_map deref_pair) c.in-Some.is) c.place.ensures c.loop-index.invariant.sorted
      (c.in_ok-insert.ensures.entries ∙ insert_entry-with_value c.in-Some.name.now c.place.result c.loop-index.sorted.entries);
}

pub returns : goal.returns
returns c =
    let es = c.self.inside.queues.entries in
    let first : c.loop-index.index ≡ 0 = omega arith in
    ap those_set (c.loop-index.invariant.sorted ∙ ap (λ i. cursors_of (drop i es)) first) ∙ those_set-cursors_of es ∙ ap places_of c.self.view_is
