use Rattle.std.proofs.Common.{◌≡◌, ◌∙◌, sym, ap, arith}
use Rattle.std.specs.Option.{option_map}
use Rattle.std.specs.Prelude.{Result, Ok, Err, IfOk, drop}
use Rattle.std.specs.Map.Iter.{deref_pair}
use Rattle.cics_tempstor.specs.Queues.{queues_of}
use Rattle.cics_tempstor.specs.Tables.{lists_of, those_there}
use Rattle.cics_tempstor.proofs.Listing.{in_order-drop, those_there-lists_of}
use Rattle.cics_tempstor.proofs.stores.TempStore.listing.Goals as goal

-- what a call that isn't refused answers is this as well
on_if_ok : {X E : Type 0} (r : Result X E) {a b : X} → a ≡ b → IfOk r (λ x. x ≡ a) → IfOk r (λ x. x ≡ b)
on_if_ok (Ok x) same h = h ∙ same
on_if_ok (Err e) same h = tt

pub loop-index-preserved-in_ok-put : goal.loop-index-preserved-in_ok-put
loop-index-preserved-in_ok-put c = record {
  within = omega arith;
  sorted = in_order-drop (λ row. row.items) c.self.inside.queues.entries c.loop-index.index c.in-Some.name.now c.in-Some.row.now c.in_ok-copies.field-0 c.loop-index.sorted.entries c.put.new.sorted.entries c.loop-index-test.true
      (sym c.get_index.ensures.entry ∙ ap (option_map deref_pair) c.in-Some.is) c.in_ok-copies.ensures c.loop-index.invariant.sorted c.in_ok-put.ensures;
}

pub returns : goal.returns
returns c =
    let es = c.self.inside.queues.entries in
    let first : c.loop-index.index ≡ 0 = omega arith in
    on_if_ok c.listed.result (ap those_there (c.loop-index.invariant.sorted ∙ ap (λ i. lists_of (drop i es)) first) ∙ those_there-lists_of es ∙ ap queues_of c.self.view_is) c.listed.ensures
