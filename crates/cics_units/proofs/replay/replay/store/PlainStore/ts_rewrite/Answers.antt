use Rattle.std.proofs.Common.{ap, sym, refl}
use Rattle.cics_units.proofs.OfOpening.Changing.{still_rising}
use Rattle.cics_units.proofs.OfReplay.Plain.{ts_rewrite_nowhere, ts_rewrite_none, ts_rewrite_there}
use Rattle.cics_units.proofs.replay.replay.store.PlainStore.ts_rewrite.Goals as goal

pub returns-in_default : goal.returns-in_default
returns-in_default c = ts_rewrite_nowhere c.self.inside.files.entries c.self.inside.temp_storage.entries c.self.inside.trans_data.entries c.args.self.now c.self.view_is c.args.queue.now c.args.from
    c.in_default.ensures.value _ (ap (λ rows. rows.entries) c.get_mut.follows.holds-at-none) c.args.item

pub invariant_of-self-then-not-has_item : goal.invariant_of-self-then-not-has_item
invariant_of-self-then-not-has_item c =
    let rising = still_rising c.args.queue.now c.in-Some.items.now c.self.inside.temp_storage.entries _
    (c.get_mut.follows.holds c.in-Some.items.now).0 c.self.invariant.1 in
    (c.self.invariant.0, rising, c.self.invariant.2)

pub returns-then-not-has_item : goal.returns-then-not-has_item
returns-then-not-has_item c = ts_rewrite_none c.self.inside.files.entries c.self.inside.temp_storage.entries c.self.inside.trans_data.entries c.args.self.now c.self.view_is c.args.queue.now c.args.from
    c.in-Some.items.now c.self.invariant.1 c.in-Some.ensures.value c.in-Some.items.now _ (c.get_mut.follows.holds c.in-Some.items.now).0 c.args.item refl (sym c.if-not-has_item.ensures)

pub invariant_of-self-2 : goal.invariant_of-self-2
invariant_of-self-2 c =
    let rising = still_rising c.args.queue.now c.set.new.self c.self.inside.temp_storage.entries _
    (c.get_mut.follows.holds c.set.new.self).0 c.self.invariant.1 in
    (c.self.invariant.0, rising, c.self.invariant.2)

pub returns : goal.returns
returns c = ts_rewrite_there c.self.inside.files.entries c.self.inside.temp_storage.entries c.self.inside.trans_data.entries c.args.self.now c.self.view_is c.args.queue.now c.args.from
    c.in-Some.items.now c.self.invariant.1 c.in-Some.ensures.value c.set.new.self _ (c.get_mut.follows.holds c.set.new.self).0 c.args.item
    c.set.ensures (sym c.if-not-has_item.ensures)
