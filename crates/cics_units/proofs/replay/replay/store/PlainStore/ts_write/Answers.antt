use Rattle.std.proofs.Common.{ap, refl, arith}
use Rattle.cics_history.proofs.Entries.{OnOk-more}
use Rattle.cics_units.proofs.OfOpening.Changing.{still_rising}
use Rattle.cics_units.proofs.OfReplay.Plain.{ts_made, ts_write_full, ts_write_there}
use Rattle.cics_units.proofs.replay.replay.store.PlainStore.ts_write.Goals as goal

pub returns-in_default : goal.returns-in_default
returns-in_default c = OnOk-more c.ts_make.result (λ made. ts_made c.self.inside.files.entries c.self.inside.temp_storage.entries c.self.inside.trans_data.entries c.args.self.now c.self.view_is c.args.queue.now c.args.from
    c.in_default.ensures.value _ (ap (λ rows. rows.entries) c.get_mut.follows.holds-at-none) c.ts_make.new.self made) c.ts_make.ensures

pub invariant_of-self-then-len-ge-MOST_ITEMS : goal.invariant_of-self-then-len-ge-MOST_ITEMS
invariant_of-self-then-len-ge-MOST_ITEMS c =
    let rising = still_rising c.args.queue.now c.in-Some.items.now c.self.inside.temp_storage.entries _
    (c.get_mut.follows.holds c.in-Some.items.now).0 c.self.invariant.1 in
    (c.self.invariant.0, rising, c.self.invariant.2)

pub returns-then-len-ge-MOST_ITEMS : goal.returns-then-len-ge-MOST_ITEMS
returns-then-len-ge-MOST_ITEMS c = ts_write_full c.self.inside.files.entries c.self.inside.temp_storage.entries c.self.inside.trans_data.entries c.args.self.now c.self.view_is c.args.queue.now c.args.from
    c.in-Some.items.now c.self.invariant.1 c.in-Some.ensures.value c.in-Some.items.now _ (c.get_mut.follows.holds c.in-Some.items.now).0 refl (omega (arith, c.if-len-ge-MOST_ITEMS.true, c.len.ensures))

pub invariant_of-self-2 : goal.invariant_of-self-2
invariant_of-self-2 c =
    let rising = still_rising c.args.queue.now c.push.new.self c.self.inside.temp_storage.entries _
    (c.get_mut.follows.holds c.push.new.self).0 c.self.invariant.1 in
    (c.self.invariant.0, rising, c.self.invariant.2)

pub returns : goal.returns
returns c = OnOk-more c.push.result (λ new. ts_write_there c.self.inside.files.entries c.self.inside.temp_storage.entries c.self.inside.trans_data.entries c.args.self.now c.self.view_is c.args.queue.now c.args.from
    c.in-Some.items.now c.self.invariant.1 c.in-Some.ensures.value c.push.new.self _ (c.get_mut.follows.holds c.push.new.self).0
    new (omega (arith, c.if-len-ge-MOST_ITEMS.false, c.len.ensures))) c.push.ensures.ok
