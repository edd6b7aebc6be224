use Rattle.std.proofs.Common.{[], refl}
use Rattle.cics_units.proofs.OfReplay.Plain.{removed-rising, not_there, is_there_if, ts_delete_nowhere, ts_delete_empty, ts_delete_there}
use Rattle.cics_units.proofs.replay.replay.store.PlainStore.ts_delete.Goals as goal

pub returns-in_default : goal.returns-in_default
returns-in_default c = ts_delete_nowhere c.self.inside.files.entries c.self.inside.temp_storage.entries c.self.inside.trans_data.entries c.args.self.now c.self.view_is c.args.queue.now [] c.in_default.ensures.value c.self.inside.temp_storage.entries refl

pub returns-then-is_empty : goal.returns-then-is_empty
returns-then-is_empty c = ts_delete_empty c.self.inside.files.entries c.self.inside.temp_storage.entries c.self.inside.trans_data.entries c.args.self.now c.self.view_is c.args.queue.now [] c.in-Some.items.now c.self.invariant.1 c.in-Some.ensures.value
    (not_there c.in-Some.items.now (c.if-is_empty.ensures.0 refl))

pub invariant_of-self : goal.invariant_of-self
invariant_of-self c = (c.self.invariant.0, removed-rising c.args.queue.now c.self.inside.temp_storage.entries c.remove.new.self.entries c.self.invariant.1 c.remove.ensures.entries, c.self.invariant.2)

pub returns : goal.returns
returns c = ts_delete_there c.self.inside.files.entries c.self.inside.temp_storage.entries c.self.inside.trans_data.entries c.args.self.now c.self.view_is c.args.queue.now [] c.in-Some.items.now c.self.invariant.1 c.in-Some.ensures.value
    (is_there_if c.in-Some.items.now c.if-is_empty.ensures.1) c.remove.new.self.entries c.remove.ensures.entries
