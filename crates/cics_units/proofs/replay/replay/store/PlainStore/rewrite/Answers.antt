use Rattle.std.proofs.Common.{ap}
use Rattle.cics_units.proofs.OfOpening.Changing.{still_rising}
use Rattle.cics_units.proofs.OfReplay.Plain.{rewrite_nowhere, rewrite_there}
use Rattle.cics_units.proofs.replay.replay.store.PlainStore.rewrite.Goals as goal

pub returns-in_default : goal.returns-in_default
returns-in_default c = rewrite_nowhere c.self.inside.files.entries _ c.self.inside.temp_storage.entries c.self.inside.trans_data.entries c.args.self.now c.self.view_is c.args.file.now c.args.key.now c.args.from
    c.in_default.ensures.value (ap (λ rows. rows.entries) c.get_mut.follows.holds-at-none)

pub invariant_of-self-2 : goal.invariant_of-self-2
invariant_of-self-2 c =
    let rising = still_rising c.args.file.now c.rewrite.new.self c.self.inside.files.entries _
    (c.get_mut.follows.holds c.rewrite.new.self).0 c.self.invariant.0 in
    (rising, c.self.invariant.1, c.self.invariant.2)

pub returns : goal.returns
returns c = rewrite_there c.self.inside.files.entries _ c.self.inside.temp_storage.entries c.self.inside.trans_data.entries c.args.self.now c.self.view_is c.args.file.now c.args.key.now c.args.from
    c.in-Some.records.now c.rewrite.new.self c.self.invariant.0 c.in-Some.ensures.value (c.get_mut.follows.holds c.rewrite.new.self).0 c.rewrite.ensures
