use Rattle.std.proofs.Common.{ap}
use Rattle.cics_history.proofs.Entries.{OnOk-more}
use Rattle.cics_units.proofs.OfOpening.Changing.{still_rising}
use Rattle.cics_units.proofs.OfReplay.Plain.{generic_nowhere, generic_there}
use Rattle.cics_units.proofs.replay.replay.store.PlainStore.delete_generic.Goals as goal

pub returns-in_default : goal.returns-in_default
returns-in_default c = generic_nowhere c.self.inside.files.entries _ c.self.inside.temp_storage.entries c.self.inside.trans_data.entries c.args.self.now c.self.view_is c.args.file.now c.args.prefix.now
    c.in_default.ensures.value (ap (λ rows. rows.entries) c.get_mut.follows.holds-at-none)

pub invariant_of-self-2 : goal.invariant_of-self-2
invariant_of-self-2 c =
    let rising = still_rising c.args.file.now c.delete_generic.new.self c.self.inside.files.entries _
    (c.get_mut.follows.holds c.delete_generic.new.self).0 c.self.invariant.0 in
    (rising, c.self.invariant.1, c.self.invariant.2)

pub returns : goal.returns
returns c = OnOk-more c.delete_generic.result
    (generic_there c.self.inside.files.entries _ c.self.inside.temp_storage.entries c.self.inside.trans_data.entries c.args.self.now c.self.view_is c.args.file.now c.args.prefix.now
    c.in-Some.records.now c.delete_generic.new.self c.self.invariant.0 c.in-Some.ensures.value (c.get_mut.follows.holds c.delete_generic.new.self).0)
    c.delete_generic.ensures
