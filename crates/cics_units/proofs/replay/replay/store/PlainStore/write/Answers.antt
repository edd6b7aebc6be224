use Rattle.std.proofs.Common.{ap}
use Rattle.cics_history.proofs.Entries.{OnOk-more}
use Rattle.cics_units.proofs.OfOpening.Changing.{still_rising}
use Rattle.cics_units.proofs.OfReplay.Plain.{write_nowhere, write_there}
use Rattle.cics_units.proofs.replay.replay.store.PlainStore.write.Goals as goal

pub returns-in_default : goal.returns-in_default
returns-in_default c = write_nowhere c.self.inside.files.entries _ c.self.inside.temp_storage.entries c.self.inside.trans_data.entries c.args.self.now c.self.view_is c.args.file.now c.args.key c.args.from
    c.in_default.ensures.value (ap (λ rows. rows.entries) c.get_mut.follows.holds-at-none)

pub invariant_of-self-2 : goal.invariant_of-self-2
invariant_of-self-2 c =
    let rising = still_rising c.args.file.now c.write.new.self c.self.inside.files.entries _ (c.get_mut.follows.holds c.write.new.self).0 c.self.invariant.0 in
    (rising, c.self.invariant.1, c.self.invariant.2)

pub returns : goal.returns
returns c = OnOk-more c.write.result (write_there c.self.inside.files.entries _ c.self.inside.temp_storage.entries c.self.inside.trans_data.entries c.args.self.now c.self.view_is c.args.file.now c.args.key c.args.from
    c.in-Some.records.now c.write.new.self c.self.invariant.0 c.in-Some.ensures.value (c.get_mut.follows.holds c.write.new.self).0) c.write.ensures
