use Rattle.std.proofs.Common.{ap}
use Rattle.cics_units.proofs.OfOpening.Changing.{still_rising}
use Rattle.cics_units.proofs.OfReplay.Plain.{records_rewritten_absent, records_rewritten_there}
use Rattle.cics_units.proofs.replay.replay.records.PlainRecords.rewrite.Goals as goal

pub returns-in_default : goal.returns-in_default
returns-in_default c = records_rewritten_absent c.args.key.now c.args.from c.self.inside.rows.entries c.args.self.now c.self.view_is c.in_default.ensures.value
    c.get_mut.follows.lender-at-none.entries (ap (λ rows. rows.entries) c.get_mut.follows.holds-at-none)

pub invariant_of-self-2 : goal.invariant_of-self-2
invariant_of-self-2 c = still_rising c.args.key.now c.args.from c.self.inside.rows.entries _
    (c.get_mut.follows.holds c.args.from).0 c.self.invariant

pub returns : goal.returns
returns c = records_rewritten_there c.args.key.now c.args.from c.self.inside.rows.entries c.args.self.now c.self.view_is c.in-Some.record.now c.self.invariant c.in-Some.ensures.value _
    (c.get_mut.follows.holds c.args.from).0
