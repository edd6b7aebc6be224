use Rattle.std.proofs.Common.{ap}
use Rattle.cics_transdata.specs.Trans.{reader_committed}
use Rattle.cics_units.proofs.OfOpening.Changing.{still_rising, stepped, not_stepped}
use Rattle.cics_units.proofs.opening.queues.Queues.commit_reader.Goals as goal

pub returns-in_default : goal.returns-in_default
returns-in_default c = not_stepped c.args.name.now c.self.inside.rows.entries c.args.self.now c.self.view_is reader_committed c.in_default.ensures.value _
    (ap (λ rows. rows.entries) c.get_mut.follows.holds-at-none)

pub invariant_of-self-2 : goal.invariant_of-self-2
invariant_of-self-2 c = still_rising c.args.name.now c.commit_reader.new.self c.self.inside.rows.entries _
    (c.get_mut.follows.holds c.commit_reader.new.self).0 c.self.invariant

pub returns : goal.returns
returns c = stepped c.args.name.now c.self.inside.rows.entries c.args.self.now c.in-Some.queue.now c.self.invariant c.in-Some.ensures.value c.self.view_is
    c.commit_reader.new.self _ (c.get_mut.follows.holds c.commit_reader.new.self).0 reader_committed c.commit_reader.ensures.value
