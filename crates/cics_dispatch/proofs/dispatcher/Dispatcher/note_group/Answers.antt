use Rattle.std.proofs.Common.{is_ok}
use Rattle.cics_dispatch.proofs.OfMachine.Looked.{looked_alone, looked_group}
use Rattle.cics_dispatch.proofs.dispatcher.Dispatcher.note_group.Goals as goal

pub returns-then-may_close : goal.returns-then-may_close
returns-then-may_close c =
    let m = c.args.self.now.machine in
    looked_group m c.args.notes.now c.args.found.0 c.args.unit c.args.found.1 c.requires.kept c.requires.noted c.requires.first c.requires.blocked c.args.group c.requires.within (c.may_close.ensures c.if-may_close.true) c.requires.uses
    c.close.new.self (is_ok c.close.result) c.close.ensures.rows c.close.ensures.resources c.close.ensures.blockers c.close.ensures.deadlines

pub returns-else-may_close : goal.returns-else-may_close
returns-else-may_close c =
    let m = c.args.self.now.machine in
    looked_alone m c.args.notes.now c.args.found.0 c.args.unit c.args.found.1 c.requires.kept c.requires.noted c.requires.first c.requires.blocked c.set_alone.new.self (is_ok c.set_alone.result) c.set_alone.ensures.rows c.set_alone.ensures.resources
    c.set_alone.ensures.blockers c.set_alone.ensures.deadlines
