use Rattle.std.proofs.Common.{is_ok}
use Rattle.cics_dispatch.proofs.OfMachine.Looked.{looked_alone, looked_more, looked_since, first_more, only_uses}
use Rattle.cics_dispatch.proofs.dispatcher.Dispatcher.note_blocker.Goals as goal

pub returns-in_default-need : goal.returns-in_default-need
returns-in_default-need c =
    let m = c.args.self.now.machine in
    looked_alone m c.args.notes.now c.args.at c.args.unit c.args.note.now c.requires.kept c.requires.noted c.requires.first c.requires.blocked c.set_alone.new.self (is_ok c.set_alone.result) c.set_alone.ensures.rows
    c.set_alone.ensures.resources c.set_alone.ensures.blockers c.set_alone.ensures.deadlines

pub returns-in-Err : goal.returns-in-Err
returns-in-Err c = looked_more c.args.self.now.machine c.args.notes.now c.group_of.new.self c.args.at c.requires.noted c.group_of.ensures.rows c.group_of.ensures.resources c.group_of.ensures.blockers c.group_of.ensures.deadlines

pub note_group-requires-in-Ok-clause-first : goal.note_group-requires-in-Ok-clause-first
note_group-requires-in-Ok-clause-first c = first_more c.args.notes.now c.group_of.new.self c.args.at c.args.note.now c.requires.first c.group_of.ensures.rows c.group_of.ensures.blockers

pub note_group-requires-in-Ok-clause-noted : goal.note_group-requires-in-Ok-clause-noted
note_group-requires-in-Ok-clause-noted c =
    let left = looked_more c.args.self.now.machine c.args.notes.now c.group_of.new.self c.args.at c.requires.noted c.group_of.ensures.rows c.group_of.ensures.resources c.group_of.ensures.blockers c.group_of.ensures.deadlines in
    left.noted

pub note_group-requires-in-Ok-clause-uses : goal.note_group-requires-in-Ok-clause-uses
note_group-requires-in-Ok-clause-uses c =
    only_uses c.args.self.now.machine c.group_of.new.self.resources c.args.note.now c.in-Ok.group c.args.unit c.in-Some-need.resource c.in-Ok.ensures.group c.requires.blocked (λ i w there own. c.in-Some-need.ensures i w there own)

pub returns-in-Ok : goal.returns-in-Ok
returns-in-Ok c = looked_since c.args.self.now.machine c.args.notes.now c.group_of.new.self c.note_group-in-Ok.new.notes c.args.at (is_ok c.note_group-in-Ok.result) c.group_of.ensures.rows c.note_group-in-Ok.ensures
