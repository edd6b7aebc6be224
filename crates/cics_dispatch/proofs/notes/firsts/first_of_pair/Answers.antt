use Rattle.std.proofs.Common.{◌<◌, ◌*◌, length, rules}
use Rattle.cics_dispatch.proofs.OfNotes.LesserKeys.{first_pair_within, first_key_of_pair, second_key_of_pair}
use Rattle.cics_dispatch.proofs.notes.firsts.first_of_pair.Goals as goal

pub overflow_mul-at : goal.overflow_mul-at
overflow_mul-at c =
    let within : c.args.pair * 2 < length c.args.level.now = first_pair_within c.args.level.now c.args.limit c.args.pair c.requires in
    search (rules, within)

pub offset_bounds-level-at : goal.offset_bounds-level-at
offset_bounds-level-at c =
    let within : c.args.pair * 2 < length c.args.level.now = first_pair_within c.args.level.now c.args.limit c.args.pair c.requires in
    search (rules, within)

pub bounds-level-at : goal.bounds-level-at
bounds-level-at c = first_pair_within c.args.level.now c.args.limit c.args.pair c.requires

pub returns-then-level-at : goal.returns-then-level-at
returns-then-level-at c = first_key_of_pair c.args.limit c.args.level.now c.args.pair c.requires c.if-level-at.true

pub returns-else-level-at : goal.returns-else-level-at
returns-else-level-at c = second_key_of_pair c.args.limit c.args.level.now c.args.pair c.requires c.if-level-at.false
