use Rattle.std.proofs.Common.{◌∙◌}
use Rattle.cics_dispatch.proofs.OfNotes.LesserKeys.{parted, alone_within, opened_above, filled_above}
use Rattle.cics_dispatch.proofs.notes.firsts.+append.Goals as goal

pub set-requires-clause-within : goal.set-requires-clause-within
set-requires-clause-within t c =
    let keys = c.args.level.now in
    let split = c.split_at_mut-next in
    let next = c.index-next-0-else-at-eq0.result in
    let are = parted keys.items c.args.above.now split.result.0.now split.result.1.now next split.ensures.value split.ensures.front_len c.requires.above in
    alone_within keys.items _ c.len-at.result are.0 (c.len-at.ensures ∙ keys.ok.0) c.if-at-eq0.false

pub returns-then-at-eq0-clause-above : goal.returns-then-at-eq0-clause-above
returns-then-at-eq0-clause-above t c =
    let keys = c.args.level.now in
    let split = c.split_at_mut-next in
    opened_above keys.items c.args.above.now split.result.0.now split.result.1.now c.index-next-0.result split.ensures.value split.ensures.front_len c.requires.above
    c.append.new.level c.append.new.above c.append.ensures.above c.push_reserved.new.self.items c.args.key c.lesser-least.result
    c.len-at.result (c.len-at.ensures ∙ keys.ok.0) c.push_reserved.ensures.items (rw (← c.as_slice.ensures.value) c.lesser-least.ensures) c.if-at-eq0.true c.append.ensures.keys

pub returns-else-at-eq0-clause-above : goal.returns-else-at-eq0-clause-above
returns-else-at-eq0-clause-above t c =
    let keys = c.args.level.now in
    let split = c.split_at_mut-next in
    filled_above keys.items c.args.above.now split.result.0.now split.result.1.now c.index-next-0-else-at-eq0.result split.ensures.value split.ensures.front_len c.requires.above
    c.set.new.level c.set.new.above c.set.ensures.above c.push_reserved.new.self.items c.args.key c.lesser-least.result
    c.len-at.result (c.len-at.ensures ∙ keys.ok.0) c.push_reserved.ensures.items (rw (← c.as_slice.ensures.value) c.lesser-least.ensures) c.if-at-eq0.false c.set.ensures.keys
