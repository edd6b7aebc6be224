use Rattle.std.proofs.Common.{◌<◌, ◌/◌, ap, sym, subst, length, rules}
use Rattle.cics_dispatch.proofs.OfNotes.LesserKeys.{parted, pair_within, set_above}
use Rattle.cics_dispatch.proofs.notes.firsts.+set.Goals as goal

pub set-requires : goal.set-requires
set-requires t c =
    let split = c.split_at_mut-next in
    let next = parted c.args.level.now.items c.args.above.now split.result.0.now split.result.1.now c.index-next-0.result split.ensures.value split.ensures.front_len c.requires.above in
    (search rules, (subst (λ n. c.args.at / 2 < n) (sym (ap length next.0)) (pair_within c.args.level.now.items c.args.at c.requires.within), next.1))

pub returns-clause-above : goal.returns-clause-above
returns-clause-above t c =
    let split = c.split_at_mut-next in
    set_above c.args.level.now.items c.args.above.now split.result.0.now split.result.1.now c.index-next-0.result split.ensures.value split.ensures.front_len c.requires.above
    c.set.new.level c.set.new.above c.set.ensures.above c.as_slice.result.now c.args.key c.lesser-least.result
    c.args.at c.requires.within c.as_slice.ensures.value c.lesser-least.ensures c.set.ensures.keys
