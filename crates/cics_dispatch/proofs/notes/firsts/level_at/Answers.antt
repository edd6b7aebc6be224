use Rattle.std.proofs.Common.{◌≡◌, ◌<◌, ◌-◌, length, suc, sym, ap, ◌∙◌, arith}
use Rattle.cics_dispatch.specs.Notes.Firsts.{level_at}
use Rattle.cics_dispatch.proofs.OfNotes.LesserKeys.{level_found}
use Rattle.cics_dispatch.proofs.notes.firsts.level_at.Goals as goal

pub returns-then-place-eq0 : goal.returns-then-place-eq0
returns-then-place-eq0 c = ap (level_at c.args.keys.now c.args.above.now) (sym c.if-place-eq0.true)

pub returns-else-place-eq0 : goal.returns-else-place-eq0
returns-else-place-eq0 c =
    let keys = c.args.keys.now in
    let levels = c.args.above.now in
    let at = c.args.place - 1 in
    let more : c.args.place ≡ suc (c.args.place - 1) = omega (arith, c.if-place-eq0.false) in
    let within : c.args.place - 1 < length levels = omega (arith, c.if-place-eq0.false) in
    c.as_slice.ensures.value ∙ level_found keys levels (c.args.place - 1) c.index-above-place.result within c.index-above-place.is ∙ ap (level_at keys levels) (sym more)
