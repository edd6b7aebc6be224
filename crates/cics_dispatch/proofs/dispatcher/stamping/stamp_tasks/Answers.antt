use Rattle.std.proofs.Common.{◌≡◌, ◌+◌, ◌<◌, ◌∷◌, [], ◌++◌, length, take, ap, sym, ◌∙◌, arith}
use Rattle.std.specs.List.{flat_map}
use Rattle.std.proofs.lemmas.List.{take_more, flat_map_more}
use Rattle.std.proofs.lemmas.Option.{get_or_from_slice_get}
use Rattle.cics_names.specs.Stamps.{number_stamp, item_stamp}
use Rattle.cics_names.proofs.Stamps.{appended_two}
use Rattle.cics_dispatch.specs.Machine.Stamps.{task_stamp}
use Rattle.cics_dispatch.proofs.dispatcher.stamping.stamp_tasks.Goals as goal

-- one task more is stamped
pub loop-at-preserved : goal.loop-at-preserved
loop-at-preserved c =
    let ts = c.args.tasks.now in
    let i = c.loop-at.at in
    let t = c.get.result.now in
    let out = c.args.out.now.items in
    let stamp = task_stamp c.args.units.now.state in
    let within : i < length ts = omega (arith, c.loop-at-test.true, c.len-at-end.ensures.length) in
    let next : take (i + 1) ts ≡ take i ts ++ t ∷ [] = take_more ts i t within ∙ ap (λ y. take i ts ++ y ∷ []) (get_or_from_slice_get ts i t t c.get.ensures) in
    appended_two c.loop-at.out.items (number_stamp 1) (stamp t) c.in_ok-stamp_number.ensures c.in_ok-stamp_task.ensures
    ∙ ap (λ o. o ++ item_stamp stamp t) c.loop-at.invariant
    ∙ flat_map_more (item_stamp stamp) out (take i ts) t
    ∙ ap (λ ts. out ++ flat_map (item_stamp stamp) ts) (sym next)
