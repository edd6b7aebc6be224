use Rattle.std.proofs.Common.{rules, ◌∙◌, ap, ◌∷◌}
use Rattle.refusals.proofs.Fresh.{ready_alone}
use Rattle.refusals.proofs.surface.call_images.Goals as goal

pub back_out-requires : goal.back_out-requires
back_out-requires c =
    let image = c.in_ok-written-2.field-0 in
    let alone = c.store.ensures.images ∙ ap (λ is. image ∷ is) (c.make_room-made.ensures.images ∙ c.new-images.ensures) in
    ready_alone c.write.new.self image c.store.new.self.newest_first alone (search rules)
