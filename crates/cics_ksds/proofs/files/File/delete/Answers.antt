use Rattle.std.proofs.Common.{◌≡◌, ◌∙◌, ap, subst, rules}
use Rattle.std.specs.Option.{option_map}
use Rattle.cics_names.specs.Keyed.{Bytes}
use Rattle.cics_ksds.specs.declared.images.Before.TheVariants.{Removed}
use Rattle.cics_ksds.specs.declared.slots.Slot.{Slot}
use Rattle.cics_ksds.specs.Slots.{slots_in, index_of, key_at, value_of, record_in, placed, slot_key, Shows}
use Rattle.cics_ksds.specs.Files.{FileValue, emptied, dropped}
use Rattle.cics_ksds.specs.UndoLaws.{removed_image, emptied_keeps, dropped_keeps}
use Rattle.cics_ksds.proofs.Changes.{keeps_seen, image_seen, image_of_slot}
use Rattle.cics_ksds.proofs.files.File.delete.Goals as goal

pub returns-then-keep-clause-undoable : goal.returns-then-keep-clause-undoable
returns-then-keep-clause-undoable c =
    let d = c.self.inside.definition in
    let put = c.put-old.ensures.put d (search rules) (search rules) (search rules) in
    let old : FileValue = value_of d (slots_in c.self.inside.slots) in
    let key = c.args.key.now in
    let same : c.in_ok-empty-in-At.empty ≡ key = c.in_ok-empty-in-At.ensures in
    image_seen c.args.self.now old (value_of d (slots_in c.put-old.new.self)) (emptied old key) (λ f. key) c.self.view_is (put.value ∙ ap (λ (p : Slot). placed old (slot_key d p) p) c.empty.ensures ∙ ap (emptied old) same)
    c.made.result.image (option_map (λ (r : Bytes). record { definition = d; before = Removed r }) (record_in c.put-old.result)) (ap (λ changed. changed.image) c.made.ensures ∙ c.removed.ensures)
    (image_of_slot old (emptied old key) key (λ r. Removed r) c.put-old.result (subst (λ k. Shows old k c.put-old.result) (ap (slot_key d) c.empty.ensures ∙ same) put.old)
    (put.old_key ∙ ap (slot_key d) c.empty.ensures ∙ same) (removed_image old key))

pub returns-then-keep-clause-others : goal.returns-then-keep-clause-others
returns-then-keep-clause-others c =
    let d = c.self.inside.definition in
    let put = c.put-old.ensures.put d (search rules) (search rules) (search rules) in
    let old : FileValue = value_of d (slots_in c.self.inside.slots) in
    let key = c.args.key.now in
    let same : c.in_ok-empty-in-At.empty ≡ key = c.in_ok-empty-in-At.ensures in
    keeps_seen c.args.self.now old (value_of d (slots_in c.put-old.new.self)) (emptied old key) (λ f. key) c.self.view_is (put.value ∙ ap (λ (p : Slot). placed old (slot_key d p) p) c.empty.ensures ∙ ap (emptied old) same) (emptied_keeps old key)

pub returns-else-keep-clause-others : goal.returns-else-keep-clause-others
returns-else-keep-clause-others c =
    let d = c.self.inside.definition in
    let old : FileValue = value_of d (slots_in c.self.inside.slots) in
    let key = c.args.key.now in
    let same : key_at d (slots_in c.self.inside.slots) (index_of c.self.inside.slots c.in-At.at) ≡ key = c.in-At.ensures.at.is_at.has_key in
    keeps_seen c.args.self.now old (value_of d (slots_in c.take_at.new.slots)) (dropped old key) (λ f. key) c.self.view_is (c.take_at.ensures.value ∙ ap (dropped old) same) (dropped_keeps old key)
