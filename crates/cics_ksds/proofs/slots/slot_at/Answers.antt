use Rattle.std.proofs.Common.{List, get_or, sym, ◌∙◌, ap}
use Rattle.cics_ksds.specs.declared.slots.Slot.{Slot}
use Rattle.cics_ksds.proofs.IntervalEdits.{read_slot}
use Rattle.cics_ksds.proofs.slots.slot_at.Goals as goal

pub returns : goal.returns
returns c =
    c.index-slots-at.is ∙ ap (λ (l : List Slot). get_or l c.args.at.slot c.index-slots-at.result) c.slots.ensures
    ∙ sym (read_slot c.args.slots.now c.args.at c.requires.there c.index-slots-at.result c.requires.slot)
