use Rattle.std.proofs.Common.{◌≡◌, Some, List, ℕ, sym, ◌∙◌, ap}
use Rattle.std.specs.Option.{option_and_then}
use Rattle.cics_names.specs.Keyed.{value_at}
use Rattle.cics_ksds.specs.Slots.{keyed_slots, record_in, slots_in, index_of}
use Rattle.cics_ksds.proofs.Edits.{find_read, find_gap}
use Rattle.cics_ksds.proofs.Values.{get_records, get_nothing}
use Rattle.cics_ksds.proofs.slots.record_of.Goals as goal
use Rattle.cics_ksds.proofs.slots.record_of.Goals.{After-slot_at}

-- the slot that was read is the one of the key
there : (c : After-slot_at) → value_at c.args.key.now (keyed_slots c.args.definition (slots_in c.args.slots.now)) ≡ Some c.slot_at.result.now
there c = find_read c.args.definition (slots_in c.args.slots.now) c.args.key.now (index_of c.args.slots.now c.in-Ok.at) c.slot_at.result.now c.requires.rising c.in-Ok.ensures.found.is_at c.slot_at.ensures

pub returns-in-Filled : goal.returns-in-Filled
returns-in-Filled c = ap (λ (r : List ℕ). Some r) c.record.ensures ∙ sym (get_records (keyed_slots c.args.definition (slots_in c.args.slots.now)) c.requires.rising c.args.key.now
    ∙ ap (option_and_then record_in) (there (goal.at.returns-in-Filled c).After-slot_at ∙ ap Some c.in-Filled.is))

pub returns-in-Empty : goal.returns-in-Empty
returns-in-Empty c = sym (get_records (keyed_slots c.args.definition (slots_in c.args.slots.now)) c.requires.rising c.args.key.now
    ∙ ap (option_and_then record_in) (there (goal.at.returns-in-Empty c).After-slot_at ∙ ap Some c.in-Empty.is))

pub returns-in-Err : goal.returns-in-Err
returns-in-Err c = sym (get_nothing c.args.definition (slots_in c.args.slots.now) c.args.key.now c.requires.rising
    (find_gap c.args.definition (slots_in c.args.slots.now) c.args.key.now (index_of c.args.slots.now c.in-Err.field-0) c.in-Err.ensures.absent.gap))
