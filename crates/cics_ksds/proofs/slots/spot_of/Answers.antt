use Rattle.std.proofs.Common.{Some, ◌∙◌, ap}
use Rattle.cics_ksds.specs.declared.slots.Slot.TheVariants.{Filled, Empty}
use Rattle.cics_ksds.specs.Slots.{slots_in, index_of}
use Rattle.cics_ksds.proofs.Edits.{find_read, find_gap}
use Rattle.cics_ksds.proofs.Values.{shows_found, get_nothing, contains_nothing}
use Rattle.cics_ksds.proofs.slots.spot_of.Goals as goal

pub returns-in-Filled : goal.returns-in-Filled
returns-in-Filled c = record {
  at = c.in-Ok.ensures.found;
  record_there = (
    c.in-Filled.field-0,
    shows_found c.args.definition (slots_in c.args.slots.now) c.args.key.now c.requires.rising (Filled c.in-Filled.field-0)
        (find_read c.args.definition (slots_in c.args.slots.now) c.args.key.now (index_of c.args.slots.now c.in-Ok.at) c.slot_at.result.now c.requires.rising c.in-Ok.ensures.found.is_at c.slot_at.ensures ∙ ap Some c.in-Filled.is),
  );
}

pub returns-in-Empty : goal.returns-in-Empty
returns-in-Empty c = record {
  at = c.in-Ok.ensures.found;
  empty_there = shows_found c.args.definition (slots_in c.args.slots.now) c.args.key.now c.requires.rising (Empty c.in-Empty.field-0)
      (find_read c.args.definition (slots_in c.args.slots.now) c.args.key.now (index_of c.args.slots.now c.in-Ok.at) c.slot_at.result.now c.requires.rising c.in-Ok.ensures.found.is_at c.slot_at.ensures ∙ ap Some c.in-Empty.is);
}

pub returns-in-Err : goal.returns-in-Err
returns-in-Err c =
    let none = find_gap c.args.definition (slots_in c.args.slots.now) c.args.key.now (index_of c.args.slots.now c.in-Err.at) c.in-Err.ensures.absent.gap in
    record {
      gap = c.in-Err.ensures.absent;
      nothing_there = (get_nothing c.args.definition (slots_in c.args.slots.now) c.args.key.now c.requires.rising none, contains_nothing c.args.definition (slots_in c.args.slots.now) c.args.key.now c.requires.rising none);
    }
