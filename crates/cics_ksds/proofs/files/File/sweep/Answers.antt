use Rattle.std.proofs.Common.{◌≡◌, None, false, subst, sym, ◌∙◌, ap, []}
use Rattle.cics_names.specs.Keyed.{value_at, is_key_in}
use Rattle.cics_ksds.specs.Slots.{slots_in, index_of, key_at, value_of}
use Rattle.cics_ksds.specs.Files.{dropped}
use Rattle.cics_images.specs.Cells.{is_other}
use Rattle.cics_ksds.specs.Undo.{KeepsKeys}
use Rattle.cics_ksds.specs.UndoLaws.{swept_keeps}
use Rattle.cics_ksds.specs.Files.{FileValue}
use Rattle.cics_ksds.proofs.Counts.{none_empty}
use Rattle.cics_ksds.proofs.Values.{swept_nothing, swept_empty}
use Rattle.cics_ksds.proofs.files.File.sweep.Goals as goal

pub returns-then-empties-eq0-clause-value : goal.returns-then-empties-eq0-clause-value
returns-then-empties-eq0-clause-value c =
    let d = c.self.inside.definition in
    let none : (value_of d (slots_in c.self.inside.slots)).empties ≡ [] =
    none_empty d (slots_in c.self.inside.slots) (sym c.empties.ensures ∙ c.if-empties-eq0.true) in
    rw (← c.self.view_is) (swept_nothing (value_of d (slots_in c.self.inside.slots)) c.args.key.now (ap (is_key_in c.args.key.now) none))

pub returns-in-AtEmpty-clause-value : goal.returns-in-AtEmpty-clause-value
returns-in-AtEmpty-clause-value c =
    let d = c.self.inside.definition in
    let items = (slots_in c.self.inside.slots) in
    let none : value_at c.args.key.now (value_of d items).records ≡ None =
    c.in-AtEmpty.ensures.empty_there.0 in
    let key : key_at d items (index_of c.self.inside.slots c.in-AtEmpty.at) ≡ c.args.key.now =
    c.in-AtEmpty.ensures.at.is_at.has_key in
    rw (← c.self.view_is) (c.take_at.ensures.value ∙ ap (dropped (value_of d items)) key ∙ swept_empty (value_of d items) c.args.key.now none)

pub returns-in-At-clause-value : goal.returns-in-At-clause-value
returns-in-At-clause-value c =
    let none : is_key_in c.args.key.now (value_of c.self.inside.definition (slots_in c.self.inside.slots)).empties ≡ false =
    c.in-At.ensures.record_there.1.1 in
    rw (← c.self.view_is) (swept_nothing (value_of c.self.inside.definition (slots_in c.self.inside.slots)) c.args.key.now none)

pub returns-in-Gap-clause-value : goal.returns-in-Gap-clause-value
returns-in-Gap-clause-value c =
    let none : is_key_in c.args.key.now (value_of c.self.inside.definition (slots_in c.self.inside.slots)).empties ≡ false =
    c.in-Gap.ensures.nothing_there.1 in
    rw (← c.self.view_is) (swept_nothing (value_of c.self.inside.definition (slots_in c.self.inside.slots)) c.args.key.now none)

pub returns-in-AtEmpty-clause-others : goal.returns-in-AtEmpty-clause-others
returns-in-AtEmpty-clause-others c =
    subst (λ (f : FileValue). KeepsKeys (is_other c.args.key.now) c.args.self.now f) (sym (returns-in-AtEmpty-clause-value c)) (swept_keeps c.args.self.now c.args.key.now)
