use Rattle.std.proofs.Common.{List, not, false, sym, ◌∙◌, ap, subst}
use Rattle.cics_images.specs.Cells.{AreOf}
use Rattle.cics_ksds.specs.Files.{FileValue, IsContent}
use Rattle.cics_ksds.specs.Slots.{slots_in}
use Rattle.cics_ksds.specs.Undo.{ImageValue, key_of_image, KeepsKeys}
use Rattle.cics_ksds.specs.Prefixes.{has_prefix, without_prefix, AreFileImages}
use Rattle.cics_ksds.specs.PrefixLaws.{prefix_keeps}
use Rattle.cics_ksds.specs.PrefixRecords.{without_prefix_records}
use Rattle.cics_ksds.proofs.Bounds.{content_of}
use Rattle.cics_ksds.proofs.files.File.delete_prefix.Goals as goal

pub returns-then-keep-clause-undoable : goal.returns-then-keep-clause-undoable
returns-then-keep-clause-undoable c kept = subst (λ (is : List ImageValue). AreFileImages c.args.self.now c.empty_under.new.self is) (sym c.from_vec.ensures) c.in_ok-images.ensures.undoable

pub returns-then-keep-clause-named : goal.returns-then-keep-clause-named
returns-then-keep-clause-named c = subst (λ (is : List ImageValue). AreOf key_of_image (has_prefix c.args.prefix.now) is) (sym c.from_vec.ensures) c.in_ok-images.ensures.named

pub returns-then-keep-clause-others : goal.returns-then-keep-clause-others
returns-then-keep-clause-others c = c.empty_under.ensures.others

pub returns-clause-plain : goal.returns-clause-plain
returns-clause-plain c =
    let old = c.args.self.now in
    let content : IsContent old.definition old.records = subst (λ (f : FileValue). IsContent f.definition f.records) c.self.view_is (content_of c.self.inside.definition (slots_in c.self.inside.slots) c.self.invariant) in
    ap (λ (f : FileValue). f.records) (c.drop_under.ensures.value ∙ ap (λ (f : FileValue). without_prefix false f c.args.prefix.now) c.self.view_is)
    ∙ without_prefix_records false old c.args.prefix.now content

pub returns-clause-others : goal.returns-clause-others
returns-clause-others c =
    subst (λ (f : FileValue). KeepsKeys (λ key. not (has_prefix c.args.prefix.now key)) c.args.self.now f)
    (sym (c.drop_under.ensures.value ∙ ap (λ (f : FileValue). without_prefix false f c.args.prefix.now) c.self.view_is)) (prefix_keeps false c.args.self.now c.args.prefix.now)
