use Rattle.std.proofs.Common.{◌≡◌, ◌<◌, ◌^◌, ◌++◌, ap, sym, ◌∙◌, subst, arith}
use Rattle.std.specs.Prelude.{OnOk}
use Rattle.std.proofs.lemmas.Result.{on_ok_weaker}
use Rattle.cics_picture.specs.Xml.Attributes.{attribute_of}
use Rattle.cics_picture.specs.Xml.Documents.{attribute_text}
use Rattle.cics_picture.proofs.OfXml.Numbers.{moved_text}
use Rattle.cics_picture.proofs.xml.writing.push_attribute.Goals as goal

pub returns-in-Move : goal.returns-in-Move
returns-in-Move c =
    let o = c.args.out.now.items in
    let x : c.in-Move.x < 2 ^ 64 = omega arith in
    let y : c.in-Move.y < 2 ^ 64 = omega arith in
    subst (λ a. OnOk c.push_parts-in-Move.result (c.push_parts-in-Move.new.out.items ≡ o ++ attribute_text (attribute_of a))) (sym c.in-Move.is)
    (on_ok_weaker c.push_parts-in-Move.result (λ put. put ∙ ap (λ t. o ++ t) (sym (moved_text c.in-Move.x c.in-Move.y x y))) c.push_parts-in-Move.ensures)
