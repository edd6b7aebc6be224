use Rattle.std.proofs.Common.{◌≡◌, ◌++◌, sym, subst}
use Rattle.std.specs.Prelude.{OnOk}
use Rattle.cics_picture.proofs.OfXml.Joined.{text_said}
use Rattle.cics_picture.proofs.xml.writing.push_text.Goals as goal

pub returns : goal.returns
returns c =
    subst (λ text. OnOk c.push_shown.result (c.push_shown.new.out.items ≡ c.args.out.now.items ++ text)) (sym (text_said c.args.bytes.now)) c.push_shown.ensures
