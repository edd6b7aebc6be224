use Rattle.std.proofs.Common.{◌≡◌, ◌++◌, subst}
use Rattle.std.specs.Prelude.{OnOk}
use Rattle.cics_picture.specs.declared.xml.names.Tag.TheVariants as tag
use Rattle.cics_picture.specs.Elements.{spoken}
use Rattle.cics_picture.specs.Sheets.{style_text}
use Rattle.cics_picture.proofs.sheet.push_style.Goals as goal

pub returns : goal.returns
unfolding style_text
returns c =
    subst (λ bytes. OnOk c.push_spoken.result (c.push_spoken.new.out.items ≡ c.args.out.now.items ++ spoken tag.Style bytes)) c.as_bytes.ensures.value c.push_spoken.ensures
