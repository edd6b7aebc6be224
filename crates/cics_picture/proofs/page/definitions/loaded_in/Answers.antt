use Rattle.std.proofs.Common.{◌≡◌, ap, ◌∙◌, subst}
use Rattle.std.specs.Prelude.{IfOk}
use Rattle.cics_picture.specs.Page.Definitions.{loaded_under}
use Rattle.cics_picture.proofs.OfPage.Openings.{file-there, file-nowhere}
use Rattle.cics_picture.proofs.page.definitions.loaded_in.Goals as goal

pub returns-in-Some : goal.returns-in-Some
returns-in-Some c =
    let there = file-there c.args.opening.now c.args.name.now c.args.content _ c.in-Some.file.now c.in-Some.ensures.value c.files.ensures.files in
    subst (λ note. IfOk c.loaded_under.result (λ made. made ≡ note)) (ap (loaded_under c.args.name.now c.args.content) c.definition.ensures.definition ∙ there) c.loaded_under.ensures

pub returns-in-None : goal.returns-in-None
returns-in-None c = file-nowhere c.args.opening.now c.args.name.now c.args.content _ c.in-None.ensures.value c.files.ensures.files
