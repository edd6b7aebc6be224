use Rattle.std.proofs.Common.{◌++◌, ap, ◌∙◌}
use Rattle.cics_picture.specs.Page.Lines.{front_text, back_text}
use Rattle.cics_picture.specs.Page.Pages.{listing_unless}
use Rattle.cics_picture.proofs.OfPage.Documents.{put-page}
use Rattle.cics_picture.proofs.page.pages.page_script.Goals as goal

pub returns-clause-page : goal.returns-clause-page
returns-clause-page c =
    let o = c.args.out.now.items in
    let sheet = c.in_ok-sheet.sheet in
    let stage = c.page_lines.new.session.stage in
    let fault = c.in_ok-sheet.is_faulty in
    let front = c.push_front.new.out.items in
    put-page c.args.script.now sheet stage fault o front c.push_back.new.out.items c.in_ok-sheet.ensures.lines c.in_ok-sheet.ensures.stage c.in_ok-sheet.ensures.fault
    (c.in_ok-push_front.ensures ∙ ap (λ t. o ++ front_text t) c.title_of.ensures)
    (c.in_ok-push_back.ensures ∙ ap (λ lines. front ++ (lines ++ back_text (listing_unless fault stage))) c.deref.ensures.value)
