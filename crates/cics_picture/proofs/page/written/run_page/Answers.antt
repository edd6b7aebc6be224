use Rattle.std.proofs.Common.{arith, ◌≡◌, sym, subst, Err}
use Rattle.cics_run.specs.Session.Printing.{AppendsFront}
use Rattle.cics_picture.specs.declared.page.lines.Unwritten.TheVariants.{TooManySteps, TooLong}
use Rattle.cics_picture.specs.Page.Pages.{HasTooManySteps, HasTooLongLines, Answers, IsPage}
use Rattle.cics_picture.proofs.OfPage.Documents.{all-of-it}
use Rattle.cics_picture.proofs.OfPage.Written.{unwritten-answers}
use Rattle.cics_picture.proofs.page.written.run_page.Goals as goal

-- a write failed: a front of the page is written
pub returns-clause-whole : goal.returns-clause-whole
returns-clause-whole g c =
    let bytes = c.read_script.new.script.items in
    let (read, ended, few) = c.in-Ok.ensures.reads in
    let page : IsPage bytes c.page_script.new.out.items = subst (λ b. IsPage b c.page_script.new.out.items) c.deref.ensures.value (all-of-it _ _ _ c.new-text.ensures.items c.in-Ok-page_script.ensures.page) in
    (bytes, read, omega (arith, few), (ended, (c.page_script.new.out.items, page, subst (AppendsFront (g.K.Sink.contents c.args.sink.now) (g.K.Sink.contents c.write_all.new.sink)) c.deref-2.ensures.value c.in-Err-write_all.ensures.err)))

-- there is no page
pub returns-in-Err-page_script-clause-whole : goal.returns-in-Err-page_script-clause-whole
returns-in-Err-page_script-clause-whole g c =
    let bytes = c.read_script.new.script.items in
    let (read, ended, few) = c.in-Ok.ensures.reads in
    let rest = g.S.Source.remaining c.read_script.new.source in
    let now = g.K.Sink.contents c.args.sink.now in
    let over = λ (is : c.in-Err-page_script.error ≡ TooManySteps). subst HasTooManySteps c.deref.ensures.value (c.in-Err-page_script.ensures.too_many is) in
    let long = λ (is : c.in-Err-page_script.error ≡ TooLong). subst HasTooLongLines c.deref.ensures.value (c.in-Err-page_script.ensures.too_long is) in
    (bytes, read, omega (arith, few), subst (λ e. Answers bytes rest now now (Err e)) (sym c.unwritten.ensures) (unwritten-answers bytes rest now c.in-Err-page_script.error ended over long))
