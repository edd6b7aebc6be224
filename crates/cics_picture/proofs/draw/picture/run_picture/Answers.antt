use Rattle.std.proofs.Common.{arith, ◌≡◌, ◌∙◌, ◌++◌, ap, sym, subst, Err}
use Rattle.cics_run.specs.Session.Printing.{AppendsFront}
use Rattle.cics_picture.specs.Draw.Pictures.{HasTooMany, Answers, picture_of}
use Rattle.cics_picture.proofs.OfDraw.Counting.{undrawn-answers}
use Rattle.cics_picture.specs.declared.drawing.Undrawn.TheVariants.{TooManyRows}
use Rattle.cics_picture.proofs.draw.picture.run_picture.Goals as goal

-- a write failed: a front of the picture is written
pub returns-clause-whole : goal.returns-clause-whole
returns-clause-whole g c =
    let bytes = c.read_script.new.script.items in
    let (read, ended, few) = c.in-Ok.ensures.reads in
    let text : c.deref-2.result.now ≡ picture_of bytes = c.deref-2.ensures.value ∙ c.in-Ok-draw_script.ensures.picture ∙ ap (λ t. t ++ picture_of c.deref.result.now) c.new-text.ensures.items ∙ ap picture_of c.deref.ensures.value in
    (bytes, read, omega (arith, few), (ended, subst (AppendsFront (g.K.Sink.contents c.args.sink.now) (g.K.Sink.contents c.write_all.new.sink)) text c.in-Err-write_all.ensures.err))

-- there is no picture
pub returns-in-Err-draw_script-clause-whole : goal.returns-in-Err-draw_script-clause-whole
returns-in-Err-draw_script-clause-whole g c =
    let bytes = c.read_script.new.script.items in
    let (read, ended, few) = c.in-Ok.ensures.reads in
    let rest = g.S.Source.remaining c.read_script.new.source in
    let now = g.K.Sink.contents c.args.sink.now in
    let over = λ (is : c.in-Err-draw_script.error ≡ TooManyRows). subst HasTooMany c.deref.ensures.value (c.in-Err-draw_script.ensures.too_many is) in
    (bytes, read, omega (arith, few), subst (λ e. Answers bytes rest now now (Err e)) (sym c.undrawn.ensures) (undrawn-answers bytes rest now c.in-Err-draw_script.error ended over))
