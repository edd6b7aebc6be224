use Rattle.std.proofs.Common.{◌≡◌, ◌∙◌, ℕ, List, [], ◌∷◌, length, map, false, None, refl, sym, ap}
use Rattle.std.specs.Bool.{◌==◌}
use Rattle.cics_run.specs.declared.stage.stage.Stage.{Stage}
use Rattle.cics_picture.specs.declared.page.recording.PageStep.{PageStep}
use Rattle.cics_picture.specs.Page.Pages.{defined_if}
use Rattle.cics_picture.specs.Page.Recording.{told_by}
use Rattle.cics_picture.proofs.page.pages.defined_behind.Goals as goal

-- a line with steps defines nothing
defines_nothing : (steps : List PageStep) (stage : Stage) (line : List ℕ) → (length steps == 0) ≡ false → None ≡ defined_if (map told_by steps) stage line
defines_nothing [] stage line some = cc
defines_nothing (x ∷ xs) stage line some = refl

pub returns-then-not-is_empty-clause-value : goal.returns-then-not-is_empty-clause-value
returns-then-not-is_empty-clause-value c =
    let steps = c.args.pager.now.steps in
    defines_nothing steps.items c.args.session.now.stage c.args.line.now
    (ap (λ n. n == 0) (sym steps.ok.0) ∙ sym c.is_empty.ensures ∙ c.if-not-is_empty.true)
