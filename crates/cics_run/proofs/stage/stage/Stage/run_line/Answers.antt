use Rattle.std.proofs.Common.{◌≡◌, ◌∙◌, ap, sym, subst, refl, Ok}
use Rattle.std.specs.Prelude.{OnOk}
use Rattle.cics_script.specs.declared.lines.Line.{Line}
use Rattle.cics_script.specs.declared.lines.Line.TheVariants.{Blank, Attach, Clock, Issue, Shutdown}
use Rattle.cics_run.specs.Stage.Seen.{after_fault, after_step}
use Rattle.cics_run.specs.Stage.Stages.{definition, followed, step}
use Rattle.cics_run.proofs.OfStage.Draining.{definition_seen}
use Rattle.cics_run.proofs.stage.stage.Stage.run_line.Goals as goal

-- a line that defines or loads asks nothing
pub returns-in_ok-define-in_default-clause-seen : goal.returns-in_ok-define-in_default-clause-seen
returns-in_ok-define-in_default-clause-seen g c =
    let sight = g.O.Observer.sight in
    let before = g.O.Observer.seen c.args.observer.now in
    let number = c.args.number in
    let stage = c.args.self.now in
    let told = ap (after_fault sight number before) c.in_ok-define-in_default.ensures.1 ∙ sym (definition_seen sight number before stage c.in-Ok.line)
    ∙ ap (after_step sight number before) (sym (ap (followed stage) c.in-Ok.ensures ∙ defines c.in-Ok.line refl)) in
    subst (λ s. OnOk c.show_fault.result (g.O.Observer.seen c.show_fault.new.observer ≡ s)) told c.show_fault.ensures.seen
  where
    defines : (l : Line) → c.in-Ok.line ≡ l → followed c.args.self.now (Ok l) ≡ definition c.args.self.now l
    defines Blank is = absurd (c.in_default.not-Blank is)
    defines (Attach label transaction dtimout) is = absurd (c.in_default.not-Attach _ _ _ is)
    defines (Clock seconds) is = absurd (c.in_default.not-Clock _ is)
    defines (Issue label command) is = absurd (c.in_default.not-Issue _ _ is)
    defines Shutdown is = absurd (c.in_default.not-Shutdown is)
    defines l is = refl
