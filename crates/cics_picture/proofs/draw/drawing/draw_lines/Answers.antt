use Rattle.std.proofs.Common.{[], cond, refl, ap, sym, ◌∙◌, arith}
use Rattle.cics_run.specs.Session.Lines.{all_lines}
use Rattle.cics_run.specs.Session.Running.{start}
use Rattle.cics_picture.specs.Drawings.{drawn_of}
use Rattle.cics_picture.proofs.OfDraw.Playing.{drawn_from, stands-next, stands-stopped, stands-over}
use Rattle.cics_picture.proofs.draw.drawing.draw_lines.Goals as goal

pub lines-init : goal.lines-init
lines-init c = (
  record {
    played = start;
    at_stage = c.requires.new.stage;
    at_number = c.requires.new.number;
    at_line = c.requires.new.line;
    going = refl;
    drawn = ap (λ d. drawn_from d start (all_lines c.args.script.now)) c.requires.nothing;
    ends = refl;
  },
  omega (arith, c.requires.new.number),
)

pub returns-in-Ok-true-clause-drawn : goal.returns-in-Ok-true-clause-drawn
returns-in-Ok-true-clause-drawn c =
    let (ran, fault, line) = c.in-Ok-true.ensures.runs in
    (stands-stopped _ _ _ _ _ _ c.in-Some.after.now _ c.lines.invariant.0 c.in-Some.ensures.some ran c.in-Ok-true.ensures.drawn
    (line ∙ ap (λ b. cond b c.in-Some.line.now []) c.in-Ok-true.field-0-test) (sym c.in-Ok-true.field-0-test ∙ fault)).0

pub returns-in-Ok-true-clause-fault : goal.returns-in-Ok-true-clause-fault
returns-in-Ok-true-clause-fault c =
    let (ran, fault, line) = c.in-Ok-true.ensures.runs in
    (stands-stopped _ _ _ _ _ _ c.in-Some.after.now _ c.lines.invariant.0 c.in-Some.ensures.some ran c.in-Ok-true.ensures.drawn
    (line ∙ ap (λ b. cond b c.in-Some.line.now []) c.in-Ok-true.field-0-test) (sym c.in-Ok-true.field-0-test ∙ fault)).1

pub returns-in-Ok-true-clause-kept : goal.returns-in-Ok-true-clause-kept
returns-in-Ok-true-clause-kept c =
    let (ran, fault, line) = c.in-Ok-true.ensures.runs in
    (stands-stopped _ _ _ _ _ _ c.in-Some.after.now _ c.lines.invariant.0 c.in-Some.ensures.some ran c.in-Ok-true.ensures.drawn
    (line ∙ ap (λ b. cond b c.in-Some.line.now []) c.in-Ok-true.field-0-test) (sym c.in-Ok-true.field-0-test ∙ fault)).2

pub returns-in-Ok-true-clause-stage : goal.returns-in-Ok-true-clause-stage
returns-in-Ok-true-clause-stage c =
    let (ran, fault, line) = c.in-Ok-true.ensures.runs in
    (stands-stopped _ _ _ _ _ _ c.in-Some.after.now _ c.lines.invariant.0 c.in-Some.ensures.some ran c.in-Ok-true.ensures.drawn
    (line ∙ ap (λ b. cond b c.in-Some.line.now []) c.in-Ok-true.field-0-test) (sym c.in-Ok-true.field-0-test ∙ fault)).3

pub lines-preserved : goal.lines-preserved
lines-preserved c =
    let (ran, fault, line) = c.in-Ok-false.ensures.runs in (
      stands-next _ _ _ _ _ _ c.in-Some.after.now _ c.lines.invariant.0 c.in-Some.ensures.some ran c.in-Ok-false.ensures.drawn
          (line ∙ ap (λ b. cond b c.in-Some.line.now []) c.in-Ok-false.field-0-test) (sym c.in-Ok-false.field-0-test ∙ fault),
      omega (arith, c.lines.invariant.1, ran.number, c.in-Some.ensures.less),
    )

pub returns-in-Err-clause-too_many : goal.returns-in-Err-clause-too_many
returns-in-Err-clause-too_many c is =
    stands-over (drawn_of c.lines.drawing) _ _ _ c.in-Some.after.now _ c.lines.invariant.0 c.in-Some.ensures.some (c.in-Err.ensures.too_many is)
