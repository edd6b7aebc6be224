use Rattle.std.proofs.Common.{[], cond, ap, sym, ◌∙◌, arith}
use Rattle.cics_picture.proofs.OfPage.Playing.{stands-first, stands-next, stands-stopped, stands-over, stands-long}
use Rattle.cics_picture.proofs.page.pages.page_lines.Goals as goal

pub lines-init : goal.lines-init
lines-init c = (stands-first c.new-sheet.result c.args.session.now c.args.script.now c.requires.new c.new-sheet.ensures.text c.new-sheet.ensures.steps (c.new-sheet.ensures.last ∙ c.in_ok-last_stage.ensures), omega (arith, c.requires.new.number))

pub returns-in-Ok-true-clause-lines : goal.returns-in-Ok-true-clause-lines
returns-in-Ok-true-clause-lines c =
    let (ran, fault, line) = c.in-Ok-true.ensures.runs in
    (stands-stopped _ _ _ _ _ _ c.in-Some.after.now _ c.lines.invariant.0 c.in-Some.ensures.some ran c.in-Ok-true.ensures.puts
    (line ∙ ap (λ b. cond b c.in-Some.line.now []) c.in-Ok-true.field-0-test) (sym c.in-Ok-true.field-0-test ∙ fault)).0

pub returns-in-Ok-true-clause-fault : goal.returns-in-Ok-true-clause-fault
returns-in-Ok-true-clause-fault c =
    let (ran, fault, line) = c.in-Ok-true.ensures.runs in
    (stands-stopped _ _ _ _ _ _ c.in-Some.after.now _ c.lines.invariant.0 c.in-Some.ensures.some ran c.in-Ok-true.ensures.puts
    (line ∙ ap (λ b. cond b c.in-Some.line.now []) c.in-Ok-true.field-0-test) (sym c.in-Ok-true.field-0-test ∙ fault)).1

pub returns-in-Ok-true-clause-kept : goal.returns-in-Ok-true-clause-kept
returns-in-Ok-true-clause-kept c =
    let (ran, fault, line) = c.in-Ok-true.ensures.runs in
    (stands-stopped _ _ _ _ _ _ c.in-Some.after.now _ c.lines.invariant.0 c.in-Some.ensures.some ran c.in-Ok-true.ensures.puts
    (line ∙ ap (λ b. cond b c.in-Some.line.now []) c.in-Ok-true.field-0-test) (sym c.in-Ok-true.field-0-test ∙ fault)).2

pub returns-in-Ok-true-clause-stage : goal.returns-in-Ok-true-clause-stage
returns-in-Ok-true-clause-stage c =
    let (ran, fault, line) = c.in-Ok-true.ensures.runs in
    (stands-stopped _ _ _ _ _ _ c.in-Some.after.now _ c.lines.invariant.0 c.in-Some.ensures.some ran c.in-Ok-true.ensures.puts
    (line ∙ ap (λ b. cond b c.in-Some.line.now []) c.in-Ok-true.field-0-test) (sym c.in-Ok-true.field-0-test ∙ fault)).3

pub lines-preserved : goal.lines-preserved
lines-preserved c =
    let (ran, fault, line) = c.in-Ok-false.ensures.runs in (
      stands-next _ _ _ _ _ _ c.in-Some.after.now _ c.lines.invariant.0 c.in-Some.ensures.some ran c.in-Ok-false.ensures.puts
          (line ∙ ap (λ b. cond b c.in-Some.line.now []) c.in-Ok-false.field-0-test) (sym c.in-Ok-false.field-0-test ∙ fault),
      omega (arith, c.lines.invariant.1, ran.number, c.in-Some.ensures.less),
    )

pub returns-in-Err-clause-too_many : goal.returns-in-Err-clause-too_many
returns-in-Err-clause-too_many c is =
    stands-over c.lines.sheet c.lines.sheet c.lines.session c.lines.session _ _ c.in-Some.after.now _ c.lines.invariant.0 c.in-Some.ensures.some (c.in-Err.ensures.too_many is)

pub returns-in-Err-clause-too_long : goal.returns-in-Err-clause-too_long
returns-in-Err-clause-too_long c is =
    stands-long c.lines.sheet c.lines.sheet c.lines.session c.lines.session _ _ c.in-Some.after.now _ c.lines.invariant.0 c.in-Some.ensures.some (c.in-Err.ensures.too_long is)
