use Rattle.std.proofs.Common.{◌≡◌, ◌+◌, ◌++◌, drop, length}
use Rattle.cics_picture.specs.Draw.Standings.{outcomes_at}
use Rattle.cics_picture.specs.Page.Lines.{steps_text}
use Rattle.cics_picture.proofs.page.lines.Sheet.push_steps.Given as goal

-- what is written, and the steps that are left, are all
abbrev pub invariant-loop-step : goal.invariant-loop-step
invariant-loop-step l = record {
  text : l.self.text.items ++ steps_text (outcomes_at l.fn.self.last) (l.self.steps + 1) l.code (drop l.step-index l.steps)
      ≡ l.fn.self.text.items ++ steps_text (outcomes_at l.fn.self.last) (l.fn.self.steps + 1) l.fn.code l.steps;
  count : l.self.steps + length (drop l.step-index l.steps) ≡ l.fn.self.steps + length l.steps;
  last : l.self.last ≡ l.fn.self.last;
}
