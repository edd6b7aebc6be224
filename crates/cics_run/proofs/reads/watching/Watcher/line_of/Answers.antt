use Rattle.std.proofs.Common.{ℕ, Option, ap, sym, refl, ◌∙◌}
use Rattle.std.specs.Prelude.{unwrap_or}
use Rattle.cics_history.proofs.Entries.{value_at-looked_up}
use Rattle.cics_run.proofs.reads.watching.Watcher.line_of.Goals as goal

pub returns : goal.returns
returns c =
    let kept = c.args.self.now.lines.entries in
    c.unwrap_or.ensures
    ∙ ap (λ (line : Option ℕ). unwrap_or line c.args.number) (c.copied.ensures ∙ sym (value_at-looked_up c.args.label.now kept kept _ c.get.ensures.value refl))
