use Rattle.std.proofs.Common.{append_assoc, refl, ◌∙◌}
use Rattle.std.proofs.lemmas.List.{append-nil}
use Rattle.std.proofs.lemmas.Result.{on_ok_weaker}
use Rattle.cics_picture.specs.Sheets.{units_legend}
use Rattle.cics_picture.proofs.sheet.push_units_legend.Goals as goal

pub returns : goal.returns
unfolding units_legend
returns c = on_ok_weaker c.push_meanings.result (λ put. put ∙ simp (append_assoc, append-nil) refl) c.push_meanings.ensures
