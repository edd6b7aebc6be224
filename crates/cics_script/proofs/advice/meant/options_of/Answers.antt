use Rattle.std.proofs.Common.{◌≡◌, ◌∙◌, sym, ap, true, is_some}
use Rattle.std.proofs.lemmas.List.Elements.{All-push, All-same}
use Rattle.cics_script.specs.Words.{kind_in}
use Rattle.cics_script.proofs.advice.meant.options_of.Goals.{then-is_some+in_ok-push, else-is_some}
use Rattle.cics_script.proofs.advice.meant.options_of.Goals as goal

pub loop-row-preserved : goal.loop-row-preserved
loop-row-preserved c =
    elim c.if-is_some.branch [
      | then-is_some+in_ok-push w ↦
          All-same (λ row. is_some (kind_in c.args.form row.1) ≡ true) _ _ (ap (λ v. v.items) w.rows-is ∙ w.in_ok-push.ensures.items)
          (All-push (λ row. is_some (kind_in c.args.form row.1) ≡ true) _ _ c.loop-row.invariant (ap is_some (sym c.kind_of.ensures) ∙ sym c.is_some.ensures ∙ w.if-is_some.true))
      | else-is_some w ↦ All-same (λ row. is_some (kind_in c.args.form row.1) ≡ true) _ _ (ap (λ v. v.items) w.rows-is) c.loop-row.invariant
    ]
