use Rattle.std.proofs.Common.{◌≡◌, ◌++◌, ◌==◌, ◌∙◌, [], false, length, ap, sym, append_assoc}
use Rattle.std.specs.Prelude.{if◌then◌else◌, codes}
use Rattle.std.specs.List.{flat_map}
use Rattle.std.proofs.lemmas.Result.{on_ok_weaker}
use Rattle.cics_names.specs.Keyed.{Bytes}
use Rattle.cics_orders.specs.Report.Reporting.{every_text}
use Rattle.cics_orders.proofs.report.report.push_every.Goals as goal

-- none of the parts is left out
pub returns : goal.returns
unfolding every_text
returns c =
    let before = c.args.out.now.items in
    let parts = flat_map (λ (p : Bytes). p) c.args.all.now in
    let some : (length c.args.all.now == 0) ≡ false = sym c.is_empty.ensures ∙ c.if-is_empty.false in
    on_ok_weaker c.push_own.result
    (λ own.
    own ∙ ap (λ items. items ++ parts) c.in_ok-push_str.ensures ∙ append_assoc before (codes "EVERY ENDING\n") parts
    ∙ ap (λ b. before ++ (if b then [] else codes "EVERY ENDING\n" ++ parts)) (sym some)) c.push_own.ensures
