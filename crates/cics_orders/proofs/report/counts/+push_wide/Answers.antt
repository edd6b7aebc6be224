use Rattle.std.proofs.Common.{◌≡◌, ◌++◌, ◌∙◌, ap, sym, ◌+◌, ◌%◌, ◌/◌, ◌∷◌, [], arith}
use Rattle.std.proofs.lemmas.List.{append_assoc}
use Rattle.std.specs.Fmt.{decimal}
use Rattle.std.proofs.lemmas.Fmt.{decimal_digit, decimal_step_wide}
use Rattle.cics_orders.proofs.report.counts.+push_wide.Goals.{then-number-ge10+in_ok-push_wide, else-number-ge10}
use Rattle.cics_orders.proofs.report.counts.+push_wide.Goals as goal

-- the last digit behind those in front of it, or the one digit of a number below ten
pub returns : goal.returns
returns t c =
    let before = c.args.out.now.items in
    let last = (48 + c.args.number % 10) ∷ [] in
    elim c.if-number-ge10.branch [
      | then-number-ge10+in_ok-push_wide w ↦
          c.in_ok-push.ensures.items ∙ ap (λ out. out.items ++ last) w.out-is ∙ ap (λ items. items ++ last) w.in_ok-push_wide.ensures
          ∙ append_assoc before (decimal (c.args.number / 10)) last
          ∙ ap (λ digits. before ++ digits) (sym (decimal_step_wide c.args.number (omega arith) (omega (arith, c.ranges.number.fits))))
      | else-number-ge10 w ↦
          let one : c.args.number % 10 ≡ c.args.number = omega arith in
          c.in_ok-push.ensures.items ∙ ap (λ out. out.items ++ last) w.out-is
          ∙ ap (λ digit. before ++ ((48 + digit) ∷ [])) one ∙ ap (λ digits. before ++ digits) (sym (decimal_digit c.args.number w.if-number-ge10.false))
    ]
