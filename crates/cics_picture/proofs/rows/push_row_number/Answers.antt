use Rattle.std.proofs.Common.{◌≡◌, false, ◌==◌, [], ◌++◌, cond, ap, sym, ◌∙◌, arith}
use Rattle.std.proofs.lemmas.Bool.Decides.{nat_tests}
use Rattle.std.proofs.lemmas.List.{append-nil}
use Rattle.std.specs.Fmt.{decimal}
use Rattle.std.proofs.lemmas.Result.{on_ok_weaker}
use Rattle.cics_picture.specs.Elements.{words}
use Rattle.cics_picture.proofs.rows.push_row_number.Goals as goal
use lib.Chars.{codes}

pub returns : goal.returns
returns c =
    let o = c.args.out.now.items in
    let n = c.args.number in
    let other = c.if-number-eq0.false in
    let test : (n == 0) ≡ false = grind (arith, nat_tests) in
    let text = ap (λ b. words b 52 c.args.y (decimal n ++ [])) c.as_bytes.ensures.value ∙ ap (words (codes "d e") 52 c.args.y) (append-nil (decimal n)) in
    on_ok_weaker c.push_words.result (λ put. put ∙ ap (λ t. o ++ t) (text ∙ ap (λ b. cond b [] (words (codes "d e") 52 c.args.y (decimal n))) (sym test))) c.push_words.ensures
