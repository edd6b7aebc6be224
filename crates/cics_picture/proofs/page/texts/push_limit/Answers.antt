use Rattle.std.proofs.Common.{◌≡◌, false, ◌==◌, [], ◌++◌, cond, ap, sym, ◌∙◌, arith, append_assoc}
use Rattle.std.proofs.lemmas.Bool.Decides.{nat_tests}
use Rattle.std.specs.Fmt.{decimal}
use Rattle.std.proofs.lemmas.Result.{on_ok_weaker}
use Rattle.cics_picture.specs.Xml.Documents.{document_text, said}
use Rattle.cics_picture.proofs.page.texts.push_limit.Goals as goal
use lib.Chars.{codes}

pub returns : goal.returns
returns c =
    let o = c.args.out.now.items in
    let n = document_text (said (decimal c.args.seconds)) in
    let text = codes ", for " ++ (n ++ codes " seconds at most") in
    let other = c.if-seconds-eq0.false in
    let test : (c.args.seconds == 0) ≡ false = grind (arith, nat_tests) in
    let ended = ap (λ t. o ++ (codes ", for " ++ t)) (sym (append_assoc n (codes " seconds at most") (codes "</p>"))) in
    on_ok_weaker c.push_pieces.result (λ put. put ∙ ended ∙ ap (λ b. o ++ (cond b [] text ++ codes "</p>")) (sym test)) c.push_pieces.ensures
