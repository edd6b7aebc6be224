use Rattle.std.proofs.Common.{◌≡◌, true, ◌++◌, length, length-append, arith, ap, sym, ◌∙◌}
use Rattle.cics_script.specs.Tokens.{word, tokens}
use Rattle.cics_script.specs.Layout.{ends}
use Rattle.cics_script.proofs.Layouts.{some-written, tokens-written}
use Rattle.cics_script.proofs.tokens.named.Goals as goal

pub returns : goal.returns
returns g c rows is =
    let w = c.args.capitals.now in
    let rest = c.split_at.result.1.now in
    let here : c.args.bytes.now ≡ w ++ rest = c.begins_with.ensures c.if-not-begins_with.false ∙ ap (λ rest. w ++ rest) (sym c.split_at.ensures.back) in
    let gap : ends rest ≡ true = sym c.is_ended.ensures ∙ c.if-not-is_ended.false in
    (w, is, (ap tokens here ∙ tokens-written (word w) rest c.requires.capitals gap, omega (arith, ap length here ∙ length-append w rest, some-written (word w) c.requires.capitals)))
