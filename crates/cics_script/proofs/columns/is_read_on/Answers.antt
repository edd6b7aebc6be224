use Rattle.std.proofs.Common.{◌≡◌, ◌++◌, ◌↔◌, true, Err, rules, ap, ◌∙◌, subst}
use Rattle.cics_script.specs.Tokens.{tokens}
use Rattle.cics_script.specs.Lines.{statement}
use Rattle.cics_script.specs.Columns.{other_fault, broken_bytes}
use Rattle.cics_script.proofs.columns.is_read_on.Goals as goal

pub returns : goal.returns
returns c =
    let line : c.deref.result.now ≡ c.args.front.now ++ broken_bytes c.args.fault =
    c.deref.ensures.value ∙ c.in_ok-extend_from_slice-2.ensures.items
    ∙ ap (λ l. l ++ c.broken_token.result.now) (c.in_ok-extend_from_slice.ensures.items ∙ ap (λ l. l ++ c.args.front.now) c.new-line.ensures.items)
    ∙ ap (λ b. c.args.front.now ++ b) c.broken_token.ensures in
    let own : (c.eq.result ≡ true) ↔ (statement (tokens c.deref.result.now) ≡ Err c.other_fault.result) = search rules in
    subst (λ l. (c.eq.result ≡ true) ↔ (statement (tokens l) ≡ Err (other_fault c.args.fault))) line
    (subst (λ f. (c.eq.result ≡ true) ↔ (statement (tokens c.deref.result.now) ≡ Err f)) c.other_fault.ensures own)
