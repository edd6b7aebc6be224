use Rattle.std.proofs.Common.{◌≡◌, ℕ, ◌+◌, ◌<◌, ◌^◌, List, [], ◌++◌, refl, ap, sym, ◌∙◌, append_assoc, arith}
use Rattle.std.specs.Fmt.{decimal}
use Rattle.cics_picture.specs.Draw.Standings.{outcomes_at}
use Rattle.cics_picture.specs.Page.Kinds.{kind_class, woken_class}
use Rattle.cics_picture.specs.Page.Lines.{rest}
use Rattle.cics_picture.proofs.OfXml.Numbers.{decimal_text}
use Rattle.cics_picture.proofs.page.lines.Sheet.push_step.Goals as goal
use lib.Chars.{codes}

-- a start tag, the line, its end, and the rest
shape :
    (o n w k code r : List ℕ) → (o ++ (codes "<div id=\"s" ++ (n ++ (codes "\" class=\"" ++ (w ++ (k ++ (codes "\">" ++ (code ++ (codes "\n" ++ []))))))))) ++ r
    ≡ o ++ ((codes "<div id=\"s" ++ (n ++ (codes "\" class=\"" ++ (w ++ (k ++ codes "\">"))))) ++ (code ++ (codes "\n" ++ r)))
shape o n w k code r = simp (append_assoc) refl

pub returns-clause-text : goal.returns-clause-text
returns-clause-text c =
    let o = c.args.self.now.text.items in
    let number = c.args.self.now.steps + 1 in
    let fits : number < 2 ^ 64 = omega (arith, c.requires) in
    let n = decimal number in
    let w = woken_class c.args.step.now.is_woken in
    let k = kind_class c.args.step.now.kind in
    let code = c.args.code.now in
    let r = rest (outcomes_at c.args.self.now.last) c.args.step.now in
    let front = c.in_ok-push_parts.ensures
    ∙ (λ i. o ++ (codes "<div id=\"s" ++ (n ++ (codes "\" class=\"" ++ (c.woken_class.ensures i ++ (c.kind_class.ensures i ++ (codes "\">" ++ (code ++ (codes "\n" ++ []))))))))) in
    c.in_ok-push_rest.ensures ∙ (λ i. front i ++ rest (c.outcomes_at.ensures i) c.args.step.now) ∙ shape o n w k code r
    ∙ ap (λ d. o ++ ((codes "<div id=\"s" ++ (d ++ (codes "\" class=\"" ++ (w ++ (k ++ codes "\">"))))) ++ (code ++ (codes "\n" ++ r)))) (sym (decimal_text number fits))
