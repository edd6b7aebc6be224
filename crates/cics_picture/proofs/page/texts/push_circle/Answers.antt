use Rattle.std.proofs.Common.{◌≡◌, ◌∙◌, ◌++◌, ◌∷◌, ◌+◌, suc, drop, drop-cons, append_assoc, sym, ap, arith}
use Rattle.cics_picture.specs.Page.Texts.{waits_text, ring_text}
use Rattle.cics_picture.proofs.page.texts.push_circle.Goals as goal
use lib.Chars.{codes}

pub loop-next-preserved : goal.loop-next-preserved
loop-next-preserved c =
    let first = c.in-Some.first.now in
    let others = c.in-Some.others.now in
    let index = c.loop-next.next-index in
    let next = c.next-item.result in
    let w = waits_text c.loop-next.label.now next in
    let out = c.loop-next.out.items in
    let step : suc index ≡ index + 1 = omega arith in
    let rest : drop index others ≡ next ∷ drop (index + 1) others = drop-cons others index next c.loop-next-test.true ∙ (λ i. sym c.next-item.is i ∷ drop (step i) others) in
    let behind = ring_text first next (drop (index + 1) others) in
    (λ i. (c.in_ok-push_str.ensures ∙ ap (λ t. t ++ codes ", ") c.in_ok-push_waits.ensures) i ++ behind)
    ∙ append_assoc (out ++ w) (codes ", ") behind
    ∙ append_assoc out w (codes ", " ++ behind)
    ∙ ap (λ l. out ++ ring_text first c.loop-next.label.now l) (sym rest)
    ∙ c.loop-next.invariant
