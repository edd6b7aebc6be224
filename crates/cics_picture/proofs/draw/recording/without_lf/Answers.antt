use Rattle.std.proofs.Common.{◌≡◌, [], ◌∷◌, length, take, ap, ◌∙◌, arith, length-append}
use Rattle.std.proofs.lemmas.List.{take_all, take-append-le}
use Rattle.cics_picture.proofs.draw.recording.without_lf.Goals as goal

pub returns : goal.returns
returns c text is =
    let count : c.saturating_sub.result ≡ length text = omega (arith, c.saturating_sub.ensures, c.len-len.ensures, ap length is, length-append text (10 ∷ [])) in
    c.first.ensures ∙ ap (λ n. take n c.new.result) count ∙ ap (take (length text)) (c.new.ensures ∙ is)
    ∙ take-append-le (length text) text (10 ∷ []) (omega arith) ∙ take_all (length text) text (omega arith)
