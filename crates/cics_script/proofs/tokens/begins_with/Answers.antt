use Rattle.std.proofs.Common.{◌≡◌, ◌++◌, take, drop, length, arith, ap, sym, ◌∙◌, take-append-drop}
use Rattle.std.proofs.lemmas.List.{take_all}
use Rattle.cics_script.proofs.tokens.begins_with.Goals as goal

pub returns : goal.returns
returns c =
    let text = c.args.text.now in
    let ends : c.loop-i.i ≡ length text = omega (arith, c.loop-i-test.false, c.loop-i.auto.i-end) in
    λ all.
    let front : take (length text) c.args.bytes.now ≡ text =
    ap (λ n. take n c.args.bytes.now) (sym ends) ∙ c.loop-i.invariant all ∙ ap (λ n. take n text) ends ∙ take_all _ _ (omega arith) in
    sym (take-append-drop (length text) c.args.bytes.now) ∙ ap (λ f. f ++ drop (length text) c.args.bytes.now) front
