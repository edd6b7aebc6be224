use Rattle.std.proofs.Common.{◌≡◌, ℕ, List, ◌∷◌, ◌++◌, refl, ap, sym, ◌∙◌}
use Rattle.cics_script.specs.Faults.{◌>>=◌}
use Rattle.cics_script.specs.Tokens.{word, tokens}
use Rattle.cics_script.specs.Lines.{behind}
use Rattle.cics_script.proofs.Layouts.{tokens-blank, tokens-written}
use Rattle.cics_script.proofs.lines.skip_exec_cics.Goals as goal
use lib.Chars.{codes}

-- a line that goes on with EXEC and CICS, a blank around each
tokens-exec_cics : (rest : List ℕ) → tokens (codes " EXEC CICS " ++ rest) ≡ word (codes "EXEC") ∷ word (codes "CICS") ∷ tokens rest
tokens-exec_cics rest =
    tokens-blank (codes "EXEC CICS " ++ rest) ∙ tokens-written (word (codes "EXEC")) (codes " CICS " ++ rest) refl refl
    ∙ ap (λ ts. word (codes "EXEC") ∷ ts)
    (tokens-blank (codes "CICS " ++ rest) ∙ tokens-written (word (codes "CICS")) (codes " " ++ rest) refl refl
    ∙ ap (λ ts. word (codes "CICS") ∷ ts) (tokens-blank rest))

pub returns-then-begins_with : goal.returns-then-begins_with
returns-then-begins_with c =
    let here : c.args.bytes.now ≡ codes " EXEC CICS " ++ c.split_at.result.1.now =
    c.begins_with.ensures c.if-begins_with.true ∙ ap (λ rest. codes " EXEC CICS " ++ rest) (sym c.split_at.ensures.back) in
    ap (λ bytes. behind (codes "EXEC") (tokens bytes) >>= λ rest. behind (codes "CICS") rest) here
    ∙ ap (λ ts. behind (codes "EXEC") ts >>= λ rest. behind (codes "CICS") rest) (tokens-exec_cics c.split_at.result.1.now)
