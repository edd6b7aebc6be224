-- The lines of a script, from its front.
use Rattle.std.proofs.Common.{◌≡◌, ◌<◌, ℕ, true, ◌==◌, List, [], ◌∷◌, ◌++◌, map, take, drop, length, refl, ap, sym, ◌∙◌, append-nil, arith}
use Rattle.std.proofs.lemmas.Bool.{and_parts}
use Rattle.std.specs.List.{list_all, prefix_len}
use Rattle.std.specs.Io.BufRead.{strip_last}
use Rattle.cics_run.specs.Session.Lines.{pieces, last_line, all_lines, is_in_line}
use Rattle.cics_run.proofs.OfSession.Playing.{not-true}
use Rattle.cics_run.proofs.OfSession.Steps.{cut-line}

pieces-first : (front after : List ℕ) → list_all is_in_line front ≡ true → pieces (front ++ 10 ∷ after) ≡ (front ∷ (pieces after).0, (pieces after).1)
pieces-first [] after all = refl
pieces-first (c ∷ front) after all =
    let parts = and_parts (is_in_line c) (list_all is_in_line front) all in
    rw (not-true (c == 10) parts.0, pieces-first front after parts.1) refl

pieces-last : (front : List ℕ) → list_all is_in_line front ≡ true → pieces front ≡ ([], front)
pieces-last [] all = refl
pieces-last (c ∷ front) all =
    let parts = and_parts (is_in_line c) (list_all is_in_line front) all in
    rw (not-true (c == 10) parts.0, pieces-last front parts.1) refl

-- an LF ends the first line
pub line-first : (script front behind after : List ℕ) (c n : ℕ) → n ≡ prefix_len is_in_line script → front ≡ take n script → behind ≡ drop n script
    → behind ≡ c ∷ after → all_lines script ≡ strip_last 13 front ∷ all_lines after
line-first script front behind after c n count a b is =
    let cut = cut-line script front behind n count a b in
    ap all_lines (sym cut.whole ∙ ap (λ t. front ++ t) (is ∙ ap (λ d. d ∷ after) (cut.lf c after is)))
    ∙ ap (λ p. map (strip_last 13) p.0 ++ last_line p.1) (pieces-first front after cut.in_line)

-- no LF is left: what there is is the last line
last : (script front behind : List ℕ) (n : ℕ) → n ≡ prefix_len is_in_line script → front ≡ take n script → behind ≡ drop n script
    → length behind ≡ 0 → all_lines script ≡ last_line front
last script front (c ∷ behind) n count a b none = absurd (omega (arith, none))
last script front [] n count a b none =
    let cut = cut-line script front [] n count a b in
    ap all_lines (sym cut.whole ∙ append-nil front) ∙ ap (λ p. map (strip_last 13) p.0 ++ last_line p.1) (pieces-last front cut.in_line)

pub line-last : (script front behind : List ℕ) (n : ℕ) → n ≡ prefix_len is_in_line script → front ≡ take n script → behind ≡ drop n script
    → length behind ≡ 0 → 0 < length front → all_lines script ≡ front ∷ all_lines behind
line-last script front (c ∷ behind) n count a b none some = absurd (omega (arith, none))
line-last script [] [] n count a b none some = absurd (omega (arith, some))
line-last script (c ∷ front) [] n count a b none some = last script (c ∷ front) [] n count a b none

pub line-none : (script front behind : List ℕ) (n : ℕ) → n ≡ prefix_len is_in_line script → front ≡ take n script → behind ≡ drop n script
    → length behind ≡ 0 → length front ≡ 0 → all_lines script ≡ []
line-none script (c ∷ front) behind n count a b none nor = absurd (omega (arith, nor))
line-none script [] behind n count a b none nor = last script [] behind n count a b none
