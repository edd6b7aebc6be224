-- Lines of a page, one behind the others, and how many steps they have.
use Rattle.std.proofs.Common.{◌≡◌, ℕ, ◌+◌, List, [], ◌∷◌, ◌++◌, length, map, refl, ap, sym, ◌∙◌, append_assoc, append-nil, length-append, arith}
use Rattle.std.proofs.lemmas.List.{length-map}
use Rattle.cics_history.specs.declared.ops.UnitState.{UnitState}
use Rattle.cics_picture.specs.Page.Lines.{PageLine, line_text, lines_text}
use Rattle.cics_picture.specs.Page.Recording.{told_by}
use Rattle.cics_picture.specs.Page.Pages.{plain, all_steps}

-- how many steps lines have
abbrev pub count : List PageLine → ℕ
count [] = 0
count (l ∷ lines) = length l.steps + count lines

pub count-behind : (lines : List PageLine) (l : PageLine) → count (lines ++ (l ∷ [])) ≡ count lines + length l.steps
count-behind [] l = omega arith
count-behind (first ∷ lines) l = omega (arith, count-behind lines l)

pub steps-counted : (lines : List PageLine) → length (all_steps (map plain lines)) ≡ count lines
steps-counted [] = refl
steps-counted (l ∷ lines) =
    length-append (map told_by l.steps) (all_steps (map plain lines))
    ∙ (λ i. length-map l.steps told_by i + steps-counted lines i)

pub line-behind : (outcomes : List UnitState) (number : ℕ) (lines : List PageLine) (l : PageLine)
    → lines_text outcomes number (lines ++ (l ∷ [])) ≡ lines_text outcomes number lines ++ line_text outcomes (number + count lines) l
line-behind outcomes number [] l =
    let same : number ≡ number + 0 = omega arith in
    append-nil (line_text outcomes number l) ∙ ap (λ n. line_text outcomes n l) same
line-behind outcomes number (first ∷ lines) l =
    let next = number + length first.steps in
    let same : next + count lines ≡ number + (length first.steps + count lines) = omega arith in
    ap (λ t. line_text outcomes number first ++ t) (line-behind outcomes next lines l ∙ ap (λ n. lines_text outcomes next lines ++ line_text outcomes n l) same)
    ∙ sym (append_assoc (line_text outcomes number first) (lines_text outcomes next lines) (line_text outcomes (number + (length first.steps + count lines)) l))
