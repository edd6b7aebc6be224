use Rattle.std.specs.Prelude.{◌≡◌, ◌<◌, ◌-◌, List, [], ◌∷◌, length, reverse, slice_get, Some, refl}
use Rattle.std.proofs.Common.{◌∙◌, ap, sym, arith}
use Rattle.std.proofs.lemmas.Bool.{eqb-true}
use Rattle.std.proofs.lemmas.List.{reverse-reverse}
use Rattle.cics_units.proofs.UnitRows.{kept_at, kept_replaced, row_read}
use Rattle.cics_units.proofs.units_core.spare_images.Goals as goal

-- a list of no length has nothing in it
none_in : {A : Type 0} (xs : List A) → length xs ≡ 0 → xs ≡ []
none_in [] h = refl
none_in (x ∷ xs) h = absurd (omega (arith, h))

-- a row without images is replaced by another
pub returns-then-is_empty-clause-kept : goal.returns-then-is_empty-clause-kept
returns-then-is_empty-clause-kept c = λ w.
    let rows = c.args.rows.now.items in
    let at = c.len-count.result - 1 in
    let row = c.index.result.now in
    let begun : at < length rows = omega (arith, c.if-count-gt0.true, c.len-count.ensures, c.args.rows.now.ok.0) in
    let there : slice_get rows at ≡ Some row = row_read rows at row at refl begun c.index.ensures in
    let none : row.newest_first ≡ [] = sym (reverse-reverse row.newest_first) ∙ ap reverse (sym c.oldest_first.ensures ∙ none_in c.oldest_first.result.now (eqb-true (length c.oldest_first.result.now) 0 (sym c.if-is_empty.ensures))) in
    kept_replaced rows at w c.replace.new.dest (ap (λ r. r.newest_first) c.replace.ensures.after ∙ c.new.ensures ∙ sym (kept_at rows at row there ∙ none))
