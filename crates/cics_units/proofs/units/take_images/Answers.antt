use Rattle.std.specs.Prelude.{◌≡◌, Some, slice_get, slice_set}
use Rattle.std.proofs.Common.{◌∙◌, ap, sym, subst, arith}
use Rattle.cics_units.specs.ImageRows.{kept_by, AreOthersKept}
use Rattle.cics_units.proofs.UnitRows.{kept_at, kept_set, others_set, row_read}
use Rattle.cics_units.proofs.units.take_images.Goals as goal

pub index_mut-requires : goal.index_mut-requires
index_mut-requires c = omega (arith, c.number-at.ensures, c.requires.begun, c.args.rows.now.ok.0)

pub returns-clause-images : goal.returns-clause-images
returns-clause-images c =
    let rows = c.args.rows.now.items in
    let row = c.index_mut.result.now in
    let there : slice_get rows c.args.unit ≡ Some row = row_read rows c.args.unit row c.number-at.result c.number-at.ensures c.requires.begun c.index_mut.ensures.value in
    ap (λ r. r.newest_first) c.replace.ensures.value ∙ sym (kept_at rows c.args.unit row there)

pub returns-clause-none : goal.returns-clause-none
returns-clause-none c =
    let rows = c.args.rows.now.items in
    let row = c.replace.new.dest in
    ap (λ n. kept_by (slice_set rows n row) c.args.unit) c.number-at.ensures ∙ kept_set rows c.args.unit row c.requires.begun ∙ ap (λ r. r.newest_first) c.replace.ensures.after ∙ c.new.ensures

pub returns-clause-others : goal.returns-clause-others
returns-clause-others c =
    let rows = c.args.rows.now.items in
    let row = c.replace.new.dest in
    subst (λ n. AreOthersKept rows (slice_set rows n row) c.args.unit) (sym c.number-at.ensures) (others_set rows c.args.unit row)
