use Rattle.std.proofs.Common.{◌∙◌, ap, sym}
use Rattle.std.proofs.lemmas.Result.{err_from_is_err_and}
use Rattle.cics_names.specs.Keyed.{with_value}
use Rattle.cics_units.specs.Opening.RegionFiles.{written_in}
use Rattle.cics_units.proofs.OfOpening.Changing.{all_stay}
use Rattle.cics_units.proofs.opening.opening.write_loaded.Goals as goal

pub returns-in_err-write-clause-err : goal.returns-in_err-write-clause-err
returns-in_err-write-clause-err c =
    let p = err_from_is_err_and c.from_residual.result c.from_residual.ensures.1 in
    rw p.1 (all_stay c.args.name.now c.at_mut.result.now c.write.new.self c.args.files.now c.at_mut.ensures.in_order c.at_mut.ensures.value c.in_err-write.ensures.err)

pub returns-clause-files : goal.returns-clause-files
returns-clause-files c = ap (λ f. with_value c.args.name.now f c.args.files.now) c.in_ok-write.ensures.value
    ∙ ap (written_in c.args.files.now c.args.name.now c.args.content) (sym c.at_mut.ensures.value)
