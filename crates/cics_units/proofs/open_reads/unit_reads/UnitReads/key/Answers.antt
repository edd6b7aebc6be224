use Rattle.std.proofs.Common.{◌<◌, ◌∙◌, ap, sym, subst, length, Some, arith}
use Rattle.std.specs.List.{slice_index_or}
use Rattle.std.specs.Option.{option_copied}
use Rattle.cics_names.specs.Keyed.{Bytes}
use Rattle.cics_units.proofs.open_reads.unit_reads.UnitReads.key.Goals as goal

pub returns-in_err-at : goal.returns-in_err-at
returns-in_err-at c = ap option_copied c.from_residual.ensures ∙ sym c.in_err-at.ensures.none

pub index-requires : goal.index-requires
index-requires c =
    let inside : c.in_ok-at.at < length c.self.inside.entries.items = subst (λ es. c.in_ok-at.at < length es) (sym c.self.view_is) c.in_ok-at.ensures.found.inside in
    omega (arith, inside, c.self.inside.entries.ok.0)

pub returns : goal.returns
returns c =
    ap (λ (e : Bytes × Bytes). Some e.1) (c.index.ensures ∙ ap (λ es. slice_index_or es c.in_ok-at.at c.index.result.now) c.self.view_is)
    ∙ sym (c.in_ok-at.ensures.found.value c.index.result.now)
