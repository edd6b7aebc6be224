use Rattle.std.proofs.Common.{T, ◌<◌, ◌∙◌, ap, sym, subst, length, Some, remove, arith}
use Rattle.std.specs.List.{slice_index_or}
use Rattle.cics_names.specs.Keyed.{Bytes, is_rising}
use Rattle.cics_names.specs.RisingLaws.{rising-without, without-absent}
use Rattle.cics_units.proofs.open_reads.unit_reads.UnitReads.close.Goals as goal

pub returns-in_err-at-clause-reads : goal.returns-in_err-at-clause-reads
returns-in_err-at-clause-reads c = sym (without-absent c.args.file.now c.args.self.now c.in_err-at.ensures.none)

pub invariant_of-self : goal.invariant_of-self
invariant_of-self c =
    subst (λ es. T (is_rising es)) (sym (c.remove.ensures.items ∙ ap (λ es. remove es c.in_ok-at.at) c.self.view_is ∙ c.in_ok-at.ensures.found.rest))
    (rising-without c.args.file.now c.args.self.now (subst (λ es. T (is_rising es)) c.self.view_is c.self.invariant))

pub returns-in_err-at-clause-key : goal.returns-in_err-at-clause-key
returns-in_err-at-clause-key c = c.from_residual.ensures ∙ sym c.in_err-at.ensures.none

pub remove-requires : goal.remove-requires
remove-requires c =
    let inside : c.in_ok-at.at < length c.self.inside.entries.items = subst (λ es. c.in_ok-at.at < length es) (sym c.self.view_is) c.in_ok-at.ensures.found.inside in
    omega (arith, inside, c.self.inside.entries.ok.0)

pub returns-clause-reads : goal.returns-clause-reads
returns-clause-reads c = c.remove.ensures.items ∙ ap (λ es. remove es c.in_ok-at.at) c.self.view_is ∙ c.in_ok-at.ensures.found.rest

pub returns-clause-key : goal.returns-clause-key
returns-clause-key c =
    ap (λ (e : Bytes × Bytes). Some e.1) (c.remove.ensures.value ∙ ap (λ es. slice_index_or es c.in_ok-at.at c.remove.result) c.self.view_is)
    ∙ sym (c.in_ok-at.ensures.found.value c.remove.result)
