use Rattle.std.proofs.Common.{◌∙◌, ap, sym, length, refl}
use Rattle.std.specs.List.{slice_get}
use Rattle.std.proofs.lemmas.Option.{slice_get_read, slice_get_past}
use Rattle.cics_names.specs.KeyedLaws.{pointwise-is_same}
use Rattle.cics_units.proofs.UnitReads.{found_now, other_now, none_now}
use Rattle.cics_units.proofs.open_reads.unit_reads.UnitReads.find.Goals as goal

pub returns-in_err-name-clause-none : goal.returns-in_err-name-clause-none
returns-in_err-name-clause-none c =
    rw c.from_residual.ensures (none_now c.args.file.now c.self.inside.entries.items c.args.self.now c.self.view_is c.self.invariant c.place-at.result c.place-at.ensures
    (ap (λ l. slice_get l c.place-at.result) (sym c.deref.ensures.value) ∙ slice_get_past c.deref.result.now c.place-at.result c.in_err-name.ensures.lookup.3))

pub returns-then-eq-clause-found : goal.returns-then-eq-clause-found
returns-then-eq-clause-found c =
    let read = c.in_ok-name.ensures.lookup in
    found_now c.args.file.now c.self.inside.entries.items c.args.self.now c.self.view_is c.self.invariant c.place-at.result c.place-at.ensures c.in_ok-name.field-0.now
    (ap (λ l. slice_get l c.place-at.result) (sym c.deref.ensures.value) ∙ slice_get_read c.deref.result.now (length c.deref.result.now) c.place-at.result c.in_ok-name.field-0.now refl read.3.0 read.1)
    (sym (pointwise-is_same c.args.file.now c.in_ok-name.field-0.now.0) ∙ sym c.if-eq.ensures)

pub returns-else-eq-clause-none : goal.returns-else-eq-clause-none
returns-else-eq-clause-none c =
    let read = c.in_ok-name.ensures.lookup in
    other_now c.args.file.now c.self.inside.entries.items c.args.self.now c.self.view_is c.self.invariant c.place-at.result c.place-at.ensures c.in_ok-name.field-0.now
    (ap (λ l. slice_get l c.place-at.result) (sym c.deref.ensures.value) ∙ slice_get_read c.deref.result.now (length c.deref.result.now) c.place-at.result c.in_ok-name.field-0.now refl read.3.0 read.1)
    (sym (pointwise-is_same c.args.file.now c.in_ok-name.field-0.now.0) ∙ sym c.if-eq.ensures)
