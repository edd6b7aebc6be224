use Rattle.std.proofs.Common.{◌≡◌, ◌∙◌, sym, ap, subst, List, [], Option, Some, None}
use Rattle.std.specs.Prelude.{option_map, IfSome}
use Rattle.cics_names.specs.Keyed.{value_at}
use Rattle.cics_ksds.specs.Files.{FileValue}
use Rattle.cics_history.specs.Serial.{NoneIsOpen}
use Rattle.cics_history.specs.State.{UnitsState}
use Rattle.cics_history.proofs.Stores.{value_at_each}
use Rattle.cics_units.specs.Cores.{core_value}
use Rattle.cics_units.specs.KeptUnits.{state_shown}
use Rattle.cics_units.proofs.NothingHeld.{nothing_held}
use Rattle.cics_units.proofs.units.Units.file.Goals as goal

pub returns-clause-records : goal.returns-clause-records
returns-clause-records c =
    let name = c.args.name.now in
    ap (λ v. value_at name v.store.files) (sym c.self.view_is) ∙ value_at_each (λ x. x.records) name c.self.inside.core.store.files
    ∙ ap (option_map (λ x. x.records)) (sym c.get.ensures.value)

-- the file that is returned has no empty slot if the file of the name has none
without_slots : {F : Type 0} (now : F → FileValue) (returned : Option F) (named : Option FileValue) → option_map now returned ≡ named →
    ((file : FileValue) → named ≡ Some file → file.empties ≡ []) → IfSome returned (λ f. (now f).empties ≡ [])
without_slots now None named is none = tt
without_slots now (Some f) named is none = none (now f) (sym is)

pub returns-clause-swept : goal.returns-clause-swept
returns-clause-swept c = λ shut.
    let u = c.self.inside in
    let name = c.args.name.now in
    let s : UnitsState = state_shown u.opening u.trace.items u.outcomes.items u.commits.items (core_value u.core) in
    let none : NoneIsOpen s = subst (λ v. NoneIsOpen v.state) (sym c.self.view_is) shut in
    let held = nothing_held s (core_value u.core).stores u.core.locks c.self.invariant.0 none in
    without_slots (λ f. f.now) c.get.result (value_at name u.core.store.files) c.get.ensures.value (held.files name)
