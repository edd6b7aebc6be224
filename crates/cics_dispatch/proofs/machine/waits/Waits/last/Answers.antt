use Rattle.std.proofs.Common.{◌≡◌, ◌∙◌, ◌-◌, ap, subst, length, Some}
use Rattle.std.specs.Prelude.{option_map, slice_get}
use Rattle.std.specs.Map.{values_of}
use Rattle.std.proofs.lemmas.Option.{slice_get-map}
use Rattle.std.proofs.lemmas.List.{length-map}
use Rattle.cics_dispatch.specs.Machine.Waits.{AreApart}
use Rattle.cics_dispatch.proofs.OfMachine.Looks.{apart_rows}
use Rattle.cics_dispatch.proofs.machine.waits.Waits.last.Goals as goal

pub returns-clause-last : goal.returns-clause-last
returns-clause-last c =
    let es = c.self.inside.rows.entries in
    subst (λ ws. slice_get ws (length ws - 1) ≡ Some c.in_ok-wait.wait.now) c.self.view_is
    (ap (λ n. slice_get (values_of es) (n - 1)) (length-map es (λ e. e.1)) ∙ slice_get-map (λ e. e.1) es (length es - 1) ∙ ap (option_map (λ e. e.1)) c.in_ok-wait.ensures.last)

pub returns-clause-once : goal.returns-clause-once
returns-clause-once c = subst AreApart c.self.view_is (apart_rows c.self.inside.rows.entries c.self.invariant.once)
