use Rattle.std.proofs.Common.{◌∙◌, ◌++◌, ap}
use Rattle.std.proofs.lemmas.Result.{on_ok_weaker}
use Rattle.cics_history.specs.Stamps.{unit_stamp}
use Rattle.cics_units.proofs.Stamped.{ops_left, joined_three, values_stamp}
use Rattle.cics_units.proofs.units.Units.stamp_unit.Goals as goal

pub returns : goal.returns
unfolding unit_stamp
returns c =
    let u = c.self.inside in
    let out = c.args.out.now.items in
    let ops = c.in_ok-stamp_ops.ensures ∙ ap (λ es. out ++ ops_left u.opening c.args.unit es) c.as_slice.ensures.value in
    on_ok_weaker c.stamp_values.result (λ last.
    joined_three _ _ _ out c.stamp_ops.new.out.items c.stamp.new.out.items c.stamp_values.new.out.items ops c.in_ok-stamp.ensures
    (last ∙ ap (λ s. c.stamp.new.out.items ++ s) (values_stamp c.args.unit u.core.locks))
    ∙ ap (λ v. out ++ unit_stamp v.state c.args.unit) c.self.view_is) c.stamp_values.ensures
