use Rattle.std.proofs.Common.{◌≡◌, ◌∙◌, ◌+◌, length, sym, ap, subst, refl, arith, true, Some}
use Rattle.std.specs.Prelude.{suc, drop, is_some, slice_get}
use Rattle.std.proofs.lemmas.Option.{slice_get_within}
use Rattle.std.proofs.lemmas.List.{drop_all}
use Rattle.cics_history.specs.declared.ops.UnitState.TheVariants.{BackedOut}
use Rattle.cics_dispatch.specs.Machine.Machine.{is_waiting, unit_closed}
use Rattle.cics_dispatch.specs.Machine.Tasks.{own_label, IsOwn}
use Rattle.cics_dispatch.specs.Machine.Shutdown.{units_of, all_ended}
use Rattle.cics_dispatch.proofs.OfMachine.RegionShutdown.{ended_long, ended_then, count_then, none_then, one_more, none_more}
use Rattle.cics_dispatch.proofs.dispatcher.Dispatcher.end_tasks.Goals.{then-is_some, else-is_some}
use Rattle.cics_dispatch.proofs.dispatcher.Dispatcher.end_tasks.Goals as goal

pub loop-at-preserved : goal.loop-at-preserved
loop-at-preserved c =
    let m = c.loop-at.self.machine in
    let at = c.loop-at.at in
    let was = c.loop-at.invariant in
    let t = c.get.result.now in
    let there : slice_get m.tasks at ≡ Some t = ap (λ v. slice_get v.machine.tasks at) (sym c.self-in-loop-at.view_is) ∙ c.get.ensures in
    let labels = subst (λ v. IsOwn own_label v.machine.tasks) c.self-in-loop-at.view_is c.self-in-loop-at.invariant.tasks.labels in
    let now : c.close.new.self.machine ≡ unit_closed m t BackedOut true = c.close.ensures.machine t there in
    let up : at + 1 ≡ suc at = omega arith in
    let left = ap (λ k. c.loop-at.count + k) (count_then m at t labels there) in
    let rest : units_of (drop (at + 1) c.close.new.self.machine.tasks) ≡ units_of (drop (suc at) (unit_closed m t BackedOut true).tasks) = λ i. units_of (drop (up i) (now i).tasks) in
    let few = was.few in
    record {
      alone = ap (λ n. n.waiting) now ∙ was.alone;
      long = ap (λ n. length n.tasks) now ∙ ended_long m at t labels there ∙ was.long;
      rest = (λ i. all_ended (now i) (drop (up i) (now i).tasks)) ∙ sym (ended_then m at t labels there) ∙ was.rest;
      count = elim c.if-is_some.branch [
        | then-is_some w ↦ (λ i. w.count-is i + rest i) ∙ sym (one_more c.loop-at.count t.unit _ (sym (c.is_some.ensures ∙ ap is_some c.unit.ensures) ∙ w.if-is_some.true)) ∙ sym left ∙ was.count
        | else-is_some w ↦ (λ i. w.count-is i + rest i) ∙ sym (none_more c.loop-at.count t.unit _ (sym (c.is_some.ensures ∙ ap is_some c.unit.ensures) ∙ w.if-is_some.false)) ∙ sym left ∙ was.count
      ];
      few = elim c.if-is_some.branch [
        | then-is_some w ↦ let is = w.count-is in omega (arith, is, few)
        | else-is_some w ↦ let is = w.count-is in omega (arith, is, few)
      ];
      none = λ i v before is. none_then m at t labels there was.none i v (omega (arith, before)) (ap (λ n. slice_get n.tasks i) (sym now) ∙ is);
      kept = λ kept. c.close.ensures.kept (was.kept kept);
    }

pub returns-clause-none : goal.returns-clause-none
returns-clause-none c = λ i t is.
    let within = slice_get_within c.loop-at.self.machine.tasks i t is in
    let over = c.loop-at-test.false in
    let end = c.len-at-end.ensures in
    let long = c.loop-at.invariant.long in
    let seen = ap (λ v. length v.machine.tasks) c.self.view_is in
    c.loop-at.invariant.none i t (omega (arith, within, over, end, long, seen)) is

pub close-requires-clause-awake : goal.close-requires-clause-awake
close-requires-clause-awake c = λ t there. ap (λ ws. is_waiting ws t.label) c.loop-at.invariant.alone

pub loop-at-init : goal.loop-at-init
loop-at-init c = record {
  alone = c.requires.alone;
  long = refl;
  rest = refl;
  count = omega arith;
  few = omega arith;
  none = λ i t before is. absurd (omega (arith, before));
  kept = λ was. was;
}

pub overflow_add-count : goal.overflow_add-count
overflow_add-count c = omega arith

pub returns-clause-machine : goal.returns-clause-machine
returns-clause-machine c =
    let m = c.loop-at.self.machine in
    let over = c.loop-at-test.false in
    let end = c.len-at-end.ensures in
    let long = c.loop-at.invariant.long in
    let seen = ap (λ v. length v.machine.tasks) c.self.view_is in
    ap (all_ended m) (sym (drop_all c.loop-at.at m.tasks (omega (arith, over, end, long, seen)))) ∙ c.loop-at.invariant.rest

pub returns-clause-count : goal.returns-clause-count
returns-clause-count c =
    let m = c.loop-at.self.machine in
    let over = c.loop-at-test.false in
    let end = c.len-at-end.ensures in
    let long = c.loop-at.invariant.long in
    let seen = ap (λ v. length v.machine.tasks) c.self.view_is in
    let none = ap units_of (drop_all c.loop-at.at m.tasks (omega (arith, over, end, long, seen))) in
    let all = c.loop-at.invariant.count in
    omega (arith, none, all)

pub returns-clause-kept : goal.returns-clause-kept
returns-clause-kept c = c.loop-at.invariant.kept
