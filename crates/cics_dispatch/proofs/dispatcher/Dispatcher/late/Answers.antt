use Rattle.std.proofs.Common.{◌≡◌, ◌∙◌, ◌<◌, ◌-◌, sym, ap, subst, length, false}
use Rattle.std.specs.Prelude.{◌&&◌, nat_lt, nat_le, slice_get, IfNone}
use Rattle.std.proofs.lemmas.Bool.{lt-ltb, le-ltb, le-leb, lt-leb}
use Rattle.cics_dispatch.specs.Machine.Machine.{task_at}
use Rattle.cics_dispatch.specs.Machine.Regions.{region_of}
use Rattle.cics_dispatch.specs.Machine.Waking.{is_late}
use Rattle.cics_dispatch.proofs.dispatcher.Dispatcher.late.Goals as goal
use Rattle.cics_dispatch.proofs.dispatcher.Dispatcher.late.Goals.{After-saturating_sub-waited, else-limit-gt0-via-then-limit-gt0+else-limit-waited, else-limit-gt0-via-else-limit-gt0}

-- whether the task that is found is late
module _ (c : After-saturating_sub-waited) where
  told : is_late c.args.self.now.machine c.args.wait.now (task_at c.args.self.now.machine.tasks c.args.wait.now.label) ≡ (nat_lt 0 c.dtimout-limit.result && nat_le c.dtimout-limit.result c.saturating_sub-waited.result)
  told =
      let u = c.self.inside in
      let w = c.args.wait.now in
      let m = (region_of u.units u.tasks u.waits u.clock u.is_down).machine in
      let its = sym c.get.ensures ∙ c.in_ok-at.ensures.task ∙ ap (task_at u.tasks) c.label.ensures in
      let waited = c.saturating_sub-waited.ensures ∙ ap (λ since. u.clock - since) c.since.ensures in
      ap (λ v. is_late v.machine w (task_at v.machine.tasks w.label)) (sym c.self.view_is) ∙ ap (is_late m w) (sym its)
      ∙ sym (λ i. nat_lt 0 (c.dtimout-limit.ensures i) && nat_le (c.dtimout-limit.ensures i) (waited i))

pub returns-in_err-at-clause-none : goal.returns-in_err-at-clause-none
returns-in_err-at-clause-none c =
    let w = c.args.wait.now in
    let u = c.self.inside in
    let m = (region_of u.units u.tasks u.waits u.clock u.is_down).machine in
    subst (λ r. IfNone r (is_late c.args.self.now.machine w (task_at c.args.self.now.machine.tasks w.label) ≡ false)) (sym c.from_residual.ensures)
    (ap (λ v. is_late v.machine w (task_at v.machine.tasks w.label)) (sym c.self.view_is) ∙ ap (λ l. is_late m w (task_at u.tasks l)) (sym c.label.ensures) ∙ ap (is_late m w) c.in_err-at.ensures.none)

pub get-requires : goal.get-requires
get-requires c = c.in_ok-at.ensures.within

pub returns-then-limit-waited-clause-late : goal.returns-then-limit-waited-clause-late
returns-then-limit-waited-clause-late c =
    told (goal.at.returns-then-limit-waited-clause-late c).After-saturating_sub-waited
    ∙ (λ i. lt-ltb 0 c.dtimout-limit.result c.if-limit-gt0.true i && le-leb c.dtimout-limit.result c.saturating_sub-waited.result c.if-limit-waited.true i)

pub returns-then-limit-waited-clause-task : goal.returns-then-limit-waited-clause-task
returns-then-limit-waited-clause-task c =
    subst (λ v. slice_get v.machine.tasks c.in_ok-at.at ≡ task_at v.machine.tasks c.args.wait.now.label) c.self.view_is (c.in_ok-at.ensures.task ∙ ap (task_at c.self.inside.tasks) c.label.ensures)

pub returns-then-limit-waited-clause-within : goal.returns-then-limit-waited-clause-within
returns-then-limit-waited-clause-within c = subst (λ v. c.in_ok-at.at < length v.machine.tasks) c.self.view_is c.in_ok-at.ensures.within

pub returns-else-limit-gt0-clause-none : goal.returns-else-limit-gt0-clause-none
returns-else-limit-gt0-clause-none c =
    told (goal.at.returns-else-limit-gt0-clause-none c).After-saturating_sub-waited
    ∙ elim c.else-limit-gt0.branch [
      | else-limit-gt0-via-then-limit-gt0+else-limit-waited w ↦ (λ i. lt-ltb 0 c.dtimout-limit.result w.if-limit-gt0.true i && lt-leb c.dtimout-limit.result c.saturating_sub-waited.result w.if-limit-waited.false i)
      | else-limit-gt0-via-else-limit-gt0 w ↦ (λ i. le-ltb 0 c.dtimout-limit.result w.if-limit-gt0.false i && nat_le c.dtimout-limit.result c.saturating_sub-waited.result)
    ]
