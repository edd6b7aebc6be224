use Rattle.std.proofs.Common.{◌≡◌, ◌≤◌, ◌∙◌, sym, ap, subst, Some, IfSome, length, arith}
use Rattle.std.specs.Prelude.{take}
use Rattle.std.proofs.lemmas.List.{length-take-le}
use Rattle.cics_names.specs.declared.commands.Verb.TheVariants.{Enq}
use Rattle.cics_history.specs.Resources.{bytes_of}
use Rattle.cics_history.specs.declared.resources.Resource.TheVariants.{User}
use Rattle.cics_dispatch.specs.Machine.Regions.{region_of}
use Rattle.cics_dispatch.specs.Machine.Waits.{wait_of, AreApart}
use Rattle.cics_dispatch.specs.Machine.Notes.{IsOnlyNeed}
use Rattle.cics_dispatch.proofs.OfMachine.Looks.{of_wait, need_used, need_value, value_short}
use Rattle.cics_dispatch.proofs.dispatcher.Dispatcher.need.Goals as goal

pub returns-then-has_short_key : goal.returns-then-has_short_key
returns-then-has_short_key c =
    let m = c.args.self.now.machine in
    let label = c.args.label.now in
    let x = c.in_ok-wait.wait.now in
    let apart = subst (λ v. AreApart v.machine.waiting) c.self.view_is c.get.ensures.once in
    let found : Some x ≡ wait_of m.waiting label = c.in_ok-wait.ensures.wait ∙ ap (λ v. wait_of v.machine.waiting label) c.self.view_is in
    of_wait (λ w. IfSome c.need_of.result (λ r. IsOnlyNeed r w.command.verb w.op)) x m.waiting label apart found
    (need_used x c.in-Some.op.now c.need_of.result (sym c.in-Some.ensures) c.need_of.ensures)

pub slice_bounds-value-end : goal.slice_bounds-value-end
slice_bounds-value-end c =
    let u = c.self.inside in
    let x = c.in_ok-wait.wait.now in
    let n = c.in-Enq.length in
    let verb : x.command.verb ≡ Enq c.in-Enq.resource n c.in-Enq.nosuspend = sym (ap (λ k. k.verb) c.command.ensures) ∙ c.in-Enq.is in
    let h = value_short (region_of u.units u.tasks u.waits u.clock u.is_down).machine x u.waits c.args.label.now c.in-Enq.resource n c.in-Enq.nosuspend
    c.self.invariant.tasks.waits c.in_ok-wait.ensures.wait (sym c.in_default.ensures) verb in
    sym (length-take-le n c.bytes.result.now (subst (λ b. n ≤ length b) (sym c.bytes.ensures) h.2))

pub value-requires : goal.value-requires
value-requires c =
    let u = c.self.inside in
    let x = c.in_ok-wait.wait.now in
    let n = c.in-Enq.length in
    let verb : x.command.verb ≡ Enq c.in-Enq.resource n c.in-Enq.nosuspend = sym (ap (λ k. k.verb) c.command.ensures) ∙ c.in-Enq.is in
    let h = value_short (region_of u.units u.tasks u.waits u.clock u.is_down).machine x u.waits c.args.label.now c.in-Enq.resource n c.in-Enq.nosuspend
    c.self.invariant.tasks.waits c.in_ok-wait.ensures.wait (sym c.in_default.ensures) verb in
    let e = length-take-le n c.bytes.result.now (subst (λ b. n ≤ length b) (sym c.bytes.ensures) h.2) in
    let most = h.1 in
    record { most = omega (arith, e, most) }

pub returns-in-Enq : goal.returns-in-Enq
returns-in-Enq c =
    let m = c.args.self.now.machine in
    let label = c.args.label.now in
    let x = c.in_ok-wait.wait.now in
    let apart = subst (λ v. AreApart v.machine.waiting) c.self.view_is c.get.ensures.once in
    let found : Some x ≡ wait_of m.waiting label = c.in_ok-wait.ensures.wait ∙ ap (λ v. wait_of v.machine.waiting label) c.self.view_is in
    let n = c.in-Enq.length in
    let verb : x.command.verb ≡ Enq c.in-Enq.resource n c.in-Enq.nosuspend = sym (ap (λ k. k.verb) c.command.ensures) ∙ c.in-Enq.is in
    of_wait (λ w. IsOnlyNeed c.value.result w.command.verb w.op) x m.waiting label apart found
    (need_value x c.in-Enq.resource n c.in-Enq.nosuspend c.value.result (sym c.in_default.ensures) verb
    (c.value.ensures ∙ (λ i. User (bytes_of (take n (c.bytes.ensures i))))))
