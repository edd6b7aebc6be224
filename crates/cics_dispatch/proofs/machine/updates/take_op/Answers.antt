use Rattle.std.proofs.Common.{◌∙◌, sym, ap, Some}
use Rattle.std.specs.Option.{option_copied}
use Rattle.cics_names.specs.declared.commands.Verb.TheVariants.{Rewrite, Delete}
use Rattle.cics_history.specs.declared.ops.Op.TheVariants as op
use Rattle.cics_dispatch.specs.Machine.Emptied.{refilled}
use Rattle.cics_dispatch.specs.Machine.Steps.{asked_op, delete_op}
use Rattle.cics_dispatch.proofs.machine.updates.take_op.Goals.{in-Rewrite+in_ok-from_slice-in-Rewrite+in_ok-take_used-in-Rewrite, in-Delete-default-None-default-default+in_ok-from_slice-in-Delete-default-None-default-default}
use Rattle.cics_dispatch.proofs.machine.updates.take_op.Goals as goal

pub returns-clause-op : goal.returns-clause-op
returns-clause-op c = elim c.match-verb.branch [
  | in-Rewrite+in_ok-from_slice-in-Rewrite+in_ok-take_used-in-Rewrite w ↦
      ap Some w.op-is ∙ (λ i. Some (op.Rewrite w.in-Rewrite.file (w.in_ok-from_slice-in-Rewrite.ensures i) (w.in_ok-take_used-in-Rewrite.ensures.content i)))
      ∙ (λ i. asked_op (option_copied (sym c.in-Some.is i)) (sym w.in-Rewrite.is i))
  | in-Delete-default-None-default-default+in_ok-from_slice-in-Delete-default-None-default-default w ↦
      ap Some w.op-is ∙ (λ i. Some (op.Delete w.in-Delete-default-None-default-default.file (w.in_ok-from_slice-in-Delete-default-None-default-default.ensures i)))
      ∙ (λ i. delete_op w.in-Delete-default-None-default-default.file (sym w.in-Delete-default-None-default-default.ridfld-is i) w.in-Delete-default-None-default-default.generic (Some c.in-Some.key.now))
      ∙ (λ i. asked_op (option_copied (sym c.in-Some.is i)) (sym w.in-Delete-default-None-default-default.is i))
]

pub returns-clause-back : goal.returns-clause-back
returns-clause-back c = elim c.match-verb.branch [
  | in-Rewrite+in_ok-from_slice-in-Rewrite+in_ok-take_used-in-Rewrite w ↦
      (λ i. refilled (w.verb-is i) (Some (w.op-is i))) ∙ ap (λ from. Rewrite w.in-Rewrite.file from w.in-Rewrite.length) w.in_ok-take_used-in-Rewrite.ensures.back ∙ sym w.in-Rewrite.is
  | in-Delete-default-None-default-default+in_ok-from_slice-in-Delete-default-None-default-default w ↦
      (λ i. refilled (w.verb-is i) (Some c.match-verb.op)) ∙ (λ i. refilled (Delete w.in-Delete-default-None-default-default.file (w.in-Delete-default-None-default-default.ridfld-is i) w.in-Delete-default-None-default-default.key_length w.in-Delete-default-None-default-default.generic) (Some c.match-verb.op))
      ∙ (λ i. Delete w.in-Delete-default-None-default-default.file (sym w.in-Delete-default-None-default-default.ridfld-is i) w.in-Delete-default-None-default-default.key_length w.in-Delete-default-None-default-default.generic) ∙ sym w.in-Delete-default-None-default-default.is
]

pub returns-clause-growing : goal.returns-clause-growing
returns-clause-growing c = tt
