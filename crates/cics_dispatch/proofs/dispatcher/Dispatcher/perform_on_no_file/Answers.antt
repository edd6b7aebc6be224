use Rattle.std.proofs.Common.{◌≡◌, ◌∙◌, sym, ap, refl, false, None, is_some}
use Rattle.cics_names.specs.declared.conditions.Condition.TheVariants.{Invreq}
use Rattle.cics_names.specs.Commands.{file_named}
use Rattle.cics_names.specs.declared.commands.Verb.{Verb}
use Rattle.cics_names.specs.declared.commands.Verb.TheVariants.{WriteqTs, ReadqTs, DeleteqTs, WriteqTd, ReadqTd, DeleteqTd, Enq, Deq, Syncpoint, Rollback, Return, Abend}
use Rattle.cics_dispatch.specs.Machine.Calls.{going_on}
use Rattle.cics_dispatch.specs.Machine.Machine.{Task}
use Rattle.cics_dispatch.specs.Machine.Replies.{plain}
use Rattle.cics_dispatch.specs.Machine.Steps.{answered, other_command, with_outcome}
use Rattle.cics_dispatch.specs.declared.machine.outcomes.Outcome.TheVariants.{Abended, Ended, Replied}
use Rattle.cics_dispatch.proofs.OfMachine.Ready.{ready_value}
use Rattle.cics_dispatch.proofs.OfMachine.RegionSteps.{told_as}
use Rattle.cics_dispatch.proofs.OfMachine.RegionPerforming.{deq_fits}
use Rattle.cics_dispatch.proofs.dispatcher.Dispatcher.perform_on_no_file.Goals as goal

pub enqueue-requires-clause-ready : goal.enqueue-requires-clause-ready
enqueue-requires-clause-ready c =
    ready_value c.args.self.now.machine c.args.at c.args.command.verb c.in-Enq.resource c.in-Enq.length c.in-Enq.nosuspend c.in-Enq.is c.requires.may

pub slice_bounds-dequeue-end : goal.slice_bounds-dequeue-end
slice_bounds-dequeue-end c =
    (deq_fits c.args.self.now.machine c.args.at c.args.command.verb c.in-Deq.resource c.in-Deq.length c.bytes.result.now c.requires.within c.requires.may c.in-Deq.is c.bytes.ensures).0

pub dequeue-requires-clause-most : goal.dequeue-requires-clause-most
dequeue-requires-clause-most c =
    (deq_fits c.args.self.now.machine c.args.at c.args.command.verb c.in-Deq.resource c.in-Deq.length c.bytes.result.now c.requires.within c.requires.may c.in-Deq.is c.bytes.ensures).1

pub returns : goal.returns
returns c = record {
  step = told_as c.args.at (λ t. answered c.args.self.now.machine t c.args.command.resp c.plain_reply-in_default-verb.result) (going_on c.args.self.now.machine c.args.command None)
      (λ t there. ap (answered c.args.self.now.machine t c.args.command.resp) c.plain_reply-in_default-verb.ensures ∙ by t c.args.command.verb refl c.requires.named) c.answer.ensures.step;
  growing = tt;
}
  where
    -- a command that nothing else tells of is INVREQ
    by : (t : Task) (verb : Verb) → c.args.command.verb ≡ verb → is_some (file_named verb) ≡ false →
        answered c.args.self.now.machine t c.args.command.resp (plain Invreq) ≡ other_command c.args.self.now.machine t c.args.command verb
    by t (ReadqTs q n item) is named = absurd (c.in_default-verb.not-ReadqTs _ _ _ is)
    by t (Enq value n nosuspend) is named = absurd (c.in_default.not-Enq _ _ _ is)
    by t (Deq value n) is named = absurd (c.in_default-verb.not-Deq _ _ is)
    by t Syncpoint is named = absurd (c.in_default-verb.not-Syncpoint is)
    by t Rollback is named = absurd (c.in_default-verb.not-Rollback is)
    by t Return is named = absurd (c.in_default-verb.not-Return is)
    by t (Abend code) is named = absurd (c.in_default-verb.not-Abend _ is)
    by t (WriteqTs q from n item) is named = refl
    by t (DeleteqTs q) is named = refl
    by t (WriteqTd q from n) is named = refl
    by t (ReadqTd q n nosuspend) is named = refl
    by t (DeleteqTd q) is named = refl
    by t verb is named = cc

pub returns-in-Syncpoint : goal.returns-in-Syncpoint
returns-in-Syncpoint c =
    let by = c.close.ensures in
    record { step = (λ t there. (λ i. with_outcome (Replied (c.plain_reply.ensures i)) (by.machine t there i)) ∙ ap (other_command c.args.self.now.machine t c.args.command) (sym c.in-Syncpoint.is), by.kept); growing = tt }

pub returns-in-Rollback : goal.returns-in-Rollback
returns-in-Rollback c =
    let by = c.close-in-Rollback.ensures in
    record { step = (λ t there. (λ i. with_outcome (Replied (c.plain_reply-in-Rollback.ensures i)) (by.machine t there i)) ∙ ap (other_command c.args.self.now.machine t c.args.command) (sym c.in-Rollback.is), by.kept); growing = tt }

pub returns-in-Return : goal.returns-in-Return
returns-in-Return c =
    record { step = (λ t there. ap (with_outcome Ended) (c.close-in-Return.ensures.machine t there) ∙ ap (other_command c.args.self.now.machine t c.args.command) (sym c.in-Return.is), c.close-in-Return.ensures.kept); growing = tt }

pub returns-in-Abend : goal.returns-in-Abend
returns-in-Abend c =
    let by = c.abend.ensures in
    record {
      step = (λ t there. (λ i. with_outcome (Abended (c.abend_code.ensures i) None) (by.machine t there i)) ∙ ap (other_command c.args.self.now.machine t c.args.command) (sym c.in-Abend.is), by.kept);
      growing = tt;
    }
