use Rattle.std.proofs.Common.{Bor, ◌≡◌, ◌∙◌, sym, ap, subst, refl, true, Option, Some, None}
use Rattle.std.specs.Prelude.{◌≤◌, length, slice_get, IfNone, IfSome}
use Rattle.std.specs.Option.{option_copied}
use Rattle.cics_names.specs.Keyed.{Bytes, value_at}
use Rattle.cics_names.specs.Commands.{file_named}
use Rattle.cics_ksds.specs.declared.definition.FileDef.{FileDef}
use Rattle.cics_history.specs.Openings.{is_key}
use Rattle.cics_history.specs.Records.{key_of}
use Rattle.cics_history.specs.declared.ops.Op.{Op}
use Rattle.cics_dispatch.specs.declared.machine.reasons.Reason.{Reason}
use Rattle.cics_dispatch.specs.Machine.Calls.{OfTask}
use Rattle.cics_dispatch.specs.Machine.Checks.{file_reason, named_reason, defined_reason, reason_of, open_key}
use Rattle.cics_dispatch.specs.Machine.Machine.{Machine, Task, definition_of}
use Rattle.cics_dispatch.specs.Machine.Steps.{key_read, op_of}
use Rattle.cics_dispatch.proofs.OfMachine.Ready.{named_key_short}
use Rattle.cics_dispatch.proofs.OfMachine.RegionSteps.{one_task}
use Rattle.cics_dispatch.proofs.dispatcher.Dispatcher.failed_check.Goals as goal
use Rattle.cics_dispatch.proofs.dispatcher.Dispatcher.failed_check.Goals.{After-file_reason}

-- what is copied of a short key is short
copied_short : (o : Option (Bor Bytes)) (k : Bytes) → IfSome o (λ key. length key.now ≤ 255) → option_copied o ≡ Some k → length k ≤ 255
copied_short None k short is = cc
copied_short (Some x) k short is = let e : x.now ≡ k = cc in subst (λ k. length k ≤ 255) e short

-- what holds of each updating command that is asked for holds of it
asked : (o : Option Op) → ((c : Op) → o ≡ Some c → length (key_of c) ≤ 255) → IfSome o (λ c. length (key_of c) ≤ 255)
asked None short = tt
asked (Some c) short = short c refl

module _ (c : After-file_reason) where
  abbrev m : Machine
  m = c.args.self.now.machine

  told : (t : Task) → slice_get m.tasks c.args.at ≡ Some t → c.file_reason.result ≡ reason_of m t c.args.verb.now
  told t there =
      let f = c.in-Some.name.now in
      let verb = c.args.verb.now in
      let here : slice_get m.tasks c.args.at ≡ Some c.get.result.now = subst (λ r. slice_get r.machine.tasks c.args.at ≡ Some c.get.result.now) c.self.view_is c.get.ensures in
      let key : option_copied c.args.open_key ≡ open_key m t f = c.requires.key t there ∙ ap (key_read m t) (sym c.in-Some.ensures) in
      let browse : option_copied c.get-browse.result ≡ value_at f t.browses = c.get-browse.ensures ∙ ap (value_at f) (c.browses.ensures ∙ ap (λ s. s.browses) (one_task m.tasks c.args.at here there)) in
      c.file_reason.ensures ∙ (λ i. file_reason c.in-Some-definition.definition (key i) (browse i) verb)
      ∙ ap (λ o. defined_reason o (λ d. file_reason d (open_key m t f) (value_at f t.browses) verb)) c.in-Some-definition.ensures.definition
      ∙ ap (named_reason m t verb) c.in-Some.ensures

  lawful : (f : Bytes) (d : FileDef) → file_named c.args.verb.now ≡ Some f → definition_of m f ≡ Some d → is_key d ≡ true
  lawful f d named is =
      let same : Some c.in-Some.name.now ≡ Some f = c.in-Some.ensures ∙ named in
      let file : c.in-Some.name.now ≡ f = cc in
      let found : Some c.in-Some-definition.definition ≡ Some d = c.in-Some-definition.ensures.definition ∙ ap (definition_of m) file ∙ is in
      let own : c.in-Some-definition.definition ≡ d = cc in
      subst (λ d. is_key d ≡ true) own c.in-Some-definition.ensures.lawful

  passed : (r : Option Reason) → c.file_reason.result ≡ r → IfNone r (OfTask m.tasks c.args.at (λ t. IfSome (op_of m t c.args.verb.now) (λ o. length (key_of o) ≤ 255)))
  passed None is = λ t there. asked (op_of m t c.args.verb.now)
      (λ o. named_key_short m t c.args.verb.now lawful (λ k read. copied_short c.args.open_key k c.requires.most (c.requires.key t there ∙ read)) o (sym (told t there) ∙ is))
  passed (Some reason) is = tt

pub returns-clause-reason : goal.returns-clause-reason
returns-clause-reason c = told (goal.at.returns-clause-reason c).After-file_reason

pub returns-clause-short : goal.returns-clause-short
returns-clause-short c = passed (goal.at.returns-clause-short c).After-file_reason c.file_reason.result refl
