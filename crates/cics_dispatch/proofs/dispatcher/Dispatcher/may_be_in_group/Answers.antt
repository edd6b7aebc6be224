use Rattle.std.proofs.Common.{◌∙◌, sym}
use Rattle.std.proofs.lemmas.Bool.{true≢false}
use Rattle.cics_dispatch.proofs.OfMachine.Looks.{not_in_group}
use Rattle.cics_dispatch.proofs.dispatcher.Dispatcher.may_be_in_group.Goals as goal

pub returns-in-Some : goal.returns-in-Some
returns-in-Some c = λ differs.
    not_in_group c.args.self.now.machine c.args.notes.now.resources c.args.group c.args.label.now c.in-Some.resource
    (λ i w there own. c.in-Some.ensures i w there own) (λ same. true≢false (sym (c.is_group_of.ensures same) ∙ differs))
