use Rattle.std.proofs.Common.{◌≡◌, ◌∙◌, ap, sym, refl, false, None}
use Rattle.cics_names.specs.Commands.{file_named}
use Rattle.cics_names.specs.declared.commands.Verb.{Verb}
use Rattle.cics_names.specs.declared.commands.Verb.TheVariants.{Read, Unlock}
use Rattle.cics_dispatch.specs.Machine.Calls.{going_on, reading, reads_or_unlocks}
use Rattle.cics_dispatch.specs.Machine.Machine.{records_in}
use Rattle.cics_dispatch.specs.Machine.Replies.{read_told}
use Rattle.cics_dispatch.specs.Machine.Steps.{answered, other_command}
use Rattle.cics_dispatch.proofs.OfMachine.RegionSteps.{may_told_as}
use Rattle.cics_dispatch.proofs.OfMachine.RegionPerforming.{file_of}
use Rattle.cics_dispatch.proofs.dispatcher.Dispatcher.perform_on_file.Goals as goal

pub read-requires-clause-there : goal.read-requires-clause-there
read-requires-clause-there c =
    file_of c.args.self.now.machine c.args.at c.args.command.verb c.in-Read.file c.requires.within c.requires.may (ap file_named c.in-Read.is)

pub perform_on_browse-requires-clause-other : goal.perform_on_browse-requires-clause-other
perform_on_browse-requires-clause-other c = by c.args.command.verb refl
  where
    by : (verb : Verb) → c.args.command.verb ≡ verb → reads_or_unlocks verb ≡ false
    by (Read f key given n generic gteq update) is = absurd (c.in_default.not-Read _ _ _ _ _ _ _ is)
    by (Unlock f) is = absurd (c.in_default.not-Unlock _ is)
    by verb is = refl

pub returns-in-Read-clause-step : goal.returns-in-Read-clause-step
returns-in-Read-clause-step c =
    let m = c.args.self.now.machine in
    may_told_as c.args.self.now c.read.new.self c.read.result c.args.at (reading m c.in-Read.file c.args.command) (going_on m c.args.command None)
    (λ t there. ap (λ v. answered m t c.args.command.resp (read_told (records_in m c.in-Read.file) v)) c.in-Read.is ∙ ap (other_command m t c.args.command) (sym c.in-Read.is)) c.read.ensures.step
