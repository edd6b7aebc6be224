use Rattle.std.proofs.Common.{◌≡◌, ◌∙◌, ◌<◌, sym, ap, subst, length}
use Rattle.std.specs.Option.{option_copied}
use Rattle.cics_names.specs.Commands.{file_named}
use Rattle.cics_history.specs.Execution.{has_read}
use Rattle.cics_dispatch.specs.Machine.Calls.{OfTask}
use Rattle.cics_dispatch.specs.Machine.Regions.{region_of}
use Rattle.cics_dispatch.specs.Machine.Steps.{key_read}
use Rattle.cics_dispatch.proofs.OfMachine.RegionSteps.{one_task}
use Rattle.cics_dispatch.proofs.dispatcher.Dispatcher.open_key.Goals as goal

pub returns-in_err-file-clause-key : goal.returns-in_err-file-clause-key
returns-in_err-file-clause-key c = λ t there. ap option_copied c.from_residual.ensures ∙ ap (key_read c.args.self.now.machine t) c.in_err-file.ensures

pub get-requires : goal.get-requires
get-requires c = subst (λ v. c.args.at < length v.machine.tasks) (sym c.self.view_is) c.requires.within

pub returns-in_err-unit-clause-key : goal.returns-in_err-unit-clause-key
returns-in_err-unit-clause-key c =
    let u = c.self.inside in
    subst (λ v. OfTask v.machine.tasks c.args.at (λ t. option_copied c.from_residual-in_err-unit.result ≡ key_read v.machine t (file_named c.args.verb.now))) c.self.view_is (λ t there.
    ap option_copied c.from_residual-in_err-unit.ensures ∙ ap (λ o. has_read u.units.state o c.in_ok-file.file.now) (c.in_err-unit.ensures ∙ ap (λ s. s.unit) (one_task u.tasks c.args.at c.get.ensures there))
    ∙ ap (key_read (region_of u.units u.tasks u.waits u.clock u.is_down).machine t) c.in_ok-file.ensures)

pub returns-clause-key : goal.returns-clause-key
returns-clause-key c =
    let u = c.self.inside in
    subst (λ v. OfTask v.machine.tasks c.args.at (λ t. option_copied c.open_read.result ≡ key_read v.machine t (file_named c.args.verb.now))) c.self.view_is (λ t there.
    c.open_read.ensures.key ∙ ap (λ o. has_read u.units.state o c.in_ok-file.file.now) (c.in_ok-unit.ensures ∙ ap (λ s. s.unit) (one_task u.tasks c.args.at c.get.ensures there))
    ∙ ap (key_read (region_of u.units u.tasks u.waits u.clock u.is_down).machine t) c.in_ok-file.ensures)

pub returns-clause-most : goal.returns-clause-most
returns-clause-most c = c.open_read.ensures.most
