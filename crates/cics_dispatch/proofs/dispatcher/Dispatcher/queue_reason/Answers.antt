use Rattle.std.proofs.Common.{◌≡◌, ◌∙◌, ap, refl, Option, Some, None}
use Rattle.std.specs.Prelude.{is_some, option_map}
use Rattle.cics_names.specs.Keyed.{value_at}
use Rattle.cics_dispatch.specs.declared.machine.reasons.Reason.TheVariants.{QueueNotDefined}
use Rattle.cics_dispatch.specs.Machine.Checks.{queue_reason}
use Rattle.cics_dispatch.specs.Machine.Lengths.{unless}
use Rattle.cics_dispatch.proofs.dispatcher.Dispatcher.queue_reason.Goals as goal

-- there is something of a value just if there is a value
of_some : {X Y : Type 0} (f : X → Y) (o : Option X) → is_some (option_map f o) ≡ is_some o
of_some f None = refl
of_some f (Some x) = refl

pub returns-in-Some : goal.returns-in-Some
returns-in-Some c =
    ap (λ b. unless b QueueNotDefined) (ap is_some c.in-Some.ensures ∙ of_some (λ q. q.recovery) (value_at c.args.queue.now c.self.inside.units.state.opening.queues)) ∙ ap (λ v. queue_reason v.machine c.args.queue.now) c.self.view_is

pub returns-in-None : goal.returns-in-None
returns-in-None c =
    ap (λ b. unless b QueueNotDefined) (ap is_some c.in-None.ensures ∙ of_some (λ q. q.recovery) (value_at c.args.queue.now c.self.inside.units.state.opening.queues)) ∙ ap (λ v. queue_reason v.machine c.args.queue.now) c.self.view_is
