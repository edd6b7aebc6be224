use Rattle.std.proofs.Common.{◌≡◌}
use Rattle.cics_dispatch.specs.Machine.Waking.{first_late}
use Rattle.cics_dispatch.proofs.dispatcher.Dispatcher.first_late_of_all.Given as goal

-- none of those that were passed has waited too long
abbrev pub invariant-loop-wait : goal.invariant-loop-wait
invariant-loop-wait l = first_late l.self.machine l.wait-iterator ≡ first_late l.self.machine l.self.machine.waiting
