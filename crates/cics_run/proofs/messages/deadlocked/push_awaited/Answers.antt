use Rattle.std.proofs.Common.{◌≡◌, rules, codes}
use Rattle.cics_run.specs.Messages.Deadlocked.{resource_text}
use Rattle.cics_run.proofs.messages.deadlocked.push_awaited.Goals as goal

pub returns-in_default : goal.returns-in_default
returns-in_default c =
    let other : codes "what it uses" ≡ resource_text c.args.verb.now = search rules in
    rw (← other) c.push_str.ensures
