use Rattle.std.proofs.Common.{sym}
use Rattle.cics_history.proofs.Entries.{value_at-looked_up}
use Rattle.cics_dispatch.proofs.machine.browses.Browses.get.Goals as goal

pub returns : goal.returns
returns c = sym (value_at-looked_up c.args.file.now c.self.inside.rows.entries c.args.self.now _ c.get.ensures.value c.self.view_is)
