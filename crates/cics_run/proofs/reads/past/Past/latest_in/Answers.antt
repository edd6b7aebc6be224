use Rattle.std.proofs.Common.{ap, reverse, ◌∙◌}
use Rattle.std.specs.Prelude.{option_map}
use Rattle.std.specs.Map.{lookup}
use Rattle.std.specs.BTreeMap.{is_at}
use Rattle.std.specs.Ordering.{nat_cmp}
use Rattle.cics_run.specs.Reads.Runs.{Run, last_in}
use Rattle.cics_run.specs.Reads.Past.{latest_of}
use Rattle.cics_run.proofs.OfReads.Keeping.{turn_known}
use Rattle.cics_run.proofs.reads.past.Past.latest_in.Goals as goal

pub returns : goal.returns
returns c =
    c.get.ensures.value ∙ ap (lookup (is_at (nat_cmp c.args.turn))) c.self.invariant.by_turn
    ∙ turn_known c.args.turn (reverse c.self.inside.steps) ∙ ap (λ (run : Run). option_map latest_of (last_in c.args.turn run)) c.self.view_is
