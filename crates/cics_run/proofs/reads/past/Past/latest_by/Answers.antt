use Rattle.std.proofs.Common.{ap, reverse, ◌∙◌}
use Rattle.std.specs.Prelude.{option_map}
use Rattle.std.specs.List.{find}
use Rattle.std.specs.Map.{lookup}
use Rattle.std.specs.BTreeMap.{is_at}
use Rattle.cics_names.specs.Keyed.{bytes_cmp}
use Rattle.cics_run.specs.Reads.Runs.{Run, is_by}
use Rattle.cics_run.specs.Reads.Past.{latest_of}
use Rattle.cics_run.proofs.OfReads.Keeping.{task_known}
use Rattle.cics_run.proofs.reads.past.Past.latest_by.Goals as goal

pub returns : goal.returns
returns c =
    c.get.ensures.value ∙ ap (lookup (is_at (bytes_cmp c.args.task.now))) c.self.invariant.by_task
    ∙ task_known c.args.task.now (reverse c.self.inside.steps) ∙ ap (λ (run : Run). option_map latest_of (find (is_by c.args.task.now) run)) c.self.view_is
