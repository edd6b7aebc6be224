use Rattle.std.proofs.Common.{List, ap, reverse, ◌∙◌}
use Rattle.std.specs.List.{find}
use Rattle.cics_run.specs.declared.reads.past.Mark.{Mark}
use Rattle.cics_run.specs.Reads.Past.{is_standing}
use Rattle.cics_run.proofs.OfReads.Keeping.{last_known}
use Rattle.cics_run.proofs.reads.past.Past.last.Goals as goal

pub returns-in-Some : goal.returns-in-Some
returns-in-Some c =
    c.newest.ensures ∙ ap (λ (ms : List Mark). find (is_standing c.args.self.now) (reverse ms)) c.as_slice.ensures
    ∙ last_known c.args.self.now c.args.cell.now _ _ c.in-Some.ensures.value c.self.invariant.by_cell c.self.view_is

pub returns-in-None : goal.returns-in-None
returns-in-None c = last_known c.args.self.now c.args.cell.now _ _ c.in-None.ensures.value c.self.invariant.by_cell c.self.view_is
