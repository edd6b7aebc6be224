use Rattle.std.proofs.Common.{◌≡◌, ◌+◌, drop}
use Rattle.std.specs.List.{find}
use Rattle.cics_run.specs.Reads.Skews.{missed, missed_by, first_or, first_pair}
use Rattle.cics_run.proofs.reads.skews.first_missed.Given as goal

abbrev pub invariant-loop-look : goal.invariant-loop-look
invariant-loop-look l = first_pair (missed_by l.past l.turns) (drop l.look-index l.look-items) ≡ first_pair (missed_by l.past l.turns) l.look-items

abbrev pub invariant-loop-change : goal.invariant-loop-change
invariant-loop-change l =
    first_or l.look (find (missed l.past l.turns l.look) (drop l.change-index l.change-items)) (first_pair (missed_by l.past l.turns) (drop (l.look-index + 1) l.look-items))
    ≡ first_pair (missed_by l.past l.turns) l.look-items
