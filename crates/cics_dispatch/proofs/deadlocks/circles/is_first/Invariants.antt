use Rattle.std.proofs.Common.{◌≡◌, ◌&&◌, take, false, length}
use Rattle.std.specs.Prelude.{nat_lt, ◌==◌, slice_index}
use Rattle.std.specs.List.{list_any}
use Rattle.cics_dispatch.proofs.deadlocks.circles.is_first.Given as goal

-- none of those so far is less and has found as much
abbrev pub invariant-loop-other : goal.invariant-loop-other
invariant-loop-other l =
    list_any (λ f. nat_lt f.task l.first && (slice_index l.sizes f.task == length l.found)) (take l.other-index l.found) ≡ false
