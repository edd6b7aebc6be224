use Rattle.std.proofs.Common.{◌≡◌, ◌&&◌, take, false}
use Rattle.std.specs.List.{list_any}
use Rattle.std.specs.Map.{lookup}
use Rattle.cics_names.specs.Keyed.{is_same}
use Rattle.cics_enqueue.specs.Kept.{is_units}
use Rattle.cics_enqueue.specs.Under.{is_over}
use Rattle.cics_enqueue.proofs.under.has_over.Given as goal

-- none of the keys so far is the unit's and conflicts
abbrev pub invariant-loop-key : goal.invariant-loop-key
invariant-loop-key l =
    list_any (λ key. is_over l.front.start.now l.front.prefix.now key && is_units l.unit (lookup (is_same key) l.table.entries)) (take l.key-index l.keys) ≡ false
