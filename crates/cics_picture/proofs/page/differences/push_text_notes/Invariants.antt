use Rattle.std.proofs.Common.{◌≡◌, ◌++◌}
use Rattle.std.specs.List.{filter_map}
use Rattle.cics_picture.specs.contracts.page.notes.CellOrd.TheImpl as order
use Rattle.cics_picture.specs.Page.Tracked.{shown}
use Rattle.cics_picture.specs.Page.Views.{texts_told, text_change}
use Rattle.cics_picture.proofs.page.differences.push_text_notes.Given as goal

-- the cells so far are told
abbrev pub invariant-loop-cell : goal.invariant-loop-cell
invariant-loop-cell l = texts_told l.notes.items ≡ texts_told l.initial.notes.items ++ filter_map (text_change (shown order.ghosts.cmp l.texts)) l.yielded
