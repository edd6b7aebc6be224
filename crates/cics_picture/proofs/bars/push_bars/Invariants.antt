use Rattle.std.proofs.Common.{◌≡◌, ◌++◌, take}
use Rattle.std.specs.List.{flat_map}
use Rattle.cics_picture.specs.Bars.{bar_text}
use Rattle.cics_picture.proofs.bars.push_bars.Given as goal

abbrev pub invariant-loop-bar : goal.invariant-loop-bar
invariant-loop-bar l = l.out.items ≡ l.fn.out.items ++ flat_map (bar_text l.fills) (take l.bar-index l.bars)
