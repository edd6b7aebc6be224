use Rattle.std.proofs.Common.{◌≡◌, ◌++◌}
use Rattle.std.specs.List.{filter_map}
use Rattle.cics_picture.specs.contracts.page.notes.HeldOrd.TheImpl as resources
use Rattle.cics_picture.specs.Page.Tracked.{shown}
use Rattle.cics_picture.specs.Page.Views.{texts_told, owners_told, owner_change}
use Rattle.cics_picture.proofs.page.differences.push_owner_notes.Given as goal

-- no text is told, and the owners so far
abbrev pub invariant-loop-resource : goal.invariant-loop-resource
invariant-loop-resource l = record {
  silent : texts_told l.notes.items ≡ texts_told l.initial.notes.items;
  told : owners_told l.notes.items ≡ owners_told l.initial.notes.items ++ filter_map (owner_change (shown resources.ghosts.cmp l.held)) l.yielded;
}
