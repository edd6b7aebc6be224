-- The browse of a file, lent to be moved.
use Rattle.std.specs.Prelude.{◌≡◌, Option, Some, None}
use Rattle.std.specs.Borrow.{LendsSo, MutBor, Fml}
use Rattle.cics_names.specs.Keyed.{Bytes, Map, value_at, with_value}
use Rattle.cics_browse.specs.Positions.{Position}
use Rattle.cics_browse.specs.contracts.browses.Browse.{the_row as the_browse_row}
use Rattle.cics_dispatch.specs.contracts.machine.browses.Browses.{the_row}

-- the browses, with that of a file moved to a position, if it is open
abbrev pub moved : Bytes → Position → Option Position → Map Position → Map Position
moved file p None browses = browses
moved file p (Some q) browses = with_value file p browses

-- after the loan the browses have the position that was left; if it is the old one, they are as
-- they were
pub record IsMoved (file : Bytes) (browses : Map Position) (p : Position) (left : Map Position) : Type 0 where
  pub moved : left ≡ moved file p (value_at file browses) browses
  pub same : value_at file browses ≡ Some p → left ≡ browses

-- a browse of a file is lent; without one the browses stay as they were
abbrev pub LendsBrowse : MutBor (Map Position) → Bytes → Option (MutBor Position) → Fml
LendsBrowse browses file lent =
    LendsSo the_row the_browse_row browses lent (λ left p. IsMoved file browses.now p left) (λ left. left ≡ browses.now)
