-- READNEXT and READPREV, by their direction.
use Rattle.cics_names.specs.Keyed.{Bytes, Map}
use Rattle.cics_browse.specs.declared.browses.Browsed.{Browsed}
use Rattle.cics_browse.specs.Positions.{Position, read_next, after_next, read_prev, after_prev}
use Rattle.cics_dispatch.specs.declared.machine.browses.Direction.{Direction}
use Rattle.cics_dispatch.specs.declared.machine.browses.Direction.TheVariants.{Forward, Back}

-- what the read gives
abbrev pub read_on : Direction → Map Bytes → Position → Browsed
read_on Forward records p = read_next records p
read_on Back records p = read_prev records p

-- the position after it
abbrev pub after_read_on : Direction → Map Bytes → Position → Position
after_read_on Forward records p = after_next records p
after_read_on Back records p = after_prev records p
