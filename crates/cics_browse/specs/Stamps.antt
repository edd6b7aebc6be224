-- The stamp of a position in a file.
use Rattle.std.specs.Prelude.{ℕ, List, ◌++◌}
use Rattle.cics_names.specs.Stamps.{number_stamp, flag_stamp, text_stamp}
use Rattle.cics_browse.specs.Positions.{Position}
use Rattle.cics_browse.specs.declared.browses.Move.{Move}
use Rattle.cics_browse.specs.declared.browses.Move.TheVariants.{Start, Forward, Back}

-- the number of a move: 0 at the start, 1 after a read forward, 2 after a read back
abbrev pub move_number : Move → ℕ
move_number Start = 0
move_number Forward = 1
move_number Back = 2

-- the stamp of a position is that of its key, of its last move, and of whether its start was generic
abbrev pub position_stamp : Position → List ℕ
position_stamp p = text_stamp p.key ++ (number_stamp (move_number p.last_move) ++ flag_stamp p.generic)
