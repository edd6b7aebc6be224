-- The stamp of the NEXT cursors.
use Rattle.std.specs.Prelude.{ℕ, List, ◌++◌}
use Rattle.cics_names.specs.Keyed.{Map}
use Rattle.cics_names.specs.Stamps.{number_stamp, text_stamp, list_stamp}

-- the stamp of NEXT cursors is, of each, that of its queue's name and of the cursor
abbrev pub places_stamp : Map ℕ → List ℕ
places_stamp places = list_stamp (λ p. text_stamp p.0 ++ number_stamp p.1) places
