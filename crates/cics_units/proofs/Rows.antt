-- Worked examples of update reads and of listings, computed from the definitions.
use Rattle.std.specs.Prelude.{◌≡◌, true, false, None, List, [], ◌∷◌, ◌++◌, refl}
use Rattle.cics_transdata.specs.declared.queues.Recovery.TheVariants.{Logical}
use Rattle.cics_history.specs.State.{UpdateRead}
use Rattle.cics_history.specs.Holding.{store_of}
use Rattle.cics_history.specs.Execution.{after_execution, read_at, with_read}
use Rattle.cics_history.specs.declared.ops.Op.TheVariants.{TsWrite}
use Rattle.cics_history.proofs.Rows.{acct, log, rq, tdq1, k1, k2, defined, written_2}
use Rattle.cics_units.specs.OpenReads.{reads_of, reads_from, is_read_key}
use Rattle.cics_units.specs.Replay.Listings.{listing_of}
use lib.Chars.{codes}

-- ---- Update reads

-- unit 0 has read a log entry, and unit 7 a record of each file; the files of a unit are in the
-- order of their names
abbrev reads_open : List UpdateRead
reads_open = reads_of 0 ((log, k1) ∷ []) ++ reads_of 7 ((acct, k2) ∷ (log, k1) ∷ [])

one_more_read : with_read (record { unit = 0; file = acct; key = k1 }) reads_open ≡ reads_of 0 ((acct, k1) ∷ (log, k1) ∷ []) ++ reads_of 7 ((acct, k2) ∷ (log, k1) ∷ [])
one_more_read = refl

-- a read is of one key
read_is_of : (is_read_key (read_at reads_open 7 acct) k2 ≡ true) × (is_read_key (read_at reads_open 7 acct) k1 ≡ false) × (is_read_key (read_at reads_open 0 acct) k2 ≡ false)
read_is_of = (refl, refl, refl)

-- the rows of the units show their reads one after the other, and an empty row none
rows_shown : reads_from 0 (((log, k1) ∷ []) ∷ [] ∷ ((acct, k2) ∷ []) ∷ []) ≡ reads_of 0 ((log, k1) ∷ []) ++ reads_of 2 ((acct, k2) ∷ [])
rows_shown = refl

-- ---- Listings

listed : listing_of defined (store_of (after_execution written_2 None (TsWrite rq (codes "one")))) ≡ record {
  files = (acct, true, codes "0001aa" ∷ []) ∷ (log, false, []) ∷ [];
  ts = (rq, true, codes "one" ∷ []) ∷ [];
  td = (tdq1, Logical, codes "r2" ∷ []) ∷ [];
  tasks = [];
}
listed = refl
