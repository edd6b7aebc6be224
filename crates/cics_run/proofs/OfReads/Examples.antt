-- Worked runs, and what is found in them.
use Rattle.std.specs.Prelude.{◌≡◌, ℕ, true, false, List, [], ◌∷◌, codes, refl}
use Rattle.std.specs.List.{fold}
use Rattle.std.specs.Fmt.{digits}
use Rattle.cics_names.specs.Ebcdic.{character_of}
use Rattle.cics_names.specs.Keyed.{Bytes}
use Rattle.cics_run.specs.declared.reads.steps.Cell.TheVariants.{Record}
use Rattle.cics_run.specs.declared.reads.steps.Bound.TheVariants.{In}
use Rattle.cics_run.specs.declared.reads.steps.Spot.TheVariants.{Keys}
use Rattle.cics_run.specs.declared.reads.steps.Act.{Act}
use Rattle.cics_run.specs.declared.reads.steps.Act.TheVariants.{Look, LookForUpdate, Change, End}
use Rattle.cics_run.specs.Reads.Runs.{with_step}
use Rattle.cics_run.specs.Reads.Text.{findings_text}
use Rattle.cics_run.specs.Reads.Written.{findings}

-- two tasks
abbrev t1 : Bytes
t1 = 0xE3 ∷ 0xF1 ∷ []

abbrev t2 : Bytes
t2 = 0xE3 ∷ 0xF2 ∷ []

-- a file, and three of its keys
abbrev file : Bytes
file = 0xC6 ∷ []

abbrev k0 : Bytes
k0 = 0xF0 ∷ []

abbrev k1 : Bytes
k1 = 0xF1 ∷ []

abbrev k2 : Bytes
k2 = 0xF2 ∷ []

-- a look at the keys from one to another
abbrev browse : Bytes → Bytes → Act
browse from to = Look (Keys file (In from) (In to))

-- READ
abbrev look : Bytes → Act
look k = browse k k

-- READ UPDATE
abbrev update : Bytes → Act
update k = LookForUpdate file k

-- REWRITE or DELETE
abbrev change : Bytes → Act
change k = Change (record { cells = Record file k ∷ []; adds = false; lasts = false })

-- WRITE
abbrev adding : Bytes → Act
adding k = Change (record { cells = Record file k ∷ []; adds = true; lasts = false })

-- SYNCPOINT
abbrev commit : Act
commit = End true

-- SYNCPOINT ROLLBACK
abbrev rollback : Act
rollback = End false

-- what is told of a list of lines
abbrev told : List (ℕ × Bytes × Act) → List ℕ
told lines = findings_text false (findings (fold (λ run l. with_step run l.0 l.1 l.2) [] lines))

-- a read sees an open change, which is committed
run_1 : told ((6, t1, update k1) ∷ (7, t1, change k1) ∷ (8, t2, look k1) ∷ (9, t1, commit) ∷ []) ≡ codes "DIRTY READ LINE 8 T2 SAW LINE 7 T1 COMMITTED\n"
unfolding digits character_of
run_1 = refl

-- which is backed out
run_2 : told ((6, t1, update k1) ∷ (7, t1, change k1) ∷ (8, t2, look k1) ∷ (9, t1, rollback) ∷ []) ≡ codes "DIRTY READ LINE 8 T2 SAW LINE 7 T1 BACKED OUT\n"
unfolding digits character_of
run_2 = refl

-- which is open at the end
run_3 : told ((6, t1, update k1) ∷ (7, t1, change k1) ∷ (8, t2, look k1) ∷ []) ≡ codes "DIRTY READ LINE 8 T2 SAW LINE 7 T1 OPEN\n"
unfolding digits character_of
run_3 = refl

-- a browse passes over a record whose deletion is open
run_4 : told ((7, t1, change k1) ∷ (8, t2, browse k0 k2) ∷ (9, t1, commit) ∷ []) ≡ codes "DIRTY READ LINE 8 T2 SAW LINE 7 T1 COMMITTED\n"
unfolding digits character_of
run_4 = refl

-- two tasks read a record and rewrite it
run_5 : told ((6, t2, look k1) ∷ (7, t1, update k1) ∷ (8, t1, change k1) ∷ (9, t1, commit) ∷ (10, t2, update k1) ∷ (11, t2, change k1) ∷ []) ≡ codes "LOST UPDATE LINE 6 T2 MISSED LINE 8 T1 AND LINE 11 T2 REPLACED LINE 8 T1\n"
unfolding digits character_of
run_5 = refl

-- the second reads it only for update
run_6 : told ((7, t1, update k1) ∷ (8, t1, change k1) ∷ (9, t1, commit) ∷ (10, t2, update k1) ∷ (11, t2, change k1) ∷ []) ≡ []
unfolding digits character_of
run_6 = refl

-- an update is lost across a SYNCPOINT
run_7 : told ((6, t1, look k1) ∷ (7, t1, commit) ∷ (8, t2, update k1) ∷ (9, t2, change k1) ∷ (10, t2, commit) ∷ (11, t1, update k1) ∷ (12, t1, change k1) ∷ []) ≡ codes "LOST UPDATE LINE 6 T1 MISSED LINE 9 T2 AND LINE 12 T1 REPLACED LINE 9 T2\n"
unfolding digits character_of
run_7 = refl

-- a turn reads a record before and after a change
run_8 : told ((6, t2, look k1) ∷ (7, t1, update k1) ∷ (8, t1, change k1) ∷ (9, t1, commit) ∷ (10, t2, look k1) ∷ (11, t2, update k1) ∷ (12, t2, change k1) ∷ []) ≡ codes "READ SKEW LINE 6 T2 MISSED LINE 8 T1 AND LINE 10 T2 SAW LINE 8 T1\n"
unfolding digits character_of
run_8 = refl

-- a turn reads one record before a unit changes two, and the other one after it
run_9 : told ((6, t2, look k1) ∷ (7, t1, update k1) ∷ (8, t1, change k1) ∷ (9, t1, update k2) ∷ (10, t1, change k2) ∷ (11, t1, commit) ∷ (12, t2, look k2) ∷ []) ≡ codes "READ SKEW LINE 6 T2 MISSED LINE 8 T1 AND LINE 12 T2 SAW LINE 10 T1\n"
unfolding digits character_of
run_9 = refl

-- the same by two turns
run_10 : told ((6, t2, look k1) ∷ (7, t1, update k1) ∷ (8, t1, change k1) ∷ (9, t1, update k2) ∷ (10, t1, change k2) ∷ (11, t1, commit) ∷ (12, t2, commit) ∷ (13, t2, look k2) ∷ []) ≡ []
unfolding digits character_of
run_10 = refl

-- two turns change what the other one only looked at
run_11 : told ((6, t1, look k2) ∷ (7, t2, look k1) ∷ (8, t1, update k1) ∷ (9, t1, change k1) ∷ (10, t1, commit) ∷ (11, t2, update k2) ∷ (12, t2, change k2) ∷ []) ≡ codes "WRITE SKEW LINE 6 T1 MISSED LINE 12 T2 AND LINE 7 T2 MISSED LINE 9 T1\n"
unfolding digits character_of
run_11 = refl

-- one of them looked at a record that wasn't there
run_12 : told ((6, t1, look k1) ∷ (7, t2, browse k2 k2) ∷ (8, t1, adding k2) ∷ (9, t1, commit) ∷ (10, t2, change k1) ∷ []) ≡ codes "WRITE SKEW LINE 6 T1 MISSED LINE 10 T2 AND LINE 7 T2 MISSED LINE 8 T1\n"
unfolding digits character_of
run_12 = refl
