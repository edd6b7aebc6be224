-- Worked replays of traces that no run of units makes. In most of them a unit sees what an open or a
-- backed-out unit did to something recoverable. `plain_replay` returns such a listing for any trace.
use Rattle.std.specs.Prelude.{◌≡◌, ℕ, Bool, true, false, List, [], ◌∷◌, refl}
use Rattle.cics_names.specs.Keyed.{Bytes}
use Rattle.cics_names.specs.declared.conditions.Condition.TheVariants.{Normal}
use Rattle.cics_ksds.specs.declared.definition.FileDef.{FileDef}
use Rattle.cics_transdata.specs.declared.queues.Recovery.{Recovery}
use Rattle.cics_transdata.specs.declared.queues.Recovery.TheVariants.{Logical, Physical}
use Rattle.cics_transdata.specs.declared.queues.Recovery.TheVariants.{Unrecovered}
use Rattle.cics_history.specs.State.{OpeningState}
use Rattle.cics_history.specs.Openings.{initial_opening, with_file, with_record}
use Rattle.cics_history.specs.Openings.{with_queue, with_prefix, with_td_record}
use Rattle.cics_history.specs.Store.{only}
use Rattle.cics_history.specs.declared.ops.Entry.{Entry}
use Rattle.cics_history.specs.declared.ops.Op.{Op}
use Rattle.cics_history.specs.declared.ops.Op.TheVariants.{Write, Rewrite, Delete, ReadUpdate}
use Rattle.cics_history.specs.declared.ops.Op.TheVariants.{TsWrite, TsRewrite, TsDelete}
use Rattle.cics_history.specs.declared.ops.Op.TheVariants.{TdWrite, TdRead, TdDelete}
use Rattle.cics_history.specs.declared.ops.UnitState.{UnitState}
use Rattle.cics_history.specs.declared.ops.UnitState.TheVariants.{Open, Committed, BackedOut}
use Rattle.cics_units.specs.Replay.Listings.{replayed_listing}
use lib.Chars.{codes}

abbrev does : ℕ → Op → Entry
does unit op = record { unit = unit; op = op; answer = only Normal }

-- how two units ended
abbrev ended : UnitState → UnitState → List UnitState
ended first second = first ∷ second ∷ []

-- ---- Temporary storage: the prefix is PAY

abbrev pay : Bytes
pay = 0xD7 ∷ 0xC1 ∷ 0xE8 ∷ 0x40 ∷ 0x40 ∷ 0x40 ∷ 0x40 ∷ 0x40 ∷ []

abbrev payroll : Bytes
payroll = 0xD7 ∷ 0xC1 ∷ 0xE8 ∷ 0xD9 ∷ 0xD6 ∷ 0xD3 ∷ 0xD3 ∷ 0x40 ∷ []

abbrev pa : Bytes
pa = 0xD7 ∷ 0xC1 ∷ 0x40 ∷ 0x40 ∷ 0x40 ∷ 0x40 ∷ 0x40 ∷ 0x40 ∷ []

abbrev xpay : Bytes
xpay = 0xE7 ∷ 0xD7 ∷ 0xC1 ∷ 0xE8 ∷ 0x40 ∷ 0x40 ∷ 0x40 ∷ 0x40 ∷ []

abbrev one : Bytes
one = codes "one"

abbrev two : Bytes
two = codes "two"

abbrev new : Bytes
new = codes "new"

abbrev Queues : Type 0
Queues = List (Bytes × Bool × List Bytes)

-- what the trace of a list of entries leaves of queues
abbrev queues : List Entry → List UnitState → Queues
queues trace outcomes =
    (replayed_listing (with_prefix initial_opening pay) trace outcomes).ts

-- two units write to recoverable queues and to others, one of which is shorter than the prefix
abbrev items : List Entry
items =
    does 0 (TsWrite payroll one)
    ∷ does 0 (TsWrite pay one)
    ∷ does 0 (TsWrite pa one)
    ∷ does 1 (TsWrite payroll two)
    ∷ does 1 (TsWrite pa two)
    ∷ does 1 (TsRewrite payroll 1 new)
    ∷ does 1 (TsRewrite pa 1 new)
    ∷ does 1 (TsWrite xpay one)
    ∷ []

-- the queues that aren't recoverable, with these recoverable ones between them
abbrev between : Queues → Queues
between [] = (pa, false, new ∷ two ∷ []) ∷ (xpay, false, one ∷ []) ∷ []
between (q ∷ []) = (pa, false, new ∷ two ∷ []) ∷ q ∷ (xpay, false, one ∷ []) ∷ []
between (q ∷ r ∷ _) = (pa, false, new ∷ two ∷ []) ∷ q ∷ r ∷ (xpay, false, one ∷ []) ∷ []

abbrev both_units : Queues
both_units = between ((pay, true, one ∷ []) ∷ (payroll, true, new ∷ two ∷ []) ∷ [])

abbrev first_unit : Queues
first_unit = between ((pay, true, one ∷ []) ∷ (payroll, true, one ∷ []) ∷ [])

items_stay :
    (queues items (ended Committed Committed) ≡ both_units)
    × (queues items (Open ∷ []) ≡ both_units)
items_stay = (refl, refl)

second_backed_out :
    (queues items (ended Committed BackedOut) ≡ first_unit)
    × (queues items (ended Open BackedOut) ≡ first_unit)
second_backed_out = (refl, refl)

first_backed_out :
    queues items (ended BackedOut Open) ≡ between ((payroll, true, new ∷ []) ∷ [])
first_backed_out = refl

both_backed_out : queues items (ended BackedOut BackedOut) ≡ between []
both_backed_out = refl

-- a unit takes queues away that another has made
abbrev taken_away : List Entry
taken_away =
    does 0 (TsWrite payroll one)
    ∷ does 0 (TsWrite xpay one)
    ∷ does 1 (TsDelete payroll)
    ∷ does 1 (TsDelete xpay)
    ∷ []

both_gone :
    (queues taken_away (ended Committed Committed) ≡ [])
    × (queues taken_away (ended Open Open) ≡ [])
    × (queues taken_away (ended BackedOut BackedOut) ≡ [])
both_gone = (refl, refl, refl)

there_again :
    queues taken_away (ended Committed BackedOut) ≡ (payroll, true, one ∷ []) ∷ []
there_again = refl

-- ---- Transient data: a queue of each recovery, with two records

abbrev outq : Bytes
outq = codes "OUTQ"

abbrev payq : Bytes
payq = codes "PAYQ"

abbrev phyq : Bytes
phyq = codes "PHYQ"

abbrev a : Bytes
a = codes "a"

abbrev b : Bytes
b = codes "b"

abbrev c : Bytes
c = codes "c"

abbrev d : Bytes
d = codes "d"

abbrev with_two : OpeningState → Bytes → Recovery → OpeningState
with_two o q recovery = with_td_record (with_td_record (with_queue o q recovery) q b) q a

abbrev queued : OpeningState
queued = with_two (with_two (with_two initial_opening phyq Physical) payq Logical) outq Unrecovered

-- a unit does the same to each queue
abbrev each : ℕ → (Bytes → Op) → List Entry → List Entry
each unit op rest = does unit (op outq) ∷ does unit (op payq) ∷ does unit (op phyq) ∷ rest

-- what the LOGICAL queue has, and what the two others have
abbrev Left : List Entry → List UnitState → List Bytes → List Bytes → Type 0
Left trace outcomes logical others =
    (replayed_listing queued trace outcomes).td
    ≡ (outq, Unrecovered, others) ∷ (payq, Logical, logical) ∷ (phyq, Physical, others) ∷ []

-- nothing was executed
as_loaded : Left [] [] (b ∷ a ∷ []) (b ∷ a ∷ [])
as_loaded = refl

-- a unit writes to each queue, and another reads from each
abbrev read : List Entry
read = each 0 (λ q. TdWrite q c) (each 1 TdRead [])

reader_stays :
    Left read (ended Committed Committed) (a ∷ c ∷ []) (a ∷ c ∷ [])
    × Left read [] (a ∷ c ∷ []) (a ∷ c ∷ [])
reader_stays = (refl, refl)

reader_goes :
    Left read (ended Committed BackedOut) (b ∷ a ∷ c ∷ []) (a ∷ c ∷ [])
    × Left read (ended Open BackedOut) (b ∷ a ∷ c ∷ []) (a ∷ c ∷ [])
reader_goes = (refl, refl)

writer_goes :
    Left read (ended BackedOut Committed) (a ∷ []) (a ∷ c ∷ [])
    × Left read (ended BackedOut BackedOut) (b ∷ a ∷ []) (a ∷ c ∷ [])
writer_goes = (refl, refl)

-- a unit takes all records of each queue away, and another writes on
abbrev emptied : List Entry
emptied = each 1 (λ q. TdWrite q c) (each 0 TdDelete (each 1 (λ q. TdWrite q d) []))

emptied_stays :
    Left emptied (ended Committed Committed) (d ∷ []) (d ∷ [])
    × Left emptied (Open ∷ []) (d ∷ []) (d ∷ [])
emptied_stays = (refl, refl)

emptied_goes :
    Left emptied (ended BackedOut Open) (b ∷ a ∷ c ∷ d ∷ []) (d ∷ [])
    × Left emptied (ended BackedOut BackedOut) (b ∷ a ∷ []) (d ∷ [])
emptied_goes = (refl, refl)

-- more reads than there are records, and a record behind them
abbrev read_thrice : List Entry
read_thrice = each 0 TdRead (each 0 TdRead (each 0 TdRead (each 1 (λ q. TdWrite q c) [])))

nothing_taken :
    Left read_thrice (ended Committed Committed) (c ∷ []) (c ∷ [])
    × Left read_thrice (ended Committed BackedOut) [] (c ∷ [])
nothing_taken = (refl, refl)

all_back : Left read_thrice (ended BackedOut Committed) (b ∷ a ∷ c ∷ []) (c ∷ [])
all_back = refl

-- ---- Files: a recoverable and an unrecoverable one, each with one record

abbrev acct : Bytes
acct = codes "ACCT"

abbrev log : Bytes
log = codes "LOG"

abbrev definition : Bool → FileDef
definition recoverable =
    record { key_length = 2; key_offset = 0; record_size = 10; recoverable = recoverable }

abbrev with_old : OpeningState → Bytes → Bool → OpeningState
with_old o f recoverable = with_record (with_file o f (definition recoverable)) f (codes "k1 old")

abbrev filed : OpeningState
filed = with_old (with_old initial_opening acct true) log false

-- what the recoverable file has, and what the other one has
abbrev Records : List Entry → List UnitState → List Bytes → List Bytes → Type 0
Records trace outcomes accounts entries =
    (replayed_listing filed trace outcomes).files
    ≡ (acct, true, accounts) ∷ (log, false, entries) ∷ []

-- two units that change both files and a queue in turn
abbrev in_turn : List Entry
in_turn =
    does 0 (Write acct (codes "k2") (codes "k2 zero"))
    ∷ does 1 (Rewrite acct (codes "k1") (codes "k1 one"))
    ∷ does 1 (Write log (codes "k2") (codes "k2 one"))
    ∷ does 0 (Write log (codes "k3") (codes "k3 zero"))
    ∷ does 1 (Delete acct (codes "k2"))
    ∷ does 1 (TsWrite xpay one)
    ∷ does 1 (Write acct (codes "k4") (codes "k4 one"))
    ∷ []

abbrev by_the_second : List Bytes
by_the_second = codes "k1 one" ∷ codes "k4 one" ∷ []

abbrev by_the_first : List Bytes
by_the_first = codes "k1 old" ∷ codes "k2 zero" ∷ []

abbrev entries : List Bytes
entries = codes "k1 old" ∷ codes "k2 one" ∷ codes "k3 zero" ∷ []

both_stay :
    Records in_turn (ended Committed Committed) by_the_second entries
    × Records in_turn (ended Committed Open) by_the_second entries
    × Records in_turn (Open ∷ []) by_the_second entries
both_stay = (refl, refl, refl)

-- without the first unit's record the second one's DELETE is NOTFND
first_goes : Records in_turn (ended BackedOut Committed) by_the_second entries
first_goes = refl

second_goes :
    Records in_turn (ended Committed BackedOut) by_the_first entries
    × Records in_turn (ended Open BackedOut) by_the_first entries
second_goes = (refl, refl)

both_go : Records in_turn (ended BackedOut BackedOut) (codes "k1 old" ∷ []) entries
both_go = refl

queue_stays :
    (replayed_listing filed in_turn (ended BackedOut BackedOut)).ts ≡ (xpay, false, one ∷ []) ∷ []
queue_stays = refl

-- commands that are refused leave everything as it was; the unit never began
abbrev refused : List Entry
refused =
    does 7 (Write acct (codes "k1") (codes "k1 new"))
    ∷ does 7 (Rewrite acct (codes "k2") (codes "k2 new"))
    ∷ does 7 (Delete acct (codes "k3"))
    ∷ does 7 (Write payq (codes "k1") (codes "k1 new"))
    ∷ does 7 (ReadUpdate acct (codes "k1"))
    ∷ does 7 (TsDelete xpay)
    ∷ does 7 (TdWrite payq c)
    ∷ does 7 (TdRead payq)
    ∷ does 7 (TdDelete payq)
    ∷ []

as_it_was : replayed_listing filed refused [] ≡ replayed_listing filed [] []
as_it_was = refl

-- a key counts that isn't in its record
abbrev stored : List Entry
stored = does 0 (Write log (codes "k3") a) ∷ does 0 (Write log (codes "k") b) ∷ []

key_counts :
    Records stored (BackedOut ∷ []) (codes "k1 old" ∷ []) (b ∷ codes "k1 old" ∷ a ∷ [])
key_counts = refl
