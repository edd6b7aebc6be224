-- Worked rows: what a browse answers from each position, computed. Keys and records are in EBCDIC.
use Rattle.std.proofs.Common.{◌≡◌, ℕ, true, false, List, [], ◌∷◌, Some, None, refl}
use Rattle.std.specs.Option.{unwrap_or}
use lib.Chars.{codes}
use Rattle.cics_names.specs.Ebcdic.{code_in, runs}
use Rattle.cics_names.specs.Keyed.{Bytes, Map, with_value, without}
use Rattle.cics_names.specs.declared.conditions.Condition.{Condition}
use Rattle.cics_names.specs.declared.conditions.Condition.TheVariants.{Normal, Notfnd, Invreq, Endfile}
use Rattle.cics_browse.specs.declared.browses.Browsed.{Browsed}
use Rattle.cics_browse.specs.declared.browses.Move.TheVariants.{Forward}
use Rattle.cics_browse.specs.Positions.{Position, finds_start, start_at, read_next, after_next, read_prev, after_prev, reset_condition, after_reset}

-- a text in EBCDIC
abbrev ebcdic : List ℕ → Bytes
ebcdic [] = []
ebcdic (c ∷ cs) = unwrap_or (code_in runs c) 0 ∷ ebcdic cs

-- a read that gives a record, and one that gives a condition alone
abbrev given : Bytes → Bytes → Browsed
given key content = record { condition = Normal; key = Some key; content = Some content }

abbrev none : Condition → Browsed
none condition = record { condition = condition; key = None; content = None }

abbrev high : Bytes
high = 255 ∷ 255 ∷ 255 ∷ 255 ∷ []

-- ---- three keys, written in the order of ASCII: EBCDIC has small letters before capitals before digits
abbrev a : Bytes
a = ebcdic (codes "a")

abbrev A : Bytes
A = ebcdic (codes "A")

abbrev zero : Bytes
zero = ebcdic (codes "0")

abbrev letters : Map Bytes
letters = with_value a a (with_value A A (with_value zero zero []))

abbrev from_low : Position
from_low = start_at (0 ∷ []) false

abbrev at_last : Position
at_last = after_next letters (after_next letters (after_next letters from_low))

row_forward : (read_next letters from_low ≡ given a a) × (read_next letters (after_next letters from_low) ≡ given A A)
    × (read_next letters (after_next letters (after_next letters from_low)) ≡ given zero zero) × (read_next letters at_last ≡ none Endfile)
row_forward = (refl, refl, refl, refl)

abbrev from_high : Position
from_high = start_at (255 ∷ []) false

row_back : (read_prev letters from_high ≡ given zero zero) × (read_prev letters (after_prev letters from_high) ≡ given A A)
    × (read_prev letters (after_prev letters (after_prev letters from_high)) ≡ given a a)
    × (read_prev letters (after_prev letters (after_prev letters (after_prev letters from_high))) ≡ none Endfile)
row_back = (refl, refl, refl, refl)

-- ENDFILE leaves the position, so a change of direction gives the last record again
row_endfile : (at_last ≡ record { key = zero; last_move = Forward; generic = false }) × (after_next letters at_last ≡ at_last) × (read_prev letters (after_next letters at_last) ≡ given zero zero)
row_endfile = (refl, refl, refl)

-- ---- accounts
abbrev first_key : Bytes
first_key = ebcdic (codes "0001")

abbrev second_key : Bytes
second_key = ebcdic (codes "0002")

abbrev third_key : Bytes
third_key = ebcdic (codes "0003")

abbrev first_account : Bytes
first_account = ebcdic (codes "0001aa")

abbrev second_account : Bytes
second_account = ebcdic (codes "0002bb")

abbrev third_account : Bytes
third_account = ebcdic (codes "0003cc")

abbrev two : Map Bytes
two = (first_key, first_account) ∷ (second_key, second_account) ∷ []

abbrev three : Map Bytes
three = with_value third_key third_account two

-- from the file's end: back, forward, ENDFILE, back twice, RESETBR, forward
abbrev at_end : Position
at_end = start_at high false

abbrev turned : Position
turned = after_next two (after_next two (after_prev two at_end))

row_from_end : (finds_start two high false false ≡ true) × (read_prev two at_end ≡ given second_key second_account)
    × (read_next two (after_prev two at_end) ≡ given second_key second_account) × (read_next two (after_next two (after_prev two at_end)) ≡ none Endfile)
    × (read_prev two turned ≡ given second_key second_account) × (read_prev two (after_prev two turned) ≡ given first_key first_account)
row_from_end = (refl, refl, refl, refl, refl, refl)

row_reset : (reset_condition two second_key false false ≡ Normal) × (after_reset two turned second_key false false ≡ start_at second_key false)
    × (read_next two (after_reset two turned second_key false false) ≡ given second_key second_account)
row_reset = (refl, refl, refl)

-- a RESETBR that finds nothing leaves the position
row_reset_absent : (reset_condition two third_key false false ≡ Notfnd) × (after_reset two turned third_key false false ≡ turned)
row_reset_absent = (refl, refl)

-- a record that is deleted is passed over, and come back it is found
abbrev without_second : Map Bytes
without_second = without second_key three

abbrev at_third : Position
at_third = after_next without_second (after_next three (start_at first_key false))

row_come_back : (read_next three (start_at first_key false) ≡ given first_key first_account)
    × (read_next without_second (after_next three (start_at first_key false)) ≡ given third_key third_account)
    × (read_prev three at_third ≡ given third_key third_account) × (read_prev three (after_prev three at_third) ≡ given second_key second_account)
row_come_back = (refl, refl, refl, refl)

-- a change of direction gives the same record, or where it has gone the next one in the new direction
abbrev at_second : Position
at_second = after_next three (start_at second_key false)

row_turned : (read_prev three at_second ≡ given second_key second_account) × (read_prev without_second at_second ≡ given first_key first_account)
    × (read_next three (after_prev three at_second) ≡ given second_key second_account) × (read_next without_second (after_prev three at_second) ≡ given third_key third_account)
row_turned = (refl, refl, refl, refl)

-- ---- GENERIC
abbrev prefix : Bytes
prefix = ebcdic (codes "000")

row_generic : (finds_start two prefix true true ≡ true) × (read_prev two (start_at prefix true) ≡ none Invreq) × (after_prev two (start_at prefix true) ≡ start_at prefix true)
    × (read_next two (start_at prefix true) ≡ given first_key first_account)
row_generic = (refl, refl, refl, refl)

-- READPREV stays INVREQ at the keys read since, and the next record may be gone and come back
abbrev generic_first : Position
generic_first = after_next two (start_at prefix true)

row_generic_on : (read_prev two generic_first ≡ none Invreq) × (read_next (without second_key two) generic_first ≡ none Endfile)
    × (read_next two (after_next (without second_key two) generic_first) ≡ given second_key second_account)
row_generic_on = (refl, refl, refl)

-- the prefix bounds the start alone: reading goes on past it
row_generic_past : (finds_start two first_key true true ≡ true) × (read_next two (after_next two (start_at first_key true)) ≡ given second_key second_account)
row_generic_past = (refl, refl)

-- ---- where nothing is found
-- EQUAL asks for the key itself, and else any key that isn't below it will do
row_start : (finds_start two first_key false true ≡ true) × (finds_start two prefix false true ≡ false) × (finds_start two prefix false false ≡ true) × (finds_start two third_key false false ≡ false)
row_start = (refl, refl, refl, refl)

-- READPREV from a key that isn't there is NOTFND, also where lower keys are
row_absent : (read_prev (without second_key three) (start_at second_key false) ≡ none Notfnd)
    × (after_prev (without second_key three) (start_at second_key false) ≡ start_at second_key false) × (read_prev three (start_at second_key false) ≡ given second_key second_account)
row_absent = (refl, refl, refl)

-- the file's end is found in an empty file too, but not with EQUAL and not as a prefix; there is nothing to read
row_empty : (finds_start [] high false false ≡ true) × (finds_start [] high false true ≡ false) × (finds_start [] high true false ≡ false) × (finds_start [] first_key false false ≡ false)
    × (read_prev [] at_end ≡ none Endfile) × (read_next [] at_end ≡ none Endfile)
row_empty = (refl, refl, refl, refl, refl, refl)

-- a record under the highest key is read from the file's end in both directions
row_highest : (read_next (with_value high high two) at_end ≡ given high high) × (read_prev (with_value high high two) at_end ≡ given high high)
row_highest = (refl, refl)
