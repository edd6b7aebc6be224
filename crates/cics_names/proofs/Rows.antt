-- Worked rows: what the tables, the names and the maps by key answer, computed.
use Rattle.std.proofs.Common.{◌≡◌, ℕ, List, [], ◌∷◌, Option, Some, None, true, false, refl}
use Rattle.std.specs.Prelude.{Ok, Err, map, option_map}
use Rattle.cics_names.specs.declared.names.NameFault.TheVariants.{Empty, TooLong, BadCharacter}
use Rattle.cics_names.specs.declared.conditions.Condition.{Condition}
use Rattle.cics_names.specs.declared.conditions.Condition.TheVariants.{Normal, Dsiderr, Notfnd, Duprec, Invreq, Endfile, Lengerr, Qzero, Qbusy, Itemerr, Qiderr, Enqbusy}
use Rattle.cics_names.specs.declared.conditions.AbendCode.{AbendCode}
use Rattle.cics_names.specs.Ebcdic.{code_of, character_of, codes_of}
use Rattle.cics_names.specs.Names.{name_of}
use Rattle.cics_names.specs.Conditions.{number_of, default_abend_of}
use Rattle.cics_names.specs.Keyed.{Map, is_below, is_same, value_at, has_key, with_value, without, is_rising, with_key, without_key, is_key_in}
use lib.Chars.{codes}

-- the characters have these codes, and the codes these characters
abbrev Match : List ℕ → List ℕ → Type 0
Match characters bytes = (codes_of characters ≡ Some bytes) × (map character_of bytes ≡ map Some characters)

-- the first and the last of each run of letters and digits
row_small_letters : Match (codes "aijrsz") (0x81 ∷ 0x89 ∷ 0x91 ∷ 0x99 ∷ 0xA2 ∷ 0xA9 ∷ [])
unfolding code_of character_of
row_small_letters = (refl, refl)

row_capitals : Match (codes "AIJRSZ") (0xC1 ∷ 0xC9 ∷ 0xD1 ∷ 0xD9 ∷ 0xE2 ∷ 0xE9 ∷ [])
unfolding code_of character_of
row_capitals = (refl, refl)

row_digits : Match (codes "09") (0xF0 ∷ 0xF9 ∷ [])
unfolding code_of character_of
row_digits = (refl, refl)

-- the blank, and each sign
row_signs : Match (codes " .<(+&$*);-/,%_>?:#@'=") (0x40 ∷ 0x4B ∷ 0x4C ∷ 0x4D ∷ 0x4E ∷ 0x50 ∷ 0x5B ∷ 0x5C ∷ 0x5D ∷ 0x5E ∷ 0x60 ∷ 0x61 ∷ 0x6B ∷ 0x6C ∷ 0x6D ∷ 0x6E ∷ 0x6F ∷ 0x7A ∷ 0x7B ∷ 0x7C ∷ 0x7D ∷ 0x7E ∷ [])
unfolding code_of character_of
row_signs = (refl, refl)

row_quotation_mark : Match (34 ∷ []) (0x7F ∷ [])
unfolding code_of character_of
row_quotation_mark = (refl, refl)

-- bytes beside the runs are the code of no character
row_no_character : map character_of (0x00 ∷ 0x3F ∷ 0x41 ∷ 0x4A ∷ 0x4F ∷ 0x51 ∷ 0x80 ∷ 0x8A ∷ 0x90 ∷ 0xA1 ∷ 0xAA ∷ 0xC0 ∷ 0xCA ∷ 0xE1 ∷ 0xEA ∷ 0xFA ∷ 0xFF ∷ [])
    ≡ None ∷ None ∷ None ∷ None ∷ None ∷ None ∷ None ∷ None ∷ None ∷ None ∷ None ∷ None ∷ None ∷ None ∷ None ∷ None ∷ None ∷ []
unfolding character_of
row_no_character = refl

-- an exclamation mark, a bracket, a tab and a letter beyond ASCII have no code
row_no_code : map code_of (33 ∷ 91 ∷ 9 ∷ 233 ∷ []) ≡ None ∷ None ∷ None ∷ None ∷ []
unfolding code_of
row_no_code = refl

-- spellings that are filled up to the same bytes
row_filled_up : (name_of 8 (codes "AB") ≡ Ok (0xC1 ∷ 0xC2 ∷ 0x40 ∷ 0x40 ∷ 0x40 ∷ 0x40 ∷ 0x40 ∷ 0x40 ∷ [])) × (name_of 8 (codes "AB") ≡ name_of 8 (codes "AB      "))
unfolding code_of
row_filled_up = (refl, refl)

-- a leading blank stays
row_leading_blank : name_of 4 (codes " A") ≡ Ok (0x40 ∷ 0xC1 ∷ 0x40 ∷ 0x40 ∷ [])
unfolding code_of
row_leading_blank = refl

-- as many characters as the name has bytes
row_full_width : name_of 4 (codes "TDQ1") ≡ Ok (0xE3 ∷ 0xC4 ∷ 0xD8 ∷ 0xF1 ∷ [])
unfolding code_of
row_full_width = refl

-- too long: trailing blanks count, and this is found before a bad character or that all is blank
row_too_long : (name_of 4 (codes "A    ") ≡ Err TooLong) × (name_of 4 (codes "ABC!E") ≡ Err TooLong) × (name_of 4 (codes "     ") ≡ Err TooLong)
row_too_long = (refl, refl, refl)

-- a bad character is found before that all others are blank
row_bad_character : (name_of 4 (codes "A!") ≡ Err BadCharacter) × (name_of 4 (codes "  ! ") ≡ Err BadCharacter)
unfolding code_of
row_bad_character = (refl, refl)

row_empty : (name_of 4 [] ≡ Err Empty) × (name_of 4 (codes "    ") ≡ Err Empty)
unfolding code_of
row_empty = (refl, refl)

abbrev conditions : List Condition
conditions = Normal ∷ Dsiderr ∷ Notfnd ∷ Duprec ∷ Invreq ∷ Endfile ∷ Lengerr ∷ Qzero ∷ Qbusy ∷ Itemerr ∷ Qiderr ∷ Enqbusy ∷ []

row_numbers : map number_of conditions ≡ 0 ∷ 12 ∷ 13 ∷ 14 ∷ 16 ∷ 20 ∷ 22 ∷ 23 ∷ 25 ∷ 26 ∷ 44 ∷ 55 ∷ []
row_numbers = refl

-- the abend code that these letters write
abbrev abend : List ℕ → Option AbendCode
abend letters = option_map (λ bytes. record { 0 = bytes }) (codes_of letters)

row_abends : map default_abend_of conditions ≡
    None ∷ abend (codes "AEIL") ∷ abend (codes "AEIM") ∷ abend (codes "AEIN") ∷ abend (codes "AEIP") ∷ abend (codes "AEIT") ∷ abend (codes "AEIV") ∷ abend (codes "AEIW")
    ∷ None ∷ abend (codes "AEIZ") ∷ abend (codes "AEYH") ∷ None ∷ []
unfolding code_of
row_abends = refl

-- bytes compare as unsigned, the first that differs deciding, and a beginning is below what goes on
row_below : (is_below (0x7F ∷ []) (0x80 ∷ []) ≡ true) × (is_below (1 ∷ 9 ∷ []) (2 ∷ []) ≡ true) × (is_below (1 ∷ []) (1 ∷ 0 ∷ []) ≡ true) × (is_below (1 ∷ []) (1 ∷ []) ≡ false)
row_below = (refl, refl, refl, refl)

row_same : (is_same (1 ∷ 2 ∷ []) (1 ∷ 2 ∷ []) ≡ true) × (is_same (1 ∷ 2 ∷ []) (1 ∷ []) ≡ false)
row_same = (refl, refl)

-- a map of three keys, made out of their order
abbrev three : Map ℕ
three = with_value (codes "2") 20 (with_value (codes "3") 30 (with_value (codes "1") 10 []))

row_in_key_order : three ≡ (codes "1", 10) ∷ (codes "2", 20) ∷ (codes "3", 30) ∷ []
row_in_key_order = refl

abbrev falling : Map ℕ
falling = (codes "2", 20) ∷ (codes "1", 10) ∷ []

abbrev twice : Map ℕ
twice = (codes "1", 10) ∷ (codes "1", 10) ∷ []

row_rising : (is_rising three ≡ true) × (is_rising falling ≡ false) × (is_rising twice ≡ false)
row_rising = (refl, refl, refl)

row_value_at : (value_at (codes "2") three ≡ Some 20) × (value_at (codes "4") three ≡ None) × (has_key (codes "3") three ≡ true) × (has_key (codes "") three ≡ false)
row_value_at = (refl, refl, refl, refl)

-- a value in the place of another
row_with_value : with_value (codes "2") 21 three ≡ (codes "1", 10) ∷ (codes "2", 21) ∷ (codes "3", 30) ∷ []
row_with_value = refl

row_without : (without (codes "2") three ≡ (codes "1", 10) ∷ (codes "3", 30) ∷ []) × (without (codes "4") three ≡ three)
row_without = (refl, refl)

row_keys : (with_key (codes "2") (codes "1" ∷ codes "3" ∷ []) ≡ codes "1" ∷ codes "2" ∷ codes "3" ∷ []) × (with_key (codes "3") (codes "1" ∷ codes "3" ∷ []) ≡ codes "1" ∷ codes "3" ∷ [])
    × (without_key (codes "1") (codes "1" ∷ codes "3" ∷ []) ≡ codes "3" ∷ []) × (is_key_in (codes "3") (codes "1" ∷ codes "3" ∷ []) ≡ true) × (is_key_in (codes "2") (codes "1" ∷ codes "3" ∷ []) ≡ false)
row_keys = (refl, refl, refl, refl, refl)
