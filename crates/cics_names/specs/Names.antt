-- A name is written with one to its width of the characters, not all blank, and is filled up with
-- blanks.
use Rattle.std.specs.Prelude.{ℕ, ◌-◌, ◌==◌, nat_lt, if◌then◌else◌, Option, Some, None, Result, Ok, Err, List, ◌++◌, length, replicate}
use Rattle.std.specs.List.{list_all}
use Rattle.cics_names.specs.Ebcdic.{codes_of}
use Rattle.cics_names.specs.declared.names.NameFault.{NameFault}
use Rattle.cics_names.specs.declared.names.NameFault.TheVariants.{Empty, TooLong, BadCharacter}

-- the blank, X'40'
abbrev pub blank : ℕ
blank = 0x40

-- codes, with blanks after them up to the width
abbrev pub filled_up : ℕ → List ℕ → List ℕ
filled_up width codes = codes ++ replicate (width - length codes) blank

-- the name of a text whose codes these are, if each of its characters has one
abbrev pub name_of_codes : ℕ → Option (List ℕ) → Result (List ℕ) NameFault
name_of_codes width None = Err BadCharacter
name_of_codes width (Some codes) =
    if list_all (λ b. b == blank) codes then Err Empty else Ok (filled_up width codes)

-- the bytes of the name that a text writes, or the first fault in this order: too long, a bad
-- character, empty
abbrev pub name_of : ℕ → List ℕ → Result (List ℕ) NameFault
name_of width text = if nat_lt width (length text) then Err TooLong else name_of_codes width (codes_of text)
