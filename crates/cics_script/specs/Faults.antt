-- The faults of a line, with the numbers and the names that a journal prints.
use Rattle.std.specs.Prelude.{◌≡◌, ◌≢◌, ℕ, List, Result, Ok, Err}
use Rattle.cics_script.specs.declared.faults.LineFault.{LineFault}
use Rattle.cics_script.specs.declared.faults.LineFault.TheVariants.{TooLong, NotAscii, UnknownWord, BadLiteral, BadNumber, MissingOption, DoubledOption, OptionNotHere, DefineTooLate, NoMemory}
use lib.Chars.{codes}

-- the number of a fault
abbrev pub number_of : LineFault → ℕ
number_of TooLong = 1
number_of NotAscii = 2
number_of UnknownWord = 3
number_of BadLiteral = 4
number_of BadNumber = 5
number_of MissingOption = 6
number_of DoubledOption = 7
number_of OptionNotHere = 8
number_of DefineTooLate = 9
number_of NoMemory = 10

-- the name of a fault
abbrev pub title_of : LineFault → List ℕ
title_of TooLong = codes "TooLong"
title_of NotAscii = codes "NotAscii"
title_of UnknownWord = codes "UnknownWord"
title_of BadLiteral = codes "BadLiteral"
title_of BadNumber = codes "BadNumber"
title_of MissingOption = codes "MissingOption"
title_of DoubledOption = codes "DoubledOption"
title_of OptionNotHere = codes "OptionNotHere"
title_of DefineTooLate = codes "DefineTooLate"
title_of NoMemory = codes "NoMemory"

infixl 10 ◌>>=◌
-- reads a part of the line and then what follows it, or gives the first fault
abbrev pub ◌>>=◌ : {A B : Type 0} → Result A LineFault → (A → Result B LineFault) → Result B LineFault
(Ok part) >>= rest = rest part
(Err fault) >>= rest = Err fault

-- the definition `read` gives this fault, unless memory was refused
abbrev pub Refuses : {A : Type 0} → Result A LineFault → LineFault → Type 0
Refuses read fault = fault ≢ NoMemory → read ≡ Err fault

-- the definition `read` gives what a call returned, unless memory was refused
abbrev pub Reads : {A : Type 0} → Result A LineFault → Result A LineFault → Type 0
Reads read (Ok made) = read ≡ Ok made
Reads read (Err fault) = Refuses read fault
