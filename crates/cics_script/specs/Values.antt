-- What the options that were read give.
use Rattle.std.specs.Prelude.{ℕ, Bool, if◌then◌else◌, List, [], ◌∷◌, Option, None, Some, Result, Ok, Err}
use Rattle.std.specs.List.{list_any}
use Rattle.std.specs.Option.{option_and_then}
use Rattle.cics_script.specs.declared.faults.LineFault.{LineFault}
use Rattle.cics_script.specs.declared.faults.LineFault.TheVariants.{BadNumber, MissingOption}
use Rattle.cics_script.specs.declared.words.OptionWord.{OptionWord}
use Rattle.cics_script.specs.Words.{same}
use Rattle.cics_script.specs.Options.{Content, text, name8, name4, amount, Entry}

-- whether an option is there
abbrev pub has : OptionWord → List Entry → Bool
has option entries = list_any (λ entry. same entry.0 option) entries

-- what stands in an option's parentheses, if the option is there
abbrev pub content_at : OptionWord → List Entry → Option Content
content_at option [] = None
content_at option (entry ∷ entries) = if same entry.0 option then Some entry.1 else content_at option entries

-- the record of a content, if it is one
abbrev pub as_text : Content → Option (List ℕ)
as_text (text bytes) = Some bytes
as_text content = None

-- the name of eight bytes of a content, if it is one
abbrev pub as_name8 : Content → Option (List ℕ)
as_name8 (name8 bytes) = Some bytes
as_name8 content = None

-- the name of four bytes of a content, if it is one
abbrev pub as_name4 : Content → Option (List ℕ)
as_name4 (name4 bytes) = Some bytes
as_name4 content = None

-- the number of a content, if it is one
abbrev pub as_amount : Content → Option ℕ
as_amount (amount n) = Some n
as_amount content = None

-- the number in an area, which the line needs
abbrev pub as_needed_amount : Option Content → Result ℕ LineFault
as_needed_amount None = Err MissingOption
as_needed_amount (Some (amount n)) = Ok n
as_needed_amount (Some content) = Err BadNumber

-- the record that an option gives, if it gives one
abbrev pub text_at : OptionWord → List Entry → Option (List ℕ)
text_at option entries = option_and_then as_text (content_at option entries)

-- the name of eight bytes that an option gives, if it gives one
abbrev pub name8_at : OptionWord → List Entry → Option (List ℕ)
name8_at option entries = option_and_then as_name8 (content_at option entries)

-- the name of four bytes that an option gives, if it gives one
abbrev pub name4_at : OptionWord → List Entry → Option (List ℕ)
name4_at option entries = option_and_then as_name4 (content_at option entries)

-- the number that an option gives, if it gives one
abbrev pub amount_at : OptionWord → List Entry → Option ℕ
amount_at option entries = option_and_then as_amount (content_at option entries)

-- what is made of a value that the line needs
abbrev pub needed : {A B : Type 0} → Option A → (A → Result B LineFault) → Result B LineFault
needed None make = Err MissingOption
needed (Some value) make = make value
