-- A command written out as the bytes of a line.
use Rattle.std.specs.Prelude.{ℕ, Bool, true, false, Option, None, Some, option_map, List, [], ◌∷◌, ◌++◌}
use Rattle.std.specs.List.{flat_map}
use Rattle.std.specs.Fmt.{decimal}
use Rattle.cics_names.specs.declared.commands.Command.{Command}
use Rattle.cics_names.specs.declared.commands.Verb.{Verb}
use Rattle.cics_names.specs.declared.commands.Verb.TheVariants as verb
use Rattle.cics_script.specs.declared.words.CommandWord.{CommandWord}
use Rattle.cics_script.specs.declared.words.OptionWord.{OptionWord}
use Rattle.cics_script.specs.declared.words.OptionWord.TheVariants.{NoHandle}
use Rattle.cics_script.specs.Options.{Content, text, name8, name4, amount, nothing}
use Rattle.cics_script.specs.Words.{option_word}
use Rattle.cics_script.specs.Layout.{token_bytes}
use Rattle.cics_script.specs.Spelling.Spelling.{command_word, flag, options_of, queue_tokens, word_of}
use Rattle.cics_script.specs.Texts.{text_of, name_text}
use lib.Chars.{codes}

-- a value in parentheses
abbrev pub in_parentheses : List ℕ → List ℕ
in_parentheses value = codes "(" ++ (value ++ codes ")")

-- what an option gives, in parentheses; a flag has none
abbrev pub value_text : Content → List ℕ
value_text (text bytes) = in_parentheses (text_of bytes)
value_text (name8 name) = in_parentheses (name_text name)
value_text (name4 name) = in_parentheses (name_text name)
value_text (amount n) = in_parentheses (decimal n)
value_text nothing = []

-- a space, an option and what it gives; no bytes if it is absent
abbrev pub option_text : OptionWord × Option Content → List ℕ
option_text (option, None) = []
option_text (option, Some content) = codes " " ++ (option_word option ++ value_text content)

-- a space and TS or TD, if a command acts on a queue
abbrev pub queue_text : CommandWord → List ℕ
queue_text first = flat_map (λ token. codes " " ++ token_bytes token) (queue_tokens first false)

-- the word of a command, with TS or TD if it acts on a queue
abbrev pub command_text : CommandWord → List ℕ
command_text first = command_word first ++ queue_text first

-- DELETE, STARTBR and RESETBR
abbrev pub seeks_keys : Verb → Bool
seeks_keys (verb.Delete file ridfld key_length generic) = true
seeks_keys (verb.StartBr file ridfld key_length generic equal) = true
seeks_keys (verb.ResetBr file ridfld key_length generic equal) = true
seeks_keys other = false

-- whether a command acts on a temporary storage queue
abbrev pub is_on_ts : Verb → Bool
is_on_ts (verb.WriteqTs queue from length item) = true
is_on_ts (verb.ReadqTs queue length item) = true
is_on_ts (verb.DeleteqTs queue) = true
is_on_ts other = false

-- the options of a command, with NOHANDLE where its conditions are handled
abbrev pub asked_of : Command → List (OptionWord × Option Content)
asked_of asked = (NoHandle, flag asked.resp) ∷ options_of asked.verb

-- a line of a label, words and options; no bytes if there are no words
abbrev pub written_with : List ℕ → List ℕ → Option (List ℕ) → List ℕ
written_with label options None = []
written_with label options (Some words) = label ++ (codes " EXEC CICS " ++ (words ++ options))

-- the bytes of a command's line; none if no line says the command
abbrev pub written_out : List ℕ → Command → List ℕ
written_out label asked = written_with label (flat_map option_text (asked_of asked)) (option_map command_text (word_of asked.verb))
