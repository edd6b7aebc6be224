-- How commands can be written: the options of a command in any order.
use Rattle.std.specs.Prelude.{◌≡◌, ◌<◌, ◌^◌, ℕ, Bool, true, false, not, ◌&&◌, ◌||◌, ◌⊎◌, IsTrue, nat_lt, if◌then◌else◌, List, [], ◌∷◌, ◌++◌, Option, None, Some, is_some, option_map, Ok, IfSome}
use Rattle.std.specs.List.{list_any, list_all, flat_map}
use Rattle.cics_names.specs.Names.{name_of}
use Rattle.cics_names.specs.declared.commands.Command.{Command}
use Rattle.cics_names.specs.declared.commands.Verb.{Verb}
use Rattle.cics_names.specs.declared.commands.Verb.TheVariants as verb
use Rattle.cics_script.specs.declared.words.CommandWord.{CommandWord}
use Rattle.cics_script.specs.declared.words.CommandWord.TheVariants as command
use Rattle.cics_script.specs.declared.words.LineForm.{LineForm}
use Rattle.cics_script.specs.declared.words.LineForm.TheVariants as form
use Rattle.cics_script.specs.declared.words.OptionWord.{OptionWord}
use Rattle.cics_script.specs.declared.words.OptionWord.TheVariants.{File, KeyLength, From, Ridfld, Length, Generic, Equal}
use Rattle.cics_script.specs.declared.words.OptionWord.TheVariants.{Gteq, Update, NumRec, Queue, Item, Rewrite, Resource, NoSuspend, Rollback, AbCode}
use Rattle.cics_script.specs.declared.words.ValueKind.{ValueKind}
use Rattle.cics_script.specs.declared.words.ValueKind.TheVariants.{Flag, Last}
use Rattle.cics_script.specs.Tokens.{Token, word, opening, closing}
use Rattle.cics_script.specs.Words.{same, excludes, kind_in, option_word}
use Rattle.cics_script.specs.Options.{Content, text, name8, name4, amount, nothing, content_in, Entry}
use Rattle.cics_script.specs.Values.{has}
use Rattle.cics_script.specs.Commands.{is_handled}
use Rattle.cics_script.specs.Layout.{IsWritable}
use lib.Chars.{codes}

-- the word of a command; TS or TD follows it if the command acts on a queue
abbrev pub command_word : CommandWord → List ℕ
command_word command.Read = codes "READ"
command_word command.Write = codes "WRITE"
command_word command.Rewrite = codes "REWRITE"
command_word command.Delete = codes "DELETE"
command_word command.Unlock = codes "UNLOCK"
command_word command.StartBr = codes "STARTBR"
command_word command.ResetBr = codes "RESETBR"
command_word command.ReadNext = codes "READNEXT"
command_word command.ReadPrev = codes "READPREV"
command_word command.EndBr = codes "ENDBR"
command_word command.WriteqTs = codes "WRITEQ"
command_word command.ReadqTs = codes "READQ"
command_word command.DeleteqTs = codes "DELETEQ"
command_word command.WriteqTd = codes "WRITEQ"
command_word command.ReadqTd = codes "READQ"
command_word command.DeleteqTd = codes "DELETEQ"
command_word command.Enq = codes "ENQ"
command_word command.Deq = codes "DEQ"
command_word command.Syncpoint = codes "SYNCPOINT"
command_word command.Return = codes "RETURN"
command_word command.Abend = codes "ABEND"

-- an option as it is written: its word, and a token in parentheses if it has a value
pub record Written : Type 0 where
  pub option : OptionWord
  pub value : Option Token

-- the tokens of a value
abbrev pub value_tokens : Option Token → List Token
value_tokens None = []
value_tokens (Some value) = opening ∷ value ∷ closing ∷ []

-- the tokens of an option
abbrev pub option_tokens : Written → List Token
option_tokens written = word (option_word written.option) ∷ value_tokens written.value

-- whether an option of this kind stands alone
abbrev pub is_bare : ValueKind → Bool
is_bare Flag = true
is_bare Last = true
is_bare kind = false

-- an option that stands alone gives nothing. Any other has a token that is a value of its kind
abbrev pub IsValue : ValueKind → Option Token → Content → Type 0
IsValue kind None content = (is_bare kind ≡ true) × (nothing ≡ content)
IsValue kind (Some value) content = content_in kind value ≡ Ok content

-- nothing follows END-EXEC
abbrev pub MayPrecede : ValueKind → List Written → Type 0
MayPrecede Last (other ∷ others) = ⊥
MayPrecede kind others = Unit {0}

-- the line has the option, this is its value, and it may stand before these others
abbrev pub IsWritten : Option ValueKind → Option Token → Content → List Written → Type 0
IsWritten None value content others = ⊥
IsWritten (Some kind) value content others = IsValue kind value content × MayPrecede kind others

-- these are options of the line as they are written, and what each gives
abbrev pub AreOptions : LineForm → List Written → List Entry → Type 0
AreOptions form [] [] = Unit {0}
AreOptions form [] (entry ∷ entries) = ⊥
AreOptions form (written ∷ others) [] = ⊥
AreOptions form (written ∷ others) (entry ∷ entries) =
    (written.option ≡ entry.0) × IsWritten (kind_in form entry.0) written.value entry.1 others × AreOptions form others entries

-- no option stands twice, and no two exclude each other
abbrev pub AreApart : List Entry → Type 0
AreApart [] = Unit {0}
AreApart (entry ∷ entries) = (list_any (λ later. same entry.0 later.0 || excludes entry.0 later.0) entries ≡ false) × AreApart entries

-- an option stands anywhere among others
abbrev pub Stands : Entry → List Entry → Type 0
Stands option [] = ⊥
Stands option (entry ∷ entries) = (option ≡ entry) ⊎ Stands option entries

-- an option stands among others and gives this, or it doesn't stand there
abbrev pub Gives : OptionWord → Option Content → List Entry → Type 0
Gives option None entries = has option entries ≡ false
Gives option (Some content) entries = Stands (option, content) entries

-- what a flag gives
abbrev pub flag : Bool → Option Content
flag true = Some nothing
flag false = None

-- REWRITE, and ITEM with the number of the item that is replaced, if there is one
abbrev pub replacing : Option ℕ → List (OptionWord × Option Content)
replacing None = (Rewrite, None) ∷ []
replacing (Some item) = (Rewrite, Some nothing) ∷ (Item, Some (amount item)) ∷ []

-- the options that determine a command: what each must give, or None if it must be absent
abbrev pub options_of : Verb → List (OptionWord × Option Content)
options_of (verb.Read file ridfld key_length length generic gteq update) =
    (File, Some (name8 file)) ∷ (Ridfld, Some (text ridfld)) ∷ (KeyLength, option_map amount key_length) ∷ (Length, option_map amount length)
    ∷ (Generic, flag generic) ∷ (Gteq, flag gteq) ∷ (Update, flag update) ∷ []
options_of (verb.Write file ridfld key_length from length) =
    (File, Some (name8 file)) ∷ (Ridfld, Some (text ridfld)) ∷ (KeyLength, option_map amount key_length) ∷ (From, Some (text from))
    ∷ (Length, option_map amount length) ∷ []
options_of (verb.Rewrite file from length) = (File, Some (name8 file)) ∷ (From, Some (text from)) ∷ (Length, option_map amount length) ∷ []
options_of (verb.Delete file None key_length generic) =
    (File, Some (name8 file)) ∷ (Ridfld, None) ∷ (KeyLength, option_map amount key_length) ∷ (Generic, flag generic) ∷ (NumRec, None) ∷ []
options_of (verb.Delete file (Some ridfld) key_length generic) =
    (File, Some (name8 file)) ∷ (Ridfld, Some (text ridfld)) ∷ (KeyLength, option_map amount key_length) ∷ (Generic, flag generic) ∷ []
options_of (verb.Unlock file) = (File, Some (name8 file)) ∷ []
options_of (verb.StartBr file ridfld key_length generic equal) =
    (File, Some (name8 file)) ∷ (Ridfld, Some (text ridfld)) ∷ (KeyLength, option_map amount key_length)
    ∷ (Generic, flag generic) ∷ (Equal, flag equal) ∷ []
options_of (verb.ResetBr file ridfld key_length generic equal) =
    (File, Some (name8 file)) ∷ (Ridfld, Some (text ridfld)) ∷ (KeyLength, option_map amount key_length)
    ∷ (Generic, flag generic) ∷ (Equal, flag equal) ∷ []
options_of (verb.ReadNext file length) = (File, Some (name8 file)) ∷ (Length, option_map amount length) ∷ []
options_of (verb.ReadPrev file length) = (File, Some (name8 file)) ∷ (Length, option_map amount length) ∷ []
options_of (verb.EndBr file) = (File, Some (name8 file)) ∷ []
options_of (verb.WriteqTs queue from length item) =
    (Queue, Some (name8 queue)) ∷ (From, Some (text from)) ∷ (Length, option_map amount length) ∷ replacing item
options_of (verb.ReadqTs queue length item) =
    (Queue, Some (name8 queue)) ∷ (Length, option_map amount length) ∷ (Item, option_map amount item) ∷ []
options_of (verb.DeleteqTs queue) = (Queue, Some (name8 queue)) ∷ []
options_of (verb.WriteqTd queue from length) = (Queue, Some (name4 queue)) ∷ (From, Some (text from)) ∷ (Length, option_map amount length) ∷ []
options_of (verb.ReadqTd queue length nosuspend) =
    (Queue, Some (name4 queue)) ∷ (Length, option_map amount length) ∷ (NoSuspend, flag nosuspend) ∷ []
options_of (verb.DeleteqTd queue) = (Queue, Some (name4 queue)) ∷ []
options_of (verb.Enq resource length nosuspend) =
    (Resource, Some (text resource)) ∷ (Length, Some (amount length)) ∷ (NoSuspend, flag nosuspend) ∷ []
options_of (verb.Deq resource length) = (Resource, Some (text resource)) ∷ (Length, Some (amount length)) ∷ []
options_of verb.Syncpoint = (Rollback, None) ∷ []
options_of verb.Rollback = (Rollback, Some nothing) ∷ []
options_of verb.Return = []
options_of (verb.Abend code) = (AbCode, option_map name4 code) ∷ []

-- the word of a command, or None if no line says the command: DELETE takes KEYLENGTH and GENERIC
-- only with RIDFLD
abbrev pub word_of : Verb → Option CommandWord
word_of (verb.Read file ridfld key_length length generic gteq update) = Some command.Read
word_of (verb.Write file ridfld key_length from length) = Some command.Write
word_of (verb.Rewrite file from length) = Some command.Rewrite
word_of (verb.Delete file None (Some key_length) generic) = None
word_of (verb.Delete file None None true) = None
word_of (verb.Delete file None None false) = Some command.Delete
word_of (verb.Delete file (Some ridfld) key_length generic) = Some command.Delete
word_of (verb.Unlock file) = Some command.Unlock
word_of (verb.StartBr file ridfld key_length generic equal) = Some command.StartBr
word_of (verb.ResetBr file ridfld key_length generic equal) = Some command.ResetBr
word_of (verb.ReadNext file length) = Some command.ReadNext
word_of (verb.ReadPrev file length) = Some command.ReadPrev
word_of (verb.EndBr file) = Some command.EndBr
word_of (verb.WriteqTs queue from length item) = Some command.WriteqTs
word_of (verb.ReadqTs queue length item) = Some command.ReadqTs
word_of (verb.DeleteqTs queue) = Some command.DeleteqTs
word_of (verb.WriteqTd queue from length) = Some command.WriteqTd
word_of (verb.ReadqTd queue length nosuspend) = Some command.ReadqTd
word_of (verb.DeleteqTd queue) = Some command.DeleteqTd
word_of (verb.Enq resource length nosuspend) = Some command.Enq
word_of (verb.Deq resource length) = Some command.Deq
word_of verb.Syncpoint = Some command.Syncpoint
word_of verb.Rollback = Some command.Syncpoint
word_of verb.Return = Some command.Return
word_of (verb.Abend code) = Some command.Abend

-- each of these options stands there and gives what it must, or is absent if it must be
abbrev pub AllGiven : List (OptionWord × Option Content) → List Entry → Type 0
AllGiven [] entries = Unit {0}
AllGiven (option ∷ options) entries = Gives option.0 option.1 entries × AllGiven options entries

-- these options say a command: those that determine it are as they must be, and RESP or NOHANDLE is
-- there exactly if its conditions are handled
abbrev pub Says : Command → List Entry → Type 0
Says command entries = AllGiven (options_of command.verb) entries × (is_handled entries ≡ command.resp)

-- what is written right after the word of a command on a queue: TD, or TS, which may be left out
abbrev pub queue_tokens : CommandWord → Bool → List Token
queue_tokens command.WriteqTs left_out = if left_out then [] else word (codes "TS") ∷ []
queue_tokens command.ReadqTs left_out = if left_out then [] else word (codes "TS") ∷ []
queue_tokens command.DeleteqTs left_out = if left_out then [] else word (codes "TS") ∷ []
queue_tokens command.WriteqTd left_out = word (codes "TD") ∷ []
queue_tokens command.ReadqTd left_out = word (codes "TD") ∷ []
queue_tokens command.DeleteqTd left_out = word (codes "TD") ∷ []
queue_tokens first left_out = []

-- the tokens of a command: its word, TS or TD if it acts on a queue, and its options
abbrev pub verb_tokens : CommandWord → Bool → List Written → List Token
verb_tokens first left_out options = word (command_word first) ∷ (queue_tokens first left_out ++ flat_map option_tokens options)

-- the tokens of a command's line: its task's label, EXEC CICS, and the command
abbrev pub command_tokens : List ℕ → CommandWord → Bool → List Written → List Token
command_tokens label first left_out options =
    word label ∷ word (codes "EXEC") ∷ word (codes "CICS") ∷ verb_tokens first left_out options

-- the values of all options can be written
abbrev pub AreWritten : List Written → Type 0
AreWritten [] = Unit {0}
AreWritten (option ∷ options) = IfSome option.value IsWritable × AreWritten options

-- a name that some text is
abbrev pub IsName : ℕ → List ℕ → Type 0
IsName width name = (said : List ℕ) × (name_of width said ≡ Ok name)

-- an option can give this: a record of bytes, a name, or a number of 64 bits
abbrev pub CanBeGiven : Content → Type 0
CanBeGiven (text bytes) = IsTrue (list_all (λ byte. nat_lt byte 256) bytes)
CanBeGiven (name8 name) = IsName 8 name
CanBeGiven (name4 name) = IsName 4 name
CanBeGiven (amount n) = n < 2 ^ 64
CanBeGiven nothing = Unit {0}

-- all options can give what they must
abbrev pub AllCanBeGiven : List (OptionWord × Option Content) → Type 0
AllCanBeGiven [] = Unit {0}
AllCanBeGiven (option ∷ options) = IfSome option.1 CanBeGiven × AllCanBeGiven options

-- whether a command's options go together: READ has UPDATE with neither GENERIC nor GTEQ, DELETE
-- has KEYLENGTH and GENERIC only with RIDFLD
abbrev pub go_together : Verb → Bool
go_together (verb.Read file ridfld key_length length generic gteq update) = not (update && (generic || gteq))
go_together (verb.Delete file None key_length generic) = not (is_some key_length || generic)
go_together _ = true

-- options, as they are written and as they are read, say a command after its word
pub record Spells (asked : Command) (first : CommandWord) (written : List Written) (entries : List Entry) : Type 0 where
  pub word : word_of asked.verb ≡ Some first
  pub are_options : AreOptions (form.Command first) written entries
  pub are_apart : AreApart entries
  pub says : Says asked entries

-- options that say a command and can be written
pub record Spelling (asked : Command) : Type 0 where
  pub first : CommandWord
  pub options : List Written
  pub entries : List Entry
  pub spells : Spells asked first options entries
  pub are_written : AreWritten options
