-- What the bytes of a line say.
use Rattle.std.specs.Prelude.{ℕ, Bool, true, false, not, ◌&&◌, ◌||◌, ◌==◌, nat_le, nat_lt, if◌then◌else◌, List, [], ◌∷◌, length, Option, None, Some, Result, Ok, Err, unwrap_or, is_some, is_ok}
use Rattle.std.specs.List.{list_all}
use Rattle.std.specs.Str.{bytes_eq}
use Rattle.cics_names.specs.Names.{name_of}
use Rattle.cics_names.specs.declared.names.NameFault.{NameFault}
use Rattle.cics_transdata.specs.declared.queues.Recovery.{Recovery}
use Rattle.cics_transdata.specs.declared.queues.Recovery.TheVariants as queue_recovery
use Rattle.cics_script.specs.declared.lines.Line.{Line}
use Rattle.cics_script.specs.declared.lines.Line.TheVariants as line_of
use Rattle.cics_script.specs.declared.faults.LineFault.{LineFault}
use Rattle.cics_script.specs.declared.faults.LineFault.TheVariants.{TooLong, NotAscii, UnknownWord, BadNumber}
use Rattle.cics_script.specs.declared.words.FirstWord.{FirstWord}
use Rattle.cics_script.specs.declared.words.FirstWord.TheVariants as start
use Rattle.cics_script.specs.declared.words.DefineObject.{DefineObject}
use Rattle.cics_script.specs.declared.words.DefineObject.TheVariants as defined
use Rattle.cics_script.specs.declared.words.LoadObject.{LoadObject}
use Rattle.cics_script.specs.declared.words.LoadObject.TheVariants as loaded
use Rattle.cics_script.specs.declared.words.CommandWord.{CommandWord}
use Rattle.cics_script.specs.declared.words.LineForm.TheVariants as form
use Rattle.cics_script.specs.declared.words.OptionWord.TheVariants.{File, TsPrefix, TdQueue, KeyLength, KeyOffset, RecordSize, Recoverable, Unrecoverable, Logical, Physical, Unrecovered, From, Transid, Dtimout}
use Rattle.cics_script.specs.Faults.{◌>>=◌}
use Rattle.cics_script.specs.Tokens.{Token, word, number, broken, is_capital, is_digit, after_blanks, tokens}
use Rattle.cics_script.specs.Words.{lookup, starts, define_objects, load_objects, commands, queue_words}
use Rattle.cics_script.specs.Values.{has, text_at, name8_at, name4_at, amount_at, needed}
use Rattle.cics_script.specs.Commands.{verb_in, is_handled}
use Rattle.cics_script.specs.Options.{Entry, options}
use lib.Chars.{codes}

-- whether a file is recoverable, if the line says it
abbrev pub recovery_in : List Entry → Option Bool
recovery_in entries = if has Recoverable entries then Some true else if has Unrecoverable entries then Some false else None

-- how far a transient data queue's changes are undone, if the line says it
abbrev pub queue_recovery_in : List Entry → Option Recovery
queue_recovery_in entries =
    if has Logical entries then Some queue_recovery.Logical
    else if has Physical entries then Some queue_recovery.Physical
    else if has Unrecovered entries then Some queue_recovery.Unrecovered
    else None

-- what DEFINE defines. If the line doesn't say otherwise, a file's keys begin at 0 and its records
-- have up to 32,767 bytes
abbrev pub definition_in : DefineObject → List Entry → Result Line LineFault
definition_in defined.File entries =
    needed (name8_at File entries) λ name. needed (amount_at KeyLength entries) λ key_length. needed (recovery_in entries) λ recoverable.
    Ok (line_of.DefineFile name (record {
      key_length = key_length;
      key_offset = unwrap_or (amount_at KeyOffset entries) 0;
      record_size = unwrap_or (amount_at RecordSize entries) 32767;
      recoverable = recoverable;
    }))
definition_in defined.TsPrefix entries = needed (name8_at TsPrefix entries) λ prefix. Ok (line_of.DefineTsPrefix prefix)
definition_in defined.TdQueue entries =
    needed (name4_at TdQueue entries) λ name. needed (queue_recovery_in entries) λ recovery. Ok (line_of.DefineTd name recovery)

-- what LOAD loads
abbrev pub load_in : LoadObject → List Entry → Result Line LineFault
load_in loaded.File entries =
    needed (name8_at File entries) λ name. needed (text_at From entries) λ record_bytes.
    Ok (line_of.LoadFile name record_bytes)
load_in loaded.TdQueue entries =
    needed (name4_at TdQueue entries) λ name. needed (text_at From entries) λ record_bytes.
    Ok (line_of.LoadTd name record_bytes)

-- what ATTACH attaches; without DTIMOUT its commands may wait without limit
abbrev pub attach_in : List ℕ → List Entry → Result Line LineFault
attach_in label entries = needed (name4_at Transid entries) λ transaction. Ok (line_of.Attach label transaction (unwrap_or (amount_at Dtimout entries) 0))

-- the first token, which must be a word, and what follows it
abbrev pub word_first : List Token → Result (List ℕ × List Token) LineFault
word_first [] = Err UnknownWord
word_first (word w ∷ rest) = Ok (w, rest)
word_first (broken fault ∷ rest) = Err fault
word_first (token ∷ rest) = Err UnknownWord

-- what a table has for a word, which must be in it
abbrev pub known : {X : Type 0} → Option X → Result X LineFault
known None = Err UnknownWord
known (Some x) = Ok x

-- what follows this word, which must be the first token
abbrev pub behind : List ℕ → List Token → Result (List Token) LineFault
behind wanted rest = word_first rest >>= λ first. if bytes_eq first.0 wanted then Ok first.1 else Err UnknownWord

-- a label, filled up with blanks; a text that is no name is no label
abbrev pub as_label : Result (List ℕ) NameFault → Result (List ℕ) LineFault
as_label (Ok label) = Ok label
as_label (Err fault) = Err UnknownWord

-- a label is a word of up to eight letters and digits that begins no other line
abbrev pub label_in : List ℕ → Result (List ℕ) LineFault
label_in w =
    if is_some (lookup w starts) then Err UnknownWord
    else if list_all (λ c. is_capital c || is_digit c) w then as_label (name_of 8 w)
    else Err UnknownWord

-- DEFINE, from after the word; what it defines is the first of its options
abbrev pub define : List Token → Result Line LineFault
define rest =
    word_first rest >>= λ first. known (lookup first.0 define_objects) >>= λ object.
    options (form.Define object) rest >>= λ entries. definition_in object entries

-- LOAD, from after the word; what it loads is the first of its options
abbrev pub load : List Token → Result Line LineFault
load rest =
    word_first rest >>= λ first. known (lookup first.0 load_objects) >>= λ object.
    options (form.Load object) rest >>= λ entries. load_in object entries

-- ATTACH, from after the word
abbrev pub attach : List Token → Result Line LineFault
attach rest =
    word_first rest >>= λ first. label_in first.0 >>= λ label.
    options form.Attach first.1 >>= λ entries. attach_in label entries

-- the first token, which must be a number, and what follows it
abbrev pub number_first : List Token → Result (ℕ × List Token) LineFault
number_first [] = Err BadNumber
number_first (number n ∷ rest) = Ok (n, rest)
number_first (broken fault ∷ rest) = Err fault
number_first (token ∷ rest) = Err BadNumber

-- CLOCK, from after the word; it has no options
abbrev pub clock : List Token → Result Line LineFault
clock rest = number_first rest >>= λ first. options form.Clock first.1 >>= λ entries. Ok (line_of.Clock first.0)

-- SHUTDOWN, from after the word; it has no options
abbrev pub shutdown : List Token → Result Line LineFault
shutdown rest = behind (codes "IMMEDIATE") rest >>= λ rest. options form.Shutdown rest >>= λ entries. Ok line_of.Shutdown

-- a command and what follows it: the one of the verb and the word `w`, or else that of the verb
-- alone
abbrev pub taken : Option CommandWord → CommandWord → List ℕ → List Token → CommandWord × List Token
taken (Some command) verb w rest = (command, rest)
taken None verb w rest = (verb, word w ∷ rest)

-- the command of a verb, with TS or TD if that follows it, and what follows them
abbrev pub command_at : CommandWord → List Token → CommandWord × List Token
command_at verb (word w ∷ rest) = taken (lookup w (queue_words verb)) verb w rest
command_at verb rest = (verb, rest)

-- a command of the task with this label, from its options on
abbrev pub issued : List ℕ → CommandWord × List Token → Result Line LineFault
issued label command =
    options (form.Command command.0) command.1 >>= λ entries. verb_in command.0 entries >>= λ made.
    Ok (line_of.Issue label (record { verb = made; resp = is_handled entries }))

-- the first token, which must be a verb, and what follows it
abbrev pub verb_first : List Token → Result (CommandWord × List Token) LineFault
verb_first rest = word_first rest >>= λ first. known (lookup first.0 commands) >>= λ verb. Ok (verb, first.1)

-- a command of the task with this label, from its verb on
abbrev pub command_line : List ℕ → List Token → Result Line LineFault
command_line label rest = verb_first rest >>= λ found. issued label (command_at found.0 found.1)

-- a command of the task with this label, from EXEC on
abbrev pub issue : List ℕ → List Token → Result Line LineFault
issue label rest = behind (codes "EXEC") rest >>= λ rest. behind (codes "CICS") rest >>= λ rest. command_line label rest

-- whether a line that begins so defines and attaches nothing, whatever is wrong with the rest: LOAD,
-- CLOCK, SHUTDOWN, or EXEC and CICS behind any other word
abbrev pub adds_nothing_behind : Option FirstWord → List Token → Bool
adds_nothing_behind (Some start.Define) rest = false
adds_nothing_behind (Some start.Attach) rest = false
adds_nothing_behind (Some first) rest = true
adds_nothing_behind None rest = is_ok (behind (codes "EXEC") rest >>= behind (codes "CICS"))

-- the same, by the first word and the rest: a line without a first word may add something
abbrev pub adds_nothing_read : Result (List ℕ × List Token) LineFault → Bool
adds_nothing_read (Ok first) = adds_nothing_behind (lookup first.0 starts) first.1
adds_nothing_read (Err fault) = false

-- whether a line defines and attaches nothing, however it is mended behind its first words
abbrev pub adds_nothing : List ℕ → Bool
adds_nothing bytes = adds_nothing_read (word_first (tokens bytes))

-- the line that this first word begins
abbrev pub begun : Option FirstWord → List ℕ → List Token → Result Line LineFault
begun (Some start.Define) first rest = define rest
begun (Some start.Load) first rest = load rest
begun (Some start.Attach) first rest = attach rest
begun (Some start.Clock) first rest = clock rest
begun (Some start.Shutdown) first rest = shutdown rest
begun None first rest = label_in first >>= λ label. issue label rest

-- the line that these tokens are
abbrev pub statement : List Token → Result Line LineFault
statement line = word_first line >>= λ first. begun (lookup first.0 starts) first.0 first.1

-- whether a line may have a byte: a tab or printable ASCII
abbrev pub is_script_byte : ℕ → Bool
is_script_byte c = (c == 9) || (nat_le 32 c && nat_le c 126)

-- whether bytes are none, or begin a comment
abbrev pub is_empty_or_comment : List ℕ → Bool
is_empty_or_comment [] = true
is_empty_or_comment (c ∷ bytes) = c == 42

-- what a line says, by its bytes without its end
abbrev pub line : List ℕ → Result Line LineFault
line bytes =
    if nat_lt 70000 (length bytes) then Err TooLong
    else if not (list_all is_script_byte bytes) then Err NotAscii
    else if is_empty_or_comment (after_blanks bytes) then Ok line_of.Blank
    else statement (tokens bytes)
