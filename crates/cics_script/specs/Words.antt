-- The grammar as tables: which word begins which line, and which options each line takes.
use Rattle.std.specs.Prelude.{ℕ, Bool, ◌==◌, ◌||◌, if◌then◌else◌, List, [], ◌∷◌, Option, Some, None}
use Rattle.std.specs.List.{list_any}
use Rattle.std.specs.Str.{bytes_eq}
use Rattle.cics_script.specs.declared.words.FirstWord.{FirstWord}
use Rattle.cics_script.specs.declared.words.FirstWord.TheVariants as start
use Rattle.cics_script.specs.declared.words.DefineObject.{DefineObject}
use Rattle.cics_script.specs.declared.words.DefineObject.TheVariants as defined
use Rattle.cics_script.specs.declared.words.LoadObject.{LoadObject}
use Rattle.cics_script.specs.declared.words.LoadObject.TheVariants as loaded
use Rattle.cics_script.specs.declared.words.CommandWord.{CommandWord}
use Rattle.cics_script.specs.declared.words.CommandWord.TheVariants as command
use Rattle.cics_script.specs.declared.words.LineForm.{LineForm}
use Rattle.cics_script.specs.declared.words.LineForm.TheVariants as form
use Rattle.cics_script.specs.declared.words.OptionWord.{OptionWord}
use Rattle.cics_script.specs.declared.words.OptionWord.TheVariants.{File, TsPrefix, TdQueue, KeyLength, KeyOffset, RecordSize, Recoverable, Unrecoverable, Logical, Physical, Unrecovered, From, Transid, Dtimout, Ridfld, Length, Into, Generic, Equal}
use Rattle.cics_script.specs.declared.words.OptionWord.TheVariants.{Gteq, Update, NumRec, Queue, Item, Next, Rewrite, Main, Auxiliary, Resource, NoSuspend, Rollback, AbCode, Cancel, NoDump, Resp, Resp2, NoHandle, EndExec}
use Rattle.cics_script.specs.declared.words.ValueKind.{ValueKind}
use Rattle.cics_script.specs.declared.words.ValueKind.TheVariants.{Flag, Text, Name8, Name4, Number, Area, Last}
use lib.Chars.{codes}

-- what a table has for a word
abbrev pub lookup : {X : Type 0} → List ℕ → List (List ℕ × X) → Option X
lookup word [] = None
lookup word (row ∷ rows) = if bytes_eq word row.0 then Some row.1 else lookup word rows

-- the words that begin lines; none of them is a label
abbrev pub starts : List (List ℕ × FirstWord)
starts =
    (codes "DEFINE", start.Define) ∷ (codes "LOAD", start.Load) ∷ (codes "ATTACH", start.Attach)
    ∷ (codes "CLOCK", start.Clock) ∷ (codes "SHUTDOWN", start.Shutdown) ∷ []

-- what DEFINE can define; DATASET is another word for FILE
abbrev pub define_objects : List (List ℕ × DefineObject)
define_objects =
    (codes "FILE", defined.File) ∷ (codes "DATASET", defined.File) ∷ (codes "TSPREFIX", defined.TsPrefix) ∷ (codes "TDQUEUE", defined.TdQueue) ∷ []

-- what LOAD can load
abbrev pub load_objects : List (List ℕ × LoadObject)
load_objects = (codes "FILE", loaded.File) ∷ (codes "DATASET", loaded.File) ∷ (codes "TDQUEUE", loaded.TdQueue) ∷ []

-- the verbs; one that acts on a queue is of temporary storage if neither TS nor TD follows it
abbrev pub commands : List (List ℕ × CommandWord)
commands =
    (codes "READ", command.Read) ∷ (codes "WRITE", command.Write) ∷ (codes "REWRITE", command.Rewrite)
    ∷ (codes "DELETE", command.Delete) ∷ (codes "RETURN", command.Return) ∷ (codes "UNLOCK", command.Unlock)
    ∷ (codes "STARTBR", command.StartBr) ∷ (codes "RESETBR", command.ResetBr) ∷ (codes "READNEXT", command.ReadNext)
    ∷ (codes "READPREV", command.ReadPrev) ∷ (codes "ENDBR", command.EndBr) ∷ (codes "WRITEQ", command.WriteqTs)
    ∷ (codes "READQ", command.ReadqTs) ∷ (codes "DELETEQ", command.DeleteqTs) ∷ (codes "ENQ", command.Enq)
    ∷ (codes "DEQ", command.Deq) ∷ (codes "SYNCPOINT", command.Syncpoint) ∷ (codes "ABEND", command.Abend) ∷ []

-- the command of a verb and the word right after it: TS or TD, if the verb acts on a queue
abbrev pub queue_words : CommandWord → List (List ℕ × CommandWord)
queue_words command.WriteqTs = (codes "TS", command.WriteqTs) ∷ (codes "TD", command.WriteqTd) ∷ []
queue_words command.ReadqTs = (codes "TS", command.ReadqTs) ∷ (codes "TD", command.ReadqTd) ∷ []
queue_words command.DeleteqTs = (codes "TS", command.DeleteqTs) ∷ (codes "TD", command.DeleteqTd) ∷ []
queue_words verb = []

-- the words that are options of some line
abbrev pub option_words : List (List ℕ × OptionWord)
option_words =
    (codes "FILE", File) ∷ (codes "DATASET", File) ∷ (codes "TRANSID", Transid)
    ∷ (codes "DTIMOUT", Dtimout) ∷ (codes "TSPREFIX", TsPrefix) ∷ (codes "TDQUEUE", TdQueue) ∷ (codes "KEYLENGTH", KeyLength) ∷ (codes "KEYOFFSET", KeyOffset)
    ∷ (codes "RECORDSIZE", RecordSize) ∷ (codes "RECOVERABLE", Recoverable) ∷ (codes "UNRECOVERABLE", Unrecoverable)
    ∷ (codes "LOGICAL", Logical) ∷ (codes "PHYSICAL", Physical) ∷ (codes "NONE", Unrecovered)
    ∷ (codes "FROM", From) ∷ (codes "RIDFLD", Ridfld) ∷ (codes "LENGTH", Length) ∷ (codes "INTO", Into)
    ∷ (codes "GENERIC", Generic) ∷ (codes "EQUAL", Equal) ∷ (codes "GTEQ", Gteq)
    ∷ (codes "UPDATE", Update) ∷ (codes "NUMREC", NumRec) ∷ (codes "QUEUE", Queue)
    ∷ (codes "ITEM", Item) ∷ (codes "NEXT", Next) ∷ (codes "REWRITE", Rewrite)
    ∷ (codes "MAIN", Main) ∷ (codes "AUXILIARY", Auxiliary) ∷ (codes "RESOURCE", Resource)
    ∷ (codes "NOSUSPEND", NoSuspend) ∷ (codes "ROLLBACK", Rollback) ∷ (codes "ABCODE", AbCode)
    ∷ (codes "CANCEL", Cancel) ∷ (codes "NODUMP", NoDump) ∷ (codes "RESP", Resp)
    ∷ (codes "RESP2", Resp2) ∷ (codes "NOHANDLE", NoHandle) ∷ (codes "END-EXEC", EndExec) ∷ []

-- the number of an option, by which options are compared
abbrev pub place : OptionWord → ℕ
place File = 0
place TsPrefix = 1
place TdQueue = 2
place KeyLength = 3
place KeyOffset = 4
place RecordSize = 5
place Recoverable = 6
place Unrecoverable = 7
place Logical = 8
place Physical = 9
place Unrecovered = 10
place From = 11
place Transid = 12
place Dtimout = 13
place Ridfld = 14
place Length = 15
place Into = 16
place Generic = 17
place Equal = 18
place Gteq = 19
place Update = 20
place NumRec = 21
place Queue = 22
place Item = 23
place Next = 24
place Rewrite = 25
place Main = 26
place Auxiliary = 27
place Resource = 28
place NoSuspend = 29
place Rollback = 30
place AbCode = 31
place Cancel = 32
place NoDump = 33
place Resp = 34
place Resp2 = 35
place NoHandle = 36
place EndExec = 37

-- whether two options are the same
abbrev pub same : OptionWord → OptionWord → Bool
same first second = place first == place second

-- the first word that these rows have for an option
abbrev pub word_among : OptionWord → List (List ℕ × OptionWord) → List ℕ
word_among option [] = []
word_among option (row ∷ rows) = if same row.1 option then row.0 else word_among option rows

-- the word of an option, FILE rather than DATASET
abbrev pub option_word : OptionWord → List ℕ
option_word option = word_among option option_words

-- the options of a command, but for those of every command
abbrev pub options_of_command : CommandWord → List OptionWord
options_of_command command.Read = File ∷ Ridfld ∷ KeyLength ∷ Length ∷ Into ∷ Generic ∷ Equal ∷ Gteq ∷ Update ∷ []
options_of_command command.Write = File ∷ Ridfld ∷ From ∷ Length ∷ KeyLength ∷ []
options_of_command command.Rewrite = File ∷ From ∷ Length ∷ []
options_of_command command.Delete = File ∷ Ridfld ∷ KeyLength ∷ Generic ∷ NumRec ∷ []
options_of_command command.Unlock = File ∷ []
options_of_command command.StartBr = File ∷ Ridfld ∷ KeyLength ∷ Generic ∷ Equal ∷ Gteq ∷ []
options_of_command command.ResetBr = File ∷ Ridfld ∷ KeyLength ∷ Generic ∷ Equal ∷ Gteq ∷ []
options_of_command command.ReadNext = File ∷ Into ∷ Ridfld ∷ Length ∷ []
options_of_command command.ReadPrev = File ∷ Into ∷ Ridfld ∷ Length ∷ []
options_of_command command.EndBr = File ∷ []
options_of_command command.WriteqTs = Queue ∷ From ∷ Length ∷ Item ∷ Rewrite ∷ Main ∷ Auxiliary ∷ NoSuspend ∷ []
options_of_command command.ReadqTs = Queue ∷ Into ∷ Length ∷ Item ∷ Next ∷ []
options_of_command command.DeleteqTs = Queue ∷ []
options_of_command command.WriteqTd = Queue ∷ From ∷ Length ∷ []
options_of_command command.ReadqTd = Queue ∷ Into ∷ Length ∷ NoSuspend ∷ []
options_of_command command.DeleteqTd = Queue ∷ []
options_of_command command.Enq = Resource ∷ Length ∷ NoSuspend ∷ []
options_of_command command.Deq = Resource ∷ Length ∷ []
options_of_command command.Syncpoint = Rollback ∷ []
options_of_command command.Return = []
options_of_command command.Abend = AbCode ∷ Cancel ∷ NoDump ∷ []

-- the options of a line, but for those of every command
abbrev pub own_options : LineForm → List OptionWord
own_options (form.Define defined.File) = File ∷ KeyLength ∷ KeyOffset ∷ RecordSize ∷ Recoverable ∷ Unrecoverable ∷ []
own_options (form.Define defined.TsPrefix) = TsPrefix ∷ []
own_options (form.Define defined.TdQueue) = TdQueue ∷ Logical ∷ Physical ∷ Unrecovered ∷ []
own_options (form.Load loaded.File) = File ∷ From ∷ []
own_options (form.Load loaded.TdQueue) = TdQueue ∷ From ∷ []
own_options form.Attach = Transid ∷ Dtimout ∷ []
own_options form.Clock = []
own_options form.Shutdown = []
own_options (form.Command verb) = options_of_command verb

-- the options of every command, or none for another line
abbrev pub shared_options : LineForm → List OptionWord
shared_options (form.Command verb) = Resp ∷ Resp2 ∷ NoHandle ∷ EndExec ∷ []
shared_options line = []

-- what an option takes in most lines that have it
abbrev pub usual_kind : OptionWord → ValueKind
usual_kind File = Name8
usual_kind TsPrefix = Name8
usual_kind Queue = Name8
usual_kind TdQueue = Name4
usual_kind Transid = Name4
usual_kind AbCode = Name4
usual_kind KeyLength = Number
usual_kind KeyOffset = Number
usual_kind RecordSize = Number
usual_kind Dtimout = Number
usual_kind Length = Number
usual_kind Item = Number
usual_kind From = Text
usual_kind Ridfld = Text
usual_kind Resource = Text
usual_kind Into = Area
usual_kind NumRec = Area
usual_kind Resp = Area
usual_kind Resp2 = Area
usual_kind EndExec = Last
usual_kind option = Flag

-- this kind for one option, and the usual kind for any other
abbrev pub kind_but : OptionWord → ValueKind → OptionWord → ValueKind
kind_but other kind option = if same option other then kind else usual_kind option

-- what an option of a line takes. Exceptions: RIDFLD of READNEXT and READPREV, and ITEM of WRITEQ
-- TS, are areas. QUEUE of TD is a name of four bytes
abbrev pub kind_at : LineForm → OptionWord → ValueKind
kind_at (form.Command command.ReadNext) option = kind_but Ridfld Area option
kind_at (form.Command command.ReadPrev) option = kind_but Ridfld Area option
kind_at (form.Command command.WriteqTs) option = kind_but Item Area option
kind_at (form.Command command.WriteqTd) option = kind_but Queue Name4 option
kind_at (form.Command command.ReadqTd) option = kind_but Queue Name4 option
kind_at (form.Command command.DeleteqTd) option = kind_but Queue Name4 option
kind_at line option = usual_kind option

-- what an option of a line takes, or None if the line has no such option. Three tables join here:
-- `own_options`, `shared_options` and `kind_at`
abbrev pub kind_in : LineForm → OptionWord → Option ValueKind
kind_in line option =
    if list_any (same option) (own_options line) || list_any (same option) (shared_options line) then Some (kind_at line option) else None

-- the options that a line can't have beside this one
abbrev pub excluded_by : OptionWord → List OptionWord
excluded_by Recoverable = Unrecoverable ∷ []
excluded_by Unrecoverable = Recoverable ∷ []
excluded_by Logical = Physical ∷ Unrecovered ∷ []
excluded_by Physical = Logical ∷ Unrecovered ∷ []
excluded_by Unrecovered = Logical ∷ Physical ∷ []
excluded_by Equal = Gteq ∷ []
excluded_by Gteq = Equal ∷ Update ∷ []
excluded_by Update = Gteq ∷ Generic ∷ []
excluded_by Generic = Update ∷ []
excluded_by Item = Next ∷ []
excluded_by Next = Item ∷ []
excluded_by Main = Auxiliary ∷ []
excluded_by Auxiliary = Main ∷ []
excluded_by option = []

-- whether two options exclude each other
abbrev pub excludes : OptionWord → OptionWord → Bool
excludes first second = list_any (same first) (excluded_by second)
