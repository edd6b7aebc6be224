-- The verb of a command, from its word and its options.
use Rattle.std.specs.Prelude.{ℕ, Bool, false, ◌||◌, if◌then◌else◌, List, Option, None, Some, Result, Ok, Err}
use Rattle.cics_names.specs.declared.commands.Verb.{Verb}
use Rattle.cics_names.specs.declared.commands.Verb.TheVariants as verb
use Rattle.cics_script.specs.declared.faults.LineFault.{LineFault}
use Rattle.cics_script.specs.declared.faults.LineFault.TheVariants.{MissingOption}
use Rattle.cics_script.specs.declared.words.CommandWord.{CommandWord}
use Rattle.cics_script.specs.declared.words.CommandWord.TheVariants as command
use Rattle.cics_script.specs.declared.words.OptionWord.TheVariants.{File, KeyLength, From, Ridfld, Length, Generic, Equal, Gteq, Update, NumRec, Queue, Item, Rewrite, Resource, NoSuspend, Rollback, AbCode, Resp, NoHandle}
use Rattle.cics_script.specs.Faults.{◌>>=◌}
use Rattle.cics_script.specs.Options.{Entry}
use Rattle.cics_script.specs.Values.{has, content_at, as_needed_amount, text_at, name8_at, name4_at, amount_at, needed}

-- the file of a command, and its key
abbrev pub keyed_in : List Entry → Result (List ℕ × List ℕ) LineFault
keyed_in entries = needed (name8_at File entries) λ file. needed (text_at Ridfld entries) λ ridfld. Ok (file, ridfld)

-- the value that ENQ acquires or DEQ releases, and how many of its bytes count
abbrev pub enqueued_in : List Entry → Result (List ℕ × ℕ) LineFault
enqueued_in entries = needed (text_at Resource entries) λ resource. needed (amount_at Length entries) λ length. Ok (resource, length)

-- whether DELETE has an option that needs a key
abbrev pub needs_key : List Entry → Bool
needs_key entries = has KeyLength entries || has Generic entries || has NumRec entries

-- DELETE. With a key it is of the record with that key, or with GENERIC of each whose key begins
-- so. Without a key it is of the record that was read for update
abbrev pub delete_of : List ℕ → Option (List ℕ) → List Entry → Result Verb LineFault
delete_of file None entries = if needs_key entries then Err MissingOption else Ok (verb.Delete file None None false)
delete_of file (Some ridfld) entries = Ok (verb.Delete file (Some ridfld) (amount_at KeyLength entries) (has Generic entries))

-- the item that WRITEQ TS replaces: that of ITEM if there is REWRITE, else none, whatever ITEM says
abbrev pub replaced_in : List Entry → Result (Option ℕ) LineFault
replaced_in entries = if has Rewrite entries then (as_needed_amount (content_at Item entries) >>= λ item. Ok (Some item)) else Ok None

-- the verb of a command's word and options
abbrev pub verb_in : CommandWord → List Entry → Result Verb LineFault
verb_in command.Read entries =
    keyed_in entries >>= λ keyed.
    Ok (verb.Read keyed.0 keyed.1 (amount_at KeyLength entries) (amount_at Length entries) (has Generic entries) (has Gteq entries) (has Update entries))
verb_in command.Write entries =
    keyed_in entries >>= λ keyed. needed (text_at From entries) λ from.
    Ok (verb.Write keyed.0 keyed.1 (amount_at KeyLength entries) from (amount_at Length entries))
verb_in command.Rewrite entries =
    needed (name8_at File entries) λ file. needed (text_at From entries) λ from. Ok (verb.Rewrite file from (amount_at Length entries))
verb_in command.Delete entries =
    needed (name8_at File entries) λ file. delete_of file (text_at Ridfld entries) entries
verb_in command.Unlock entries = needed (name8_at File entries) λ file. Ok (verb.Unlock file)
verb_in command.StartBr entries =
    keyed_in entries >>= λ keyed.
    Ok (verb.StartBr keyed.0 keyed.1 (amount_at KeyLength entries) (has Generic entries) (has Equal entries))
verb_in command.ResetBr entries =
    keyed_in entries >>= λ keyed.
    Ok (verb.ResetBr keyed.0 keyed.1 (amount_at KeyLength entries) (has Generic entries) (has Equal entries))
verb_in command.ReadNext entries = needed (name8_at File entries) λ file. Ok (verb.ReadNext file (amount_at Length entries))
verb_in command.ReadPrev entries = needed (name8_at File entries) λ file. Ok (verb.ReadPrev file (amount_at Length entries))
verb_in command.EndBr entries = needed (name8_at File entries) λ file. Ok (verb.EndBr file)
verb_in command.WriteqTs entries =
    needed (name8_at Queue entries) λ queue. needed (text_at From entries) λ from. replaced_in entries >>= λ item.
    Ok (verb.WriteqTs queue from (amount_at Length entries) item)
verb_in command.ReadqTs entries =
    needed (name8_at Queue entries) λ queue. Ok (verb.ReadqTs queue (amount_at Length entries) (amount_at Item entries))
verb_in command.DeleteqTs entries = needed (name8_at Queue entries) λ queue. Ok (verb.DeleteqTs queue)
verb_in command.WriteqTd entries =
    needed (name4_at Queue entries) λ queue. needed (text_at From entries) λ from. Ok (verb.WriteqTd queue from (amount_at Length entries))
verb_in command.ReadqTd entries =
    needed (name4_at Queue entries) λ queue. Ok (verb.ReadqTd queue (amount_at Length entries) (has NoSuspend entries))
verb_in command.DeleteqTd entries = needed (name4_at Queue entries) λ queue. Ok (verb.DeleteqTd queue)
verb_in command.Enq entries = enqueued_in entries >>= λ value. Ok (verb.Enq value.0 value.1 (has NoSuspend entries))
verb_in command.Deq entries = enqueued_in entries >>= λ value. Ok (verb.Deq value.0 value.1)
verb_in command.Syncpoint entries = Ok (if has Rollback entries then verb.Rollback else verb.Syncpoint)
verb_in command.Return entries = Ok verb.Return
verb_in command.Abend entries = Ok (verb.Abend (name4_at AbCode entries))

-- whether a command's conditions are handled: it has RESP or NOHANDLE
abbrev pub is_handled : List Entry → Bool
is_handled entries = has Resp entries || has NoHandle entries
