-- What a command changes: the record of its key, or an item of its queue. DELETE GENERIC changes
-- each record that it deletes, and DELETEQ TS each item.
use Rattle.std.specs.Prelude.{ℕ, zero, suc, Bool, true, false, not, if◌then◌else◌, Option, Some, None, unwrap_or, List, [], ◌∷◌, ◌++◌, length, map}
use Rattle.cics_names.specs.Keyed.{Bytes, value_at}
use Rattle.cics_names.specs.declared.commands.Verb.{Verb}
use Rattle.cics_names.specs.declared.commands.Verb.TheVariants as verb
use Rattle.cics_ksds.specs.Prefixes.{keys_under}
use Rattle.cics_history.specs.State.{OpeningState, Store}
use Rattle.cics_history.specs.Store.{is_normal, is_recoverable, ts_queue}
use Rattle.cics_history.specs.declared.ops.Op.{Op}
use Rattle.cics_history.specs.declared.ops.Op.TheVariants.{Write, Rewrite, Delete, DeleteGeneric, ReadUpdate, TsWrite, TsRewrite, TsDelete}
use Rattle.cics_history.specs.declared.ops.Entry.{Entry}
use Rattle.cics_run.specs.declared.reads.steps.Act.{Act}
use Rattle.cics_run.specs.declared.reads.steps.Act.TheVariants as acts
use Rattle.cics_run.specs.declared.reads.steps.Cell.{Cell}
use Rattle.cics_run.specs.declared.reads.steps.Cell.TheVariants.{Record, Item}

-- ---- Commands that delete several cells

-- the items of a queue from 1 to a number
abbrev pub items_to : Bytes → ℕ → List Cell
items_to q zero = []
items_to q (suc n) = items_to q n ++ Item q (suc n) ∷ []

-- the records of a file whose keys begin with a prefix
abbrev pub records_under : Store → Bytes → Bytes → List Cell
records_under s f prefix = map (λ k. Record f k) (keys_under prefix (unwrap_or (value_at f s.files) []))

-- whether a command may delete several cells: DELETE GENERIC and DELETEQ TS
abbrev pub deletes_several : Verb → Bool
deletes_several (verb.Delete f (Some prefix) n generic) = generic
deletes_several (verb.DeleteqTs q) = true
deletes_several v = false

-- the cells that such a command deletes if it is executed next
abbrev pub doomed_by : Store → Verb → List Cell
doomed_by s (verb.Delete f (Some prefix) n generic) = if generic then records_under s f prefix else []
doomed_by s (verb.DeleteqTs q) = items_to q (length (ts_queue s q))
doomed_by s v = []

-- ---- Entries of the history

-- a command changed these cells. A change of what is unrecoverable lasts
abbrev pub changed : OpeningState → Op → List Cell → Bool → Option Act
changed o op cells adds = Some (acts.Change (record { cells = cells; adds = adds; lasts = not (is_recoverable o op) }))

-- the item that WRITEQ TS added, by the number that it was answered
abbrev pub item_added : Bytes → Option ℕ → List Cell
item_added q None = []
item_added q (Some n) = Item q n ∷ []

-- what a command did that was answered NORMAL: its number, and the cells that were there for it to
-- delete
abbrev pub done_by : OpeningState → Op → Option ℕ → List Cell → Option Act
done_by o (Write f k r) number doomed = changed o (Write f k r) (Record f k ∷ []) true
done_by o (Rewrite f k r) number doomed = changed o (Rewrite f k r) (Record f k ∷ []) false
done_by o (Delete f k) number doomed = changed o (Delete f k) (Record f k ∷ []) false
done_by o (DeleteGeneric f p) number doomed = changed o (DeleteGeneric f p) doomed false
done_by o (ReadUpdate f k) number doomed = Some (acts.LookForUpdate f k)
done_by o (TsWrite q d) number doomed = changed o (TsWrite q d) (item_added q number) true
done_by o (TsRewrite q n d) number doomed = changed o (TsRewrite q n d) (Item q n ∷ []) false
done_by o (TsDelete q) number doomed = changed o (TsDelete q) doomed false
done_by o op number doomed = None

-- what an entry of the history did
abbrev pub act_of : OpeningState → List Cell → Entry → Option Act
act_of o doomed e = if is_normal e.answer.condition then done_by o e.op e.answer.number doomed else None

-- what the entry at a place of the history did, if there is one
abbrev pub act_at : OpeningState → List Cell → Option Entry → Option Act
act_at o doomed None = None
act_at o doomed (Some e) = act_of o doomed e
