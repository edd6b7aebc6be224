-- What an executed command makes of the table of enqueues and of the open update reads.
use Rattle.std.proofs.Common.{◌≡◌, ◌∙◌, ℕ, Bool, true, false, Option, Some, None, List, refl, sym, ap, is_some}
use Rattle.std.specs.Prelude.{if◌then◌else◌}
use Rattle.std.specs.List.{list_any}
use Rattle.std.proofs.lemmas.Bool.{true≢false}
use Rattle.cics_names.specs.Keyed.{Bytes}
use Rattle.cics_enqueue.specs.Table.{Table}
use Rattle.cics_history.specs.declared.resources.Resource.{Resource}
use Rattle.cics_history.specs.Execution.{covers, opened, with_read}
use Rattle.cics_history.specs.State.{UpdateRead}
use Rattle.cics_history.specs.Records.{is_file_op, file_of}
use Rattle.cics_history.specs.Store.{with_content, found_condition}
use Rattle.cics_history.specs.declared.ops.Op.{Op}
use Rattle.cics_history.specs.declared.ops.Op.TheVariants.{ReadUpdate, TsWrite, TsRewrite, TsDelete, TdWrite, TdRead, TdDelete}
use Rattle.cics_units.specs.Applied.{IsFileBound, read_given}
use Rattle.cics_units.specs.Executed.{IsDone}
use Rattle.cics_units.specs.Parts.{CoreValue}
use Rattle.cics_units.specs.ImageRows.{kept_by}
use Rattle.cics_units.specs.TableInPlace.{is_read, covered_read, table_given_back, table_changed}
use Rattle.cics_units.specs.Uses.{uses_if, taken_all}
use Rattle.cics_units.proofs.Applied.{read_applied}
use Rattle.cics_units.proofs.HeldReads.{any_never}
use Rattle.cics_units.proofs.PartChanges.{ends_none}

-- a command on a queue covers no read
pub queue_uncovered : (u : ℕ) (op : Op) (reads : List UpdateRead) → is_file_op op ≡ false → list_any (covers u op) reads ≡ false
queue_uncovered u (TsWrite q d) reads queue = any_never reads
queue_uncovered u (TsRewrite q n d) reads queue = any_never reads
queue_uncovered u (TsDelete q) reads queue = any_never reads
queue_uncovered u (TdWrite q d) reads queue = any_never reads
queue_uncovered u (TdRead q) reads queue = any_never reads
queue_uncovered u (TdDelete q) reads queue = any_never reads
queue_uncovered u _ reads queue = absurd (true≢false queue)

-- a command that isn't READ UPDATE opens none
pub opened_none : (u : ℕ) (op : Op) (reads : List UpdateRead) → is_read op ≡ false → opened u op reads ≡ reads
opened_none u (ReadUpdate f k) reads other = absurd (true≢false other)
opened_none u _ reads other = refl

-- a command that matches no READ UPDATE is none
pub not_read : (op : Op) → ((f k : Bytes) → op ≡ ReadUpdate f k → ⊥) → is_read op ≡ false
not_read (ReadUpdate f k) other = absurd (other f k refl)
not_read _ other = refl

-- what is recoverable goes on being held
still_held : (u : ℕ) (f : Bytes) (o : Option Bytes) (t : Table) → table_given_back true u f o t ≡ t
still_held u f None t = refl
still_held u f (Some k) t = refl

-- a change keeps owned what it uses of something recoverable, and else releases what it covers
pub changed_table : (recoverable : Bool) (u : ℕ) (op : Op) (uses : List Resource) (reads : List UpdateRead) (t : Table) → uses ≡ uses_if recoverable op → is_read op ≡ false →
    table_given_back recoverable u (file_of op) (covered_read u op reads) (if recoverable then taken_all t u uses else t) ≡ table_changed recoverable u op reads t
changed_table true u op uses reads t used other = still_held u (file_of op) (covered_read u op reads) (taken_all t u uses) ∙ ap (taken_all t u) used
changed_table false u op uses reads t used other = rw other refl

-- READ UPDATE goes on holding its record
read_table : (recoverable : Bool) (u : ℕ) (f k : Bytes) (reads : List UpdateRead) (t : Table) →
    taken_all t u (uses_if recoverable (ReadUpdate f k)) ≡ table_changed recoverable u (ReadUpdate f k) reads t
read_table true u f k reads t = refl
read_table false u f k reads t = refl

-- READ UPDATE that is answered with the record that was looked up: the unit owns it and has it read
-- for update, if it is there
pub read_done : (p : CoreValue) (u : ℕ) (f k : Bytes) (keep own : Bool) (g : Option Bytes) (uses : List Resource) → IsFileBound p.stores.store f keep → g ≡ read_given p.stores.store (ReadUpdate f k) →
    uses ≡ uses_if keep (ReadUpdate f k) →
    IsDone p (if is_some g then record p { table = taken_all p.table u uses; reads = with_read (record { unit = u; file = f; key = k }) p.reads } else p) u (ReadUpdate f k) keep own (with_content (found_condition g) g)
read_done p u f k keep own None uses bound given used = record {
  applied = read_applied p.stores.store (kept_by p.stores.images u) f k keep own None bound given;
  others = record { count = refl; rows = λ w other. refl };
  table = refl;
  reads = refl;
}
read_done p u f k keep own (Some r) uses bound given used = record {
  applied = read_applied p.stores.store (kept_by p.stores.images u) f k keep own (Some r) bound given;
  others = record { count = refl; rows = λ w other. refl };
  table = ap (taken_all p.table u) used ∙ read_table keep u f k p.reads p.table;
  reads = λ i. with_read (record { unit = u; file = f; key = k }) (sym (ends_none p.reads) i);
}
