-- A command on a file that isn't answered NORMAL changes nothing, nor does one that is refused memory.
use Rattle.std.proofs.Common.{◌≡◌, ℕ, true, false, List, refl}
use Rattle.std.specs.Prelude.{OnErr, Result, Ok, Err}
use Rattle.std.proofs.lemmas.Bool.{false≢true}
use Rattle.cics_names.specs.declared.conditions.Condition.{Condition}
use Rattle.cics_names.specs.declared.conditions.Condition.TheVariants.{Normal}
use Rattle.cics_history.specs.Store.{is_normal}
use Rattle.cics_history.specs.State.{UpdateRead}
use Rattle.cics_history.specs.Execution.{reads_after}
use Rattle.cics_history.specs.declared.ops.Op.{Op}

-- NORMAL is the one condition of a command that did what it asks for
pub condition_normal : (c : Condition) → is_normal c ≡ true → c ≡ Normal
condition_normal Normal e = refl
condition_normal _ e = absurd (false≢true e)

-- the update reads are after it what they were
pub reads_refused : (unit : ℕ) (op : Op) (c : Condition) (reads : List UpdateRead) → is_normal c ≡ false → reads ≡ reads_after unit op c reads
reads_refused unit op c reads h = rw h refl

-- what holds anyway holds if memory is refused
pub on_err : {X E P : Type 0} (r : Result X E) → P → OnErr r P
on_err (Ok x) p = tt
on_err (Err y) p = p
