-- What a command uses of files and queues, how a unit acquires it, and which unit blocks it.
use Rattle.std.specs.Prelude.{ℕ, Bool, if◌then◌else◌, Option, None, List, [], ◌∷◌, ◌++◌}
use Rattle.cics_history.specs.Resources.{bytes_of}
use Rattle.cics_enqueue.specs.Table.{Table, IsFreeFor, holder_over, taken, given_back}
use Rattle.cics_history.specs.declared.resources.Resource.{Resource}
use Rattle.cics_history.specs.declared.resources.Resource.TheVariants.{FileKey, FilePrefix, TsQueue, TdRead as ReadingEnd, TdWrite as WritingEnd}
use Rattle.cics_history.specs.Holding.{named_if, first_some}
use Rattle.cics_history.specs.declared.ops.Op.{Op}
use Rattle.cics_history.specs.declared.ops.Op.TheVariants.{Write, Rewrite, Delete, DeleteGeneric, ReadUpdate, TsWrite, TsRewrite, TsDelete, TdWrite, TdRead, TdDelete}
use Rattle.cics_units.specs.declared.uses.Uses.{Uses}
use Rattle.cics_units.specs.declared.uses.Uses.TheVariants.{Nothing, One, Two}
use Rattle.cics_units.specs.declared.uses.WereFree.{WereFree}

-- what a command uses, by whether its file or queue is recoverable. In any file it is its record,
-- there or not, or all under its prefix. Of queues it is only a recoverable one, by its name, or by
-- the ends at which the command reads and writes
abbrev pub uses_if : Bool → Op → List Resource
uses_if recoverable (Write f k r) = FileKey f (bytes_of k) ∷ []
uses_if recoverable (Rewrite f k r) = FileKey f (bytes_of k) ∷ []
uses_if recoverable (Delete f k) = FileKey f (bytes_of k) ∷ []
uses_if recoverable (DeleteGeneric f p) = FilePrefix f (bytes_of p) ∷ []
uses_if recoverable (ReadUpdate f k) = FileKey f (bytes_of k) ∷ []
uses_if recoverable (TsWrite q d) = named_if recoverable (TsQueue q)
uses_if recoverable (TsRewrite q n d) = named_if recoverable (TsQueue q)
uses_if recoverable (TsDelete q) = named_if recoverable (TsQueue q)
uses_if recoverable (TdWrite q d) = named_if recoverable (WritingEnd q)
uses_if recoverable (TdRead q) = named_if recoverable (ReadingEnd q)
uses_if recoverable (TdDelete q) = named_if recoverable (ReadingEnd q) ++ named_if recoverable (WritingEnd q)

-- the table after a unit acquired resources, one after another. What it owns already stays as it
-- is, but the count of a value rises
abbrev pub taken_all : Table → ℕ → List Resource → Table
taken_all t u [] = t
taken_all t u (r ∷ rs) = taken_all (taken t r u) u rs

-- no other unit owns a resource that conflicts with any of these
abbrev pub AreFreeFor : Table → List Resource → ℕ → Type 0
AreFreeFor t [] u = Unit {0}
AreFreeFor t (r ∷ rs) u = IsFreeFor t r u × AreFreeFor t rs u

-- the blocker at the first of these resources that has one: the other owner of the smallest
-- conflicting resource
abbrev pub holder_over_all : List Resource → Option ℕ → Table → Option ℕ
holder_over_all [] asking t = None
holder_over_all (r ∷ rs) asking t = first_some (holder_over r asking t) (holder_over_all rs asking t)

-- ---- What a command uses, as the code has it

-- its resources, in order
abbrev pub listed : Uses → List Resource
listed Nothing = []
listed (One r) = r ∷ []
listed (Two r q) = r ∷ q ∷ []

-- the table after a unit released a resource that was free before it acquired it
abbrev pub given_back_if : Bool → Table → Resource → ℕ → Table
given_back_if was_free t r u = if was_free then given_back t r u else t

-- the table after a unit released what was free before it acquired what a command uses, last to
-- first
abbrev pub let_go : Table → Uses → WereFree → ℕ → Table
let_go t Nothing free u = t
let_go t (One r) free u = given_back_if free.first t r u
let_go t (Two r q) free u = given_back_if free.first (given_back_if free.second t q u) r u
