-- What a command uses, and who in the table is in its way.
use Rattle.std.proofs.Common.{◌≡◌, ℕ, Bool, true, false, ◌&&◌, Option, Some, None, List, [], ◌∷◌, refl, sym, ◌∙◌}
use Rattle.std.specs.Prelude.{if◌then◌else◌}
use Rattle.std.specs.List.{list_any}
use Rattle.cics_history.specs.Resources.{is_user}
use Rattle.cics_enqueue.specs.Table.{Table, holder_over}
use Rattle.cics_history.specs.declared.resources.Resource.{Resource}
use Rattle.cics_history.specs.declared.resources.Resource.TheVariants.{TdWrite as WritingEnd}
use Rattle.cics_history.specs.State.{OpeningState, queue_logical, UnitsState}
use Rattle.cics_history.specs.Store.{is_recoverable}
use Rattle.cics_history.specs.Holding.{owned, blocker_at, first_some, committed_for, is_nothing, blocker_among, uses_of, awaited, writer_awaited}
use Rattle.cics_history.specs.Isolation.{IsSound}
use Rattle.cics_history.specs.Execution.{unit_or_next, IsOpenUnit}
use Rattle.cics_history.specs.declared.ops.Op.{Op}
use Rattle.cics_history.specs.declared.ops.Op.TheVariants.{Write, Rewrite, Delete, DeleteGeneric, ReadUpdate, TsWrite, TsRewrite, TsDelete, TdWrite, TdRead, TdDelete}
use Rattle.cics_units.specs.TableInPlace.{IsTableOf}
use Rattle.cics_units.specs.Uses.{uses_if, AreFreeFor, holder_over_all}
use Rattle.cics_units.proofs.HeldOver.{table_holder, table_free, holder_open}

-- ---- What a command uses

-- what it uses by whether its file or queue is recoverable is what it uses by the opening
pub uses_alike : (o : OpeningState) (op : Op) → uses_if (is_recoverable o op) op ≡ uses_of o op
uses_alike o (Write f k r) = refl
uses_alike o _ = refl

-- no command uses a value
pub uses_plain : (recoverable : Bool) (op : Op) → list_any is_user (uses_if recoverable op) ≡ false
uses_plain b (Write f k r) = refl
uses_plain b (Rewrite f k r) = refl
uses_plain b (Delete f k) = refl
uses_plain b (DeleteGeneric f p) = refl
uses_plain b (ReadUpdate f k) = refl
uses_plain false (TsWrite q d) = refl
uses_plain false (TsRewrite q n d) = refl
uses_plain false (TsDelete q) = refl
uses_plain false (TdWrite q d) = refl
uses_plain false (TdRead q) = refl
uses_plain false (TdDelete q) = refl
uses_plain true _ = refl

-- ---- Who is in its way

-- if the first of two isn't there, neither of them is
pub first_none : (a b : Option ℕ) → first_some a b ≡ None → (a ≡ None) × (b ≡ None)
first_none None b none = (refl, none)
first_none (Some v) b none = let wrong : Some v ≡ None = none in absurd (some_none wrong)
  where
    some_none : Some v ≡ None → ⊥
    some_none e = cc

-- of two the first that is there is one of them
first_either : (P : ℕ → Type 0) (a b : Option ℕ) (h : ℕ) → first_some a b ≡ Some h → (a ≡ Some h → P h) → (b ≡ Some h → P h) → P h
first_either P None b h is one other = other is
first_either P (Some v) b h is one other = one is

module _ (s : UnitsState) (t : Table) (i : IsSound s) (k : IsTableOf s t) where
  -- the unit that is found in the history is the one that is found in the table, over each of what
  -- is used
  pub table_holder_all : (asking : Option ℕ) (rs : List Resource) → blocker_among (owned s) asking rs ≡ holder_over_all rs asking t
  table_holder_all asking [] = refl
  table_holder_all asking (r ∷ rs) = λ j. first_some (table_holder s t i k asking r j) (table_holder_all asking rs j)

  -- if none is found all of it is free for the unit that acts
  pub table_free_all : (u : Option ℕ) (rs : List Resource) → holder_over_all rs u t ≡ None → AreFreeFor t rs (unit_or_next u s.outcomes)
  table_free_all u [] none = tt
  table_free_all u (r ∷ rs) none =
      let both = first_none (holder_over r u t) (holder_over_all rs u t) none in
      (table_free s t i k u r both.0, table_free_all u rs both.1)

  -- the unit that is found is open
  pub holder_open_all : (asking : Option ℕ) (rs : List Resource) (h : ℕ) → holder_over_all rs asking t ≡ Some h → IsOpenUnit s h
  holder_open_all asking [] h found = let wrong : None ≡ Some h = found in absurd (none_some wrong)
    where
      none_some : None ≡ Some h → ⊥
      none_some e = cc
  holder_open_all asking (r ∷ rs) h found =
      first_either (IsOpenUnit s) (holder_over r asking t) (holder_over_all rs asking t) h found
      (holder_open s t i k asking r h) (holder_open_all asking rs h)

  -- a command waits for the first unit in the way of what it uses, else for the writer of what it
  -- would read
  pub awaited-uses : (u : Option ℕ) (op : Op) →
      awaited s u op ≡ first_some (holder_over_all (uses_of s.opening op) u t) (writer_awaited s u op)
  awaited-uses u op = λ j. first_some (table_holder_all u (uses_of s.opening op) j) (writer_awaited s u op)

  -- the unit that it waits for is open
  pub awaited_open : (u : Option ℕ) (op : Op) (h : ℕ) → awaited s u op ≡ Some h → IsOpenUnit s h
  awaited_open u op h found =
      first_either (IsOpenUnit s) (holder_over_all (uses_of s.opening op) u t) (writer_awaited s u op) h (sym (awaited-uses u op) ∙ found)
      (holder_open_all u (uses_of s.opening op) h) (writer_open op)
    where
      none_some : None ≡ Some h → ⊥
      none_some e = cc

      writer_open : (op : Op) → writer_awaited s u op ≡ Some h → IsOpenUnit s h
      writer_open (TdRead q) found = elim (queue_logical s.opening q && is_nothing (committed_for s u q)) as
          (λ b. (if b then blocker_at (owned s) u (WritingEnd q) else None) ≡ Some h → IsOpenUnit s h) [
            | true ↦ λ writes. holder_open s t i k u (WritingEnd q) h (sym (table_holder s t i k u (WritingEnd q)) ∙ writes)
            | false ↦ λ none. absurd (none_some none)
          ] found
      writer_open _ none = absurd (none_some none)

  -- if it awaits none, all that it uses is free for the unit that acts
  pub uses_free : (u : Option ℕ) (op : Op) → awaited s u op ≡ None → AreFreeFor t (uses_of s.opening op) (unit_or_next u s.outcomes)
  uses_free u op none = table_free_all u (uses_of s.opening op)
      (first_none (holder_over_all (uses_of s.opening op) u t) (writer_awaited s u op) (sym (awaited-uses u op) ∙ none)).0
