-- Whom a command must wait for, by the history, is whom the table of enqueues and the queues
-- themselves tell.
use Rattle.std.proofs.Common.{◌≡◌, ℕ, true, false, ◌&&◌, not, Option, Some, None, List, [], ◌∷◌, refl, ap, sym, ◌∙◌}
use Rattle.std.specs.Prelude.{if◌then◌else◌, is_none, slice_get}
use Rattle.cics_names.specs.Keyed.{Bytes, value_at}
use Rattle.cics_images.specs.Cells.{Kept}
use Rattle.cics_enqueue.specs.Table.{Table, holder_over}
use Rattle.cics_history.specs.declared.resources.Resource.TheVariants.{TdRead as ReadingEnd, TdWrite as WritingEnd}
use Rattle.cics_transdata.specs.Trans.{TransState, first_of}
use Rattle.cics_history.specs.State.{queue_logical, UnitsState}
use Rattle.cics_history.specs.Store.{is_recoverable}
use Rattle.cics_history.specs.Holding.{owned, blocker_at, first_some, committed_for, is_nothing, uses_of, writer_awaited, awaited}
use Rattle.cics_history.specs.Execution.{unit_or_next}
use Rattle.cics_history.specs.Events.{may_act}
use Rattle.cics_history.specs.Isolation.{IsSound, used}
use Rattle.cics_history.specs.Cells.{Td, Writing}
use Rattle.cics_history.specs.Marks.{seen, marks_of}
use Rattle.cics_history.specs.declared.ops.Op.{Op}
use Rattle.cics_history.specs.declared.ops.Op.TheVariants.{TdRead}
use Rattle.cics_history.proofs.States.{acting_open}
use Rattle.cics_history.proofs.EndsHeld.{end_held}
use Rattle.cics_history.proofs.MarkedParts.{first_of-seen}
use Rattle.cics_history.proofs.InPlace.{committed_in_place}
use Rattle.cics_units.specs.TableInPlace.{IsTableOf}
use Rattle.cics_units.specs.Uses.{holder_over_all}
use Rattle.cics_units.specs.Awaiting.{is_writer, is_logical_in, has_none_for, writer_over, blocking_unit}
use Rattle.cics_units.specs.Opening.StoreMatching.{StoreValue, AnyImage}
use Rattle.cics_units.specs.StoreInPlace.{AreInPlace}
use Rattle.cics_units.proofs.HeldOver.{table_holder}
use Rattle.cics_units.proofs.UsesInTable.{uses_alike, awaited-uses}

-- a list is empty if it has no first
first_of_nothing : (xs : List Bytes) → is_nothing xs ≡ is_none (slice_get xs 0)
first_of_nothing [] = refl
first_of_nothing (x ∷ xs) = refl

module _ (s : UnitsState) (t : Table) (i : IsSound s) (k : IsTableOf s t) (u : Option ℕ) (acts : may_act s u ≡ true) where
  abbrev acting : ℕ
  acting = unit_or_next u s.outcomes

  -- a unit owns the writing end of a LOGICAL queue in the table if it has used it
  pub writer_used : (q : Bytes) → queue_logical s.opening q ≡ true → is_writer t acting q ≡ used s.trace acting (Td q) Writing
  writer_used q l =
      sym (k.holders (WritingEnd q) acting) ∙ end_held s acting q Writing
      ∙ (λ j. acting_open s u acts j && (l j && used s.trace acting (Td q) Writing))

  module _ (store : StoreValue) (images : List (Kept AnyImage)) (place : AreInPlace s store images) where
    -- if no other unit reads a LOGICAL queue, a unit may read a record just if the queue as it
    -- stands gives it one
    pub committed-first : (q : Bytes) → queue_logical s.opening q ≡ true → blocker_at (owned s) u (ReadingEnd q) ≡ None →
        is_nothing (committed_for s u q) ≡ has_none_for (is_writer t acting q) (value_at q store.trans_data)
    committed-first q l free =
        let queue = place.queues q l in
        let has = queue.2 in
        ap is_nothing (committed_in_place s u place.marks q i place.ends l acts free)
        ∙ (λ j. is_nothing (seen false (not (sym (writer_used q l) j)) (has.marks j)))
        ∙ first_of_nothing (seen false (not (is_writer t acting q)) (marks_of queue.0))
        ∙ ap is_none (sym (first_of-seen queue.0 (is_writer t acting q)))
        ∙ ap (λ b. b && is_none (first_of queue.0 (is_writer t acting q))) (sym has.logical)
        ∙ ap (has_none_for (is_writer t acting q)) (sym queue.1)

    -- a read waits for the writer that the queue tells, if no reader is in its way
    read_awaits : (q : Bytes) → queue_logical s.opening q ≡ true →
        first_some (first_some (holder_over (ReadingEnd q) u t) None) (writer_awaited s u (TdRead q))
        ≡ first_some (first_some (holder_over (ReadingEnd q) u t) None) (writer_over t store.trans_data u acting (TdRead q))
    read_awaits q l =
        elim (holder_over (ReadingEnd q) u t) as (λ h. holder_over (ReadingEnd q) u t ≡ h →
        first_some (first_some h None) (writer_awaited s u (TdRead q)) ≡ first_some (first_some h None) (writer_over t store.trans_data u acting (TdRead q))) [
          | Some h ↦ λ held. refl
          | None ↦ λ free. λ j.
              if (ap (λ b. b && is_nothing (committed_for s u q)) l ∙ committed-first q l (table_holder s t i k u (ReadingEnd q) ∙ free)) j
              then table_holder s t i k u (WritingEnd q) j else None
        ] refl

    -- a queue that isn't LOGICAL keeps no read waiting
    read_free : (q : Bytes) → queue_logical s.opening q ≡ false → is_logical_in (value_at q store.trans_data) ≡ false →
        writer_awaited s u (TdRead q) ≡ writer_over t store.trans_data u acting (TdRead q)
    read_free q plain stands =
        ap (λ b. if b && is_nothing (committed_for s u q) then blocker_at (owned s) u (WritingEnd q) else None) plain
        ∙ sym (ap (λ b. if b then holder_over (WritingEnd q) u t else None) (none (value_at q store.trans_data) stands))
      where
        none : (o : Option TransState) → is_logical_in o ≡ false → has_none_for (is_writer t acting q) o ≡ false
        none None e = refl
        none (Some queue) e = ap (λ b. b && is_none (first_of queue (is_writer t acting q))) e

    module _ (alike : (q : Bytes) → queue_logical s.opening q ≡ is_logical_in (value_at q store.trans_data)) where
      -- the writer that a command waits for once no unit is in the way of what it uses
      writer_awaits : (op : Op) →
          first_some (holder_over_all (uses_of s.opening op) u t) (writer_awaited s u op)
          ≡ first_some (holder_over_all (uses_of s.opening op) u t) (writer_over t store.trans_data u acting op)
      writer_awaits (TdRead q) =
          elim (queue_logical s.opening q) as (λ b. queue_logical s.opening q ≡ b →
          first_some (holder_over_all (if b then ReadingEnd q ∷ [] else []) u t) (writer_awaited s u (TdRead q))
          ≡ first_some (holder_over_all (if b then ReadingEnd q ∷ [] else []) u t) (writer_over t store.trans_data u acting (TdRead q))) [
            | true ↦ λ l. read_awaits q l
            | false ↦ λ plain. read_free q plain (sym (alike q) ∙ plain)
          ] refl
      writer_awaits _ = refl

      -- the unit that a command must wait for is the one in its way, by the table and the queues as
      -- they stand
      pub awaited-in_place : (op : Op) →
          awaited s u op ≡ blocking_unit t store.trans_data (is_recoverable s.opening op) u acting op
      awaited-in_place op =
          awaited-uses s t i k u op
          ∙ writer_awaits op
          ∙ ap (λ rs. first_some (holder_over_all rs u t) (writer_over t store.trans_data u acting op)) (sym (uses_alike s.opening op))
