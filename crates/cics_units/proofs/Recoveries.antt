-- Each transient data queue that is defined stands there with its recovery, from the beginning on:
-- whatever keeps some cells of the store in place keeps the recoveries, and so does the commit of
-- the ends that a unit owns.
use Rattle.std.specs.Prelude.{◌≡◌, Bool, Option, Some, None, option_map, refl}
use Rattle.std.proofs.Common.{sym, ap, ◌∙◌}
use Rattle.cics_names.specs.Keyed.{Bytes, value_at}
use Rattle.cics_images.specs.Cells as images
use Rattle.cics_images.specs.NamedValues.{cell_of as value_cell, KeepsIn}
use Rattle.cics_images.specs.StoreCells.{trans_cell}
use Rattle.cics_transdata.specs.Trans.{TransState, is_logical}
use Rattle.cics_transdata.specs.Undo.{KeepsEnds}
use Rattle.cics_history.specs.State.{OpeningState, QueueOpening, queue_logical}
use Rattle.cics_units.specs.Opening.StoreMatching.{StoreValue, AnyKeep}
use Rattle.cics_units.specs.QueueChanges.{HaveRecoveries}

-- a queue that stands there is LOGICAL if the opening has it so
pub logical_as_defined : (o : OpeningState) (m : StoreValue) (q : Bytes) (t : TransState) → HaveRecoveries o m → value_at q m.trans_data ≡ Some t →
    is_logical t.kind ≡ queue_logical o q
logical_as_defined o m q t have there = by (value_at q o.queues) refl (sym (ap (option_map (λ t. t.kind)) there) ∙ have q)
  where
    by : (e : Option QueueOpening) → value_at q o.queues ≡ e → Some t.kind ≡ option_map (λ e. e.recovery) e → is_logical t.kind ≡ queue_logical o q
    by None at fixed = cc
    by (Some e) at fixed = let same : t.kind ≡ e.recovery = cc in ap is_logical same ∙ sym (rw at refl)

-- what keeps some cells of the store in place keeps the recoveries
pub kept_recoveries : (p : images.Cell → Bool) (o : OpeningState) (m n : StoreValue) → AnyKeep p m n → HaveRecoveries o m → HaveRecoveries o n
kept_recoveries p o m n keeps have q = by (value_at q m.trans_data) (value_at q n.trans_data) (keeps.trans_data q) ∙ have q
  where
    by : (a b : Option TransState) → KeepsIn KeepsEnds (λ c. p (trans_cell (value_cell q c))) a b → option_map (λ t. t.kind) b ≡ option_map (λ t. t.kind) a
    by None None kept = refl
    by None (Some t) kept = absurd kept
    by (Some t) None kept = absurd kept
    by (Some t) (Some r) kept = ap Some kept.same_kind
