-- What the calls of a transient data queue promise is a change of it as `IsTransChange` says. The
-- table of enqueues tells whether a unit owns the writing end.
use Rattle.std.proofs.Common.{◌≡◌, ℕ, Bool, true, false, not, ◌&&◌, Option, refl, ap, sym, ◌∙◌}
use Rattle.std.specs.Prelude.{IfSome, IfNone}
use Rattle.std.proofs.lemmas.Bool.{false≢true}
use Rattle.cics_names.specs.Keyed.{Bytes}
use Rattle.cics_images.specs.Cells.{is_other}
use Rattle.cics_enqueue.specs.Table.{Table, holder_of}
use Rattle.cics_transdata.specs.declared.images.TdImage.{TdImage}
use Rattle.cics_transdata.specs.Trans.{TransState, unread, trans_written, trans_read, trans_deleted}
use Rattle.cics_transdata.specs.Undo.{reading_end, writing_end, KeepsEnds, IsTransImage, written_image, read_image, deleted_image}
use Rattle.cics_history.specs.Headline.{outcome_of, is_open}
use Rattle.cics_history.specs.State.{UnitsState}
use Rattle.cics_history.specs.Holders.{end_of as end_resource}
use Rattle.cics_history.specs.declared.ops.Op.TheVariants.{TdWrite, TdRead, TdDelete}
use Rattle.cics_history.specs.Cells.{End}
use Rattle.cics_history.proofs.EndsHeld.{end_held}
use Rattle.cics_units.specs.TableInPlace.{is_holder, IsTableOf}
use Rattle.cics_units.specs.StoreInPlace.{holds_end}
use Rattle.cics_units.specs.QueueChanges.{IsTransChange}
use Rattle.cics_units.proofs.TransChanges.{kind_after}

-- the table has a unit as the owner of an end if the unit, which is open, owns it
pub end_by_table : (s : UnitsState) (table : Table) → IsTableOf s table → (unit : ℕ) → is_open (outcome_of s.outcomes unit) ≡ true → (q : Bytes) (end : End) →
    is_holder unit (holder_of (end_resource q end) table) ≡ holds_end s unit q end
end_by_table s table of unit on q end =
    sym (of.holders (end_resource q end) unit) ∙ end_held s unit q end ∙ ap (λ b. b && holds_end s unit q end) on

module _ (old new : TransState) (image : Option TdImage) (q : Bytes) (own : Bool)
    (without_image : IfNone image (KeepsEnds (λ c. true) old new)) where
  -- WRITEQ TD
  pub write_change : (d : Bytes) → new ≡ trans_written old d → image ≡ written_image old → IfSome image (IsTransImage old new writing_end) →
      KeepsEnds (is_other writing_end) old new → IsTransChange (TdWrite q d) own old new image
  write_change d value given undoable others = record {
    value = value;
    given = given;
    undoable = undoable;
    others = record { same_kind = others.same_kind; reading = λ h. others.reading refl; writing = λ h. absurd (false≢true h) };
    without_image = without_image;
  }

  -- READQ TD
  pub read_change : new ≡ trans_read old own → image ≡ read_image old own → IfSome image (IsTransImage old new reading_end) →
      (own ≡ false → unread new ≡ unread old) → (unread new ≡ unread old → KeepsEnds (is_other reading_end) old new) →
      IsTransChange (TdRead q) own old new image
  read_change value given undoable fresh others = record {
    value = value;
    given = given;
    undoable = undoable;
    others = record {
      same_kind = ap (λ t. t.kind) value ∙ kind_after (TdRead q) own old;
      reading = λ h. absurd (false≢true h);
      writing = λ h. (others (fresh (not_own own h))).writing refl;
    };
    without_image = without_image;
  }
    where
      not_own : (b : Bool) → not b ≡ true → b ≡ false
      not_own false h = refl
      not_own true h = absurd (false≢true h)

  -- DELETEQ TD
  pub delete_change : new ≡ trans_deleted old → image ≡ deleted_image old → IfSome image (IsTransImage old new reading_end) →
      IsTransChange (TdDelete q) own old new image
  delete_change value given undoable = record {
    value = value;
    given = given;
    undoable = undoable;
    others = record {
      same_kind = ap (λ t. t.kind) value ∙ kind_after (TdDelete q) own old;
      reading = λ h. absurd (false≢true h);
      writing = λ h. absurd (false≢true h);
    };
    without_image = without_image;
  }
