use Rattle.std.proofs.Common.{◌≡◌, ◌<◌, ◌∙◌, false, Bool, Option, Some, None, List, sym, ap, subst, refl, arith, is_some, not, filter, Bor}
use Rattle.std.specs.Prelude.{if◌then◌else◌, slice_get, slice_set, length}
use Rattle.std.proofs.lemmas.List.{length-set}
use Rattle.std.proofs.lemmas.Result.{IfOk-from_err}
use Rattle.std.specs.Option.{option_copied}
use Rattle.std.proofs.lemmas.Bool.{false_from_ne_true}
use Rattle.cics_names.specs.Keyed.{Bytes}
use Rattle.cics_images.specs.Cells.{Kept}
use Rattle.cics_history.specs.Execution.{covers, with_read}
use Rattle.cics_history.specs.Store.{is_normal, with_content, found_condition}
use Rattle.cics_history.specs.declared.ops.Answer.{Answer}
use Rattle.cics_history.specs.declared.ops.Op.TheVariants.{ReadUpdate}
use Rattle.cics_units.specs.Applied.{IsApplied, IsBound, read_given}
use Rattle.cics_units.specs.Cores.{core_value}
use Rattle.cics_units.specs.Executed.{IsDone, IsExecuted}
use Rattle.cics_units.specs.Parts.{CoreValue, AreRoomier, IsCoreAsBefore, given_record}
use Rattle.cics_units.specs.Opening.StoreMatching.{AnyImage}
use Rattle.cics_units.specs.TableInPlace.{is_read}
use Rattle.cics_units.specs.ImageRows.{kept_by, AreOthersKept}
use Rattle.cics_units.specs.Uses.{uses_if, listed, taken_all}
use Rattle.cics_units.proofs.DoneCommands.{not_read, opened_none, changed_table, read_done}
use Rattle.cics_units.proofs.RefusedCommands.{on_err, condition_normal, reads_refused}
use Rattle.cics_units.proofs.UnitRows.{kept_at, room_at, kept_set, kept_replaced, others_set, row_read}
use Rattle.cics_units.proofs.units_core.UnitsCore.execute.Goals as goal
use Rattle.cics_units.proofs.units_core.UnitsCore.execute.Goals.{After-reserve_images, In_ok-reserve_images, In_ok-copied, In-Ok}

-- what is lent is there as what it points at is
copied_some : (o : Option (Bor Bytes)) → is_some (option_copied o) ≡ is_some o
copied_some None = refl
copied_some (Some x) = refl

-- ---- there is room
module _ (c : In_ok-reserve_images) where
  -- the core with the room that was made
  abbrev roomy : CoreValue
  roomy = record (core_value c.args.self.now) { stores = record { store = c.args.self.now.store; images = c.reserve_images.new.rows.items } }

  executed : (new : CoreValue) (answer : Answer) → IsDone roomy new c.args.unit c.args.bound.now.op.now c.args.bound.now.recoverable c.args.bound.now.own answer →
      IsExecuted (core_value c.args.self.now) new c.args.unit c.args.bound.now.op.now c.args.bound.now.recoverable answer
  executed new answer done = record {
    roomy = roomy.stores;
    room = record { store = refl; kept = c.in_ok-reserve_images.ensures.kept; longer = c.in_ok-reserve_images.ensures.longer };
    begun = c.in_ok-reserve_images.ensures.begun;
    own = c.args.bound.now.own;
    own_is = c.requires.bound.own;
    done = done;
  }

-- ---- READ UPDATE
module _ (c : In_ok-copied) where
  abbrev old : CoreValue
  old = record (core_value c.args.self.now) { stores = record { store = c.args.self.now.store; images = c.reserve_images.new.rows.items } }

  -- the core once the record is held and read for update, if it is there
  abbrev opened_if : Bool → CoreValue
  opened_if there = if there then record old {
    table = taken_all old.table c.args.unit (listed c.args.bound.now.uses);
    reads = with_read (record { unit = c.args.unit; file = c.in-ReadUpdate.file; key = c.in-ReadUpdate.key }) old.reads;
  } else old

  given : option_copied c.args.given ≡ read_given old.stores.store (ReadUpdate c.in-ReadUpdate.file c.in-ReadUpdate.key)
  given = c.requires.given ∙ ap (given_record old.stores.store c.args.bound.now.own) c.in-ReadUpdate.is

  read : (answer : Answer) → answer ≡ with_content (found_condition c.in_ok-copied.field-0) c.in_ok-copied.field-0 →
      IsDone old (opened_if (is_some c.args.given)) c.args.unit c.args.bound.now.op.now c.args.bound.now.recoverable c.args.bound.now.own answer
  read answer is =
      let keep = c.args.bound.now.recoverable in
      let own = c.args.bound.now.own in
      let g = option_copied c.args.given in
      let told : answer ≡ with_content (found_condition g) g = is ∙ ap (λ o. with_content (found_condition o) o) c.in_ok-copied.ensures in
      subst (λ op. IsDone old (opened_if (is_some c.args.given)) c.args.unit op keep own answer) (sym c.in-ReadUpdate.is)
      (subst (λ a. IsDone old (opened_if (is_some c.args.given)) c.args.unit (ReadUpdate c.in-ReadUpdate.file c.in-ReadUpdate.key) keep own a) (sym told)
      (subst (λ b. IsDone old (opened_if b) c.args.unit (ReadUpdate c.in-ReadUpdate.file c.in-ReadUpdate.key) keep own (with_content (found_condition g) g)) (copied_some c.args.given)
      (read_done old c.args.unit c.in-ReadUpdate.file c.in-ReadUpdate.key keep own g (listed c.args.bound.now.uses)
      (subst (λ op. IsBound old.stores.store op keep) c.in-ReadUpdate.is c.requires.bound.bound) given (c.requires.bound.used ∙ ap (uses_if keep) c.in-ReadUpdate.is))))

pub returns-then-is_none-clause-executed : goal.returns-then-is_none-clause-executed
returns-then-is_none-clause-executed c =
    let at = goal.at.returns-then-is_none-clause-executed c in
    let none : is_some c.args.given ≡ false = c.is_none.ensures ∙ ap not c.if-is_none.true in
    executed at.In_ok-reserve_images (old at.In_ok-copied) c.found-answer.result
    (subst (λ b. IsDone (old at.In_ok-copied) (opened_if at.In_ok-copied b) c.args.unit c.args.bound.now.op.now c.args.bound.now.recoverable c.args.bound.now.own c.found-answer.result) none
    (read at.In_ok-copied c.found-answer.result c.found-answer.ensures))

pub returns-in-ReadUpdate-clause-executed : goal.returns-in-ReadUpdate-clause-executed
returns-in-ReadUpdate-clause-executed c =
    let at = goal.at.returns-in-ReadUpdate-clause-executed c in
    let some = c.is_none.ensures ∙ ap not c.if-is_none.false in
    executed at.In_ok-reserve_images (core_value c.open_read.new.self) c.found-answer.result
    (subst (λ n. IsDone (old at.In_ok-copied) n c.args.unit c.args.bound.now.op.now c.args.bound.now.recoverable c.args.bound.now.own c.found-answer.result) (sym (ap core_value c.in_ok-open_read.ensures.value))
    (subst (λ b. IsDone (old at.In_ok-copied) (opened_if at.In_ok-copied b) c.args.unit c.args.bound.now.op.now c.args.bound.now.recoverable c.args.bound.now.own c.found-answer.result) some
    (read at.In_ok-copied c.found-answer.result c.found-answer.ensures)))

-- ---- a change
pub apply-requires : goal.apply-requires
apply-requires c =
    let row = c.index_mut.result.now in
    let room = room_at c.reserve_images.new.rows.items c.args.unit row
    (row_read c.reserve_images.new.rows.items c.args.unit row c.number-at.result c.number-at.ensures c.in_ok-reserve_images.ensures.begun c.index_mut.ensures.value) in
    record {
      change = not_read c.args.bound.now.op.now (λ f k is. c.in_default.not-ReadUpdate f k is);
      bound = c.requires.bound.bound;
      fit = c.requires.fit;
      seen = c.requires.seen;
      one = omega (arith, c.most_images-most.ensures.some, c.in_ok-reserve_images.ensures.room, room);
      most = omega (arith, c.most_images-most.ensures.all, c.in_ok-reserve_images.ensures.room, room);
    }

module _ (c : In-Ok) where
  abbrev before : List (Kept AnyImage)
  before = c.reserve_images.new.rows.items

  there : slice_get before c.args.unit ≡ Some c.index_mut.result.now
  there = row_read before c.args.unit c.index_mut.result.now c.number-at.result c.number-at.ensures c.in_ok-reserve_images.ensures.begun c.index_mut.ensures.value

  change : is_read c.args.bound.now.op.now ≡ false
  change = not_read c.args.bound.now.op.now (λ f k is. c.in_default.not-ReadUpdate f k is)

  abbrev after : List (Kept AnyImage)
  after = slice_set before c.number-at.result c.apply.new.images

  -- the images that the unit keeps are those of its row
  applied : IsApplied c.args.self.now.store c.apply.new.store (kept_by before c.args.unit) (kept_by after c.args.unit) c.args.bound.now.op.now c.args.bound.now.recoverable c.args.bound.now.own c.in-Ok.answer
  applied =
      let u = c.args.unit in
      let op = c.args.bound.now.op.now in
      let keep = c.args.bound.now.recoverable in
      let own = c.args.bound.now.own in
      let now : kept_by after u ≡ c.apply.new.images.newest_first =
      ap (λ n. kept_by (slice_set before n c.apply.new.images) u) c.number-at.ensures ∙ kept_set before u c.apply.new.images c.in_ok-reserve_images.ensures.begun in
      subst (λ is. IsApplied c.args.self.now.store c.apply.new.store is (kept_by after u) op keep own c.in-Ok.answer) (sym (kept_at before u c.index_mut.result.now there))
      (subst (λ is. IsApplied c.args.self.now.store c.apply.new.store c.index_mut.result.now.newest_first is op keep own c.in-Ok.answer) (sym now) c.in-Ok.ensures.applied)

  others : AreOthersKept before after c.args.unit
  others = subst (λ n. AreOthersKept before (slice_set before n c.apply.new.images) c.args.unit) (sym c.number-at.ensures) (others_set before c.args.unit c.apply.new.images)

pub returns-in-Normal : goal.returns-in-Normal
returns-in-Normal c =
    let at = goal.at.returns-in-Normal c in
    let old = roomy at.In_ok-reserve_images in
    let u = c.args.unit in
    let op = c.args.bound.now.op.now in
    let keep = c.args.bound.now.recoverable in
    let own = c.args.bound.now.own in
    record {
      executed = executed at.In_ok-reserve_images (core_value c.end_covered.new.self) c.in-Ok.answer
          (subst (λ n. IsDone old n u op keep own c.in-Ok.answer) (sym (ap core_value c.end_covered.ensures)) (record {
            applied = applied at.In-Ok;
            others = others at.In-Ok;
            table = rw c.in-Normal.is (rw c.in_ok-were_free.ensures.taken (changed_table keep u op (listed c.args.bound.now.uses) old.reads old.table c.requires.bound.used (change at.In-Ok)));
            reads = rw c.in-Normal.is (sym (opened_none u op (filter (λ r. not (covers u op r)) old.reads) (change at.In-Ok)));
          }));
      err = tt;
    }

pub returns-in_default-condition : goal.returns-in_default-condition
returns-in_default-condition c =
    let at = goal.at.returns-in_default-condition c in
    let old = roomy at.In_ok-reserve_images in
    let u = c.args.unit in
    let op = c.args.bound.now.op.now in
    let answer = c.in-Ok.answer in
    let refused : is_normal answer.condition ≡ false = false_from_ne_true _ (λ normal. c.in_default-condition.not-Normal (condition_normal answer.condition normal)) in
    record {
      executed = executed at.In_ok-reserve_images _ answer (record {
        applied = applied at.In-Ok;
        others = others at.In-Ok;
        table = rw refused (c.let_go_all.ensures ∙ c.in_ok-were_free.ensures.undone);
        reads = reads_refused u op answer.condition old.reads refused;
      });
      err = tt;
    }

-- ---- memory is refused
-- there is more room
roomier : (c : After-reserve_images) → AreRoomier (core_value c.args.self.now).stores (record { store = c.args.self.now.store; images = c.reserve_images.new.rows.items })
roomier c = record { store = refl; kept = c.reserve_images.ensures.kept; longer = c.reserve_images.ensures.longer }

pub returns-in_err-reserve_images-clause-executed : goal.returns-in_err-reserve_images-clause-executed
returns-in_err-reserve_images-clause-executed c = IfOk-from_err c.from_residual.result _ c.from_residual.ensures.0

pub returns-in_err-reserve_images-clause-err : goal.returns-in_err-reserve_images-clause-err
returns-in_err-reserve_images-clause-err c =
    on_err c.from_residual.result (record { stores = roomier (goal.at.returns-in_err-reserve_images-clause-err c).After-reserve_images; table = refl; reads = refl })

pub returns-in_err-copied-clause-executed : goal.returns-in_err-copied-clause-executed
returns-in_err-copied-clause-executed c = IfOk-from_err c.from_residual-in_err-copied.result _ c.from_residual-in_err-copied.ensures.0

pub returns-in_err-copied-clause-err : goal.returns-in_err-copied-clause-err
returns-in_err-copied-clause-err c =
    on_err c.from_residual-in_err-copied.result (record { stores = roomier (goal.at.returns-in_err-copied-clause-err c).After-reserve_images; table = refl; reads = refl })

pub returns-in_err-open_read-clause-executed : goal.returns-in_err-open_read-clause-executed
returns-in_err-open_read-clause-executed c = IfOk-from_err c.from_residual-in_err-open_read.result _ c.from_residual-in_err-open_read.ensures.0

pub returns-in_err-open_read-clause-err : goal.returns-in_err-open_read-clause-err
returns-in_err-open_read-clause-err c =
    on_err c.from_residual-in_err-open_read.result
    (subst (λ n. IsCoreAsBefore (core_value c.args.self.now) (core_value n)) (sym c.in_err-open_read.ensures.err)
    (record { stores = roomier (goal.at.returns-in_err-open_read-clause-err c).After-reserve_images; table = refl; reads = refl }))

pub returns-in_err-were_free : goal.returns-in_err-were_free
returns-in_err-were_free c = record {
  executed = IfOk-from_err c.from_residual-in_err-were_free.result _ c.from_residual-in_err-were_free.ensures.0;
  err = on_err c.from_residual-in_err-were_free.result (record { stores = roomier (goal.at.returns-in_err-were_free c).After-reserve_images; table = c.in_err-were_free.ensures.err; reads = refl });
}

pub index_mut-requires : goal.index_mut-requires
index_mut-requires c = omega (arith, c.number-at.ensures, c.in_ok-reserve_images.ensures.begun, c.reserve_images.new.rows.ok.0)

pub end_covered-requires : goal.end_covered-requires
end_covered-requires c = record { short = c.requires.short; once = c.requires.once }

pub returns-in-Err : goal.returns-in-Err
returns-in-Err c =
    let rows = c.reserve_images.new.rows.items in
    let row = c.index_mut.result.now in
    let at = c.number-at.result in
    let read : slice_get rows at ≡ Some row = row_read rows at row at refl (subst (λ n. n < length rows) (sym c.number-at.ensures) c.in_ok-reserve_images.ensures.begun) c.index_mut.ensures.value in
    let same : c.apply.new.images.newest_first ≡ kept_by rows at = ap (λ r. r.newest_first) c.in-Err.ensures.err_images ∙ sym (kept_at rows at row read) in
    record {
      executed = tt;
      err = record {
        stores = record {
          store = c.in-Err.ensures.err_store;
          kept = λ w. kept_replaced rows at w c.apply.new.images same ∙ c.reserve_images.ensures.kept w;
          longer = omega (arith, c.reserve_images.ensures.longer, length-set rows at c.apply.new.images);
        };
        table = c.let_go_all-in-Err.ensures ∙ c.in_ok-were_free.ensures.undone;
        reads = refl;
      };
    }
