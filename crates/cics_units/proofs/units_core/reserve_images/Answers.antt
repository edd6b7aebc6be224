use Rattle.std.specs.Prelude.{◌≡◌, ◌<◌, ◌≤◌, ◌+◌, ℕ, zero, suc, List, [], ◌∷◌, ◌++◌, length, slice_set, refl}
use Rattle.std.proofs.Common.{◌∙◌, ap, sym, subst, arith, length-append}
use Rattle.std.proofs.lemmas.List.{length-set}
use Rattle.std.proofs.lemmas.Result.{on_ok_weaker}
use Rattle.cics_images.specs.Cells.{Kept}
use Rattle.cics_units.specs.ImageRows.{kept_by, room_of}
use Rattle.cics_units.proofs.UnitRows.{kept_at, kept_replaced, row_read}
use Rattle.cics_units.proofs.units_core.reserve_images.Goals as goal
use Rattle.cics_units.proofs.units_core.reserve_images.Goals.{After-index_mut, then-at-len+in_ok-push, else-at-len}

-- a row without images is added
appended : {I : Type 0} (rows : List (Kept I)) (w : ℕ) (x : Kept I) → x.newest_first ≡ [] → kept_by (rows ++ x ∷ []) w ≡ kept_by rows w
appended [] zero x none = none
appended [] (suc w) x none = refl
appended (r ∷ rows) zero x none = refl
appended (r ∷ rows) (suc w) x none = appended rows w x none

-- a row that is put in place has its room
room_set : {I : Type 0} (rows : List (Kept I)) (u : ℕ) (x : Kept I) → u < length rows → room_of (slice_set rows u x) u ≡ x.room
room_set [] u x begun = absurd (omega arith)
room_set (r ∷ rows) zero x begun = refl
room_set (r ∷ rows) (suc u) x begun = room_set rows u x (omega arith)

-- the unit has a row
module _ (c : After-index_mut) where
  grown : (w : ℕ) → kept_by c.if-at-len.rows.items w ≡ kept_by c.args.rows.now.items w
  grown w = elim c.if-at-len.branch [
    | then-at-len+in_ok-push b ↦
        ap (λ r. kept_by r.items w) b.rows-is ∙ ap (λ rows. kept_by rows w) b.in_ok-push.ensures.items
        ∙ appended b.spare_images-images.new.rows.items w b.spare_images-images.result b.spare_images-images.ensures.empty ∙ b.spare_images-images.ensures.kept w
    | else-at-len b ↦ ap (λ r. kept_by r.items w) b.rows-is
  ]

  begun : (length c.args.rows.now.items ≤ length c.if-at-len.rows.items) × (c.number-at.result < length c.if-at-len.rows.items)
  begun = elim c.if-at-len.branch [
    | then-at-len+in_ok-push b ↦
        let more : length c.if-at-len.rows.items ≡ length c.args.rows.now.items + 1 =
        ap (λ r. length r.items) b.rows-is ∙ ap length b.in_ok-push.ensures.items ∙ length-append b.spare_images-images.new.rows.items (b.spare_images-images.result ∷ [])
        ∙ ap (λ n. n + 1) b.spare_images-images.ensures.count in
        (omega (arith, more), omega (arith, more, c.number-at.ensures, c.requires.begun))
    | else-at-len b ↦
        let same : length c.if-at-len.rows.items ≡ length c.args.rows.now.items = ap (λ r. length r.items) b.rows-is in
        (omega (arith, same), omega (arith, same, b.if-at-len.false, c.len.ensures, c.args.rows.now.ok.0, c.number-at.ensures, c.requires.begun))
  ]

-- its row was read
held : (c : After-index_mut) → c.number-at.result < length c.if-at-len.rows.items → c.index_mut.result.now.newest_first ≡ kept_by c.if-at-len.rows.items c.number-at.result
held c begun =
    let rows = c.if-at-len.rows.items in
    let row = c.index_mut.result.now in
    sym (kept_at rows c.number-at.result row (row_read rows c.number-at.result row c.number-at.result refl begun c.index_mut.ensures.value))

pub index_mut-requires : goal.index_mut-requires
index_mut-requires c = elim c.if-at-len.branch [
  | then-at-len+in_ok-push b ↦
      let more : length c.if-at-len.rows.items ≡ length c.args.rows.now.items + 1 =
      ap (λ r. length r.items) b.rows-is ∙ ap length b.in_ok-push.ensures.items ∙ length-append b.spare_images-images.new.rows.items (b.spare_images-images.result ∷ [])
      ∙ ap (λ n. n + 1) b.spare_images-images.ensures.count in
      omega (arith, more, c.number-at.ensures, c.requires.begun, c.if-at-len.rows.ok.0)
  | else-at-len b ↦
      let same : length c.if-at-len.rows.items ≡ length c.args.rows.now.items = ap (λ r. length r.items) b.rows-is in
      omega (arith, same, b.if-at-len.false, c.len.ensures, c.args.rows.now.ok.0, c.number-at.ensures, c.requires.begun, c.if-at-len.rows.ok.0)
]

pub returns-in_err-push-clause-kept : goal.returns-in_err-push-clause-kept
returns-in_err-push-clause-kept c = λ w. ap (λ rows. kept_by rows w) c.in_err-push.ensures.items ∙ c.spare_images-images.ensures.kept w

pub returns-clause-kept : goal.returns-clause-kept
returns-clause-kept c = λ w.
    let at = goal.at.returns-clause-kept c in
    kept_replaced c.if-at-len.rows.items c.number-at.result w c.make_room_for.new.self (c.make_room_for.ensures.images ∙ held at.After-index_mut (begun at.After-index_mut).1) ∙ grown at.After-index_mut w

pub returns-clause-longer : goal.returns-clause-longer
returns-clause-longer c =
    let long = (begun (goal.at.returns-clause-longer c).After-index_mut).0 in
    omega (arith, long, length-set c.if-at-len.rows.items c.number-at.result c.make_room_for.new.self)

pub returns-clause-begun : goal.returns-clause-begun
returns-clause-begun c =
    let inside = (begun (goal.at.returns-clause-begun c).After-index_mut).1 in
    let unit : c.args.unit < length (slice_set c.if-at-len.rows.items c.number-at.result c.make_room_for.new.self) =
    omega (arith, inside, c.number-at.ensures, length-set c.if-at-len.rows.items c.number-at.result c.make_room_for.new.self) in
    on_ok_weaker c.make_room_for.result (λ _. unit) c.make_room_for.ensures.ok

pub returns-clause-room : goal.returns-clause-room
returns-clause-room c =
    let rows = c.if-at-len.rows.items in
    let unit = c.number-at.result in
    let inside = (begun (goal.at.returns-clause-room c).After-index_mut).1 in
    on_ok_weaker c.make_room_for.result
    (subst (λ n. c.args.count ≤ n) (sym (ap (room_of (slice_set rows unit c.make_room_for.new.self)) (sym c.number-at.ensures) ∙ room_set rows unit c.make_room_for.new.self inside)))
    c.make_room_for.ensures.ok
