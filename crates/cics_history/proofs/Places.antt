-- Every call keeps the place: the cells hold what the history gives, and the images lead back.
use Rattle.std.proofs.Common.{◌≡◌, ℕ, true, false, ◌&&◌, Option, None, List, [], ◌∷◌, ◌++◌, length, refl, ap, sym, subst, ◌∙◌, eqb, inl, inr, ◌<◌}
use Rattle.std.specs.Prelude.{if◌then◌else◌, MatchBool, slice_set}
use Rattle.std.proofs.lemmas.Bool.{false≢true, cases_Bool, cond_both, eqb-true, eqb-false, and_parts, and_cases, and_left, ltb-true}
use Rattle.std.proofs.lemmas.Option.{unwrap_or-slice_get}
use Rattle.std.proofs.lemmas.List.{get_or-set_same}
use Rattle.cics_names.specs.Keyed.{Bytes}
use Rattle.cics_history.specs.State.{OpeningState, UnitsState, initial_units}
use Rattle.cics_history.specs.Store.{apply}
use Rattle.cics_history.specs.Headline.{outcome_of, is_open, is_backed_out}
use Rattle.cics_history.specs.Holding.{store_of, awaited}
use Rattle.cics_history.specs.Execution.{unit_or_next, entered, state_of, after_execution, after_end, after_enqueue, after_dequeue, after_unlock, after_ts_reading}
use Rattle.cics_history.specs.declared.ops.Op.{Op}
use Rattle.cics_history.specs.declared.ops.Entry.{Entry}
use Rattle.cics_history.specs.declared.ops.UnitState.{UnitState}
use Rattle.cics_history.specs.declared.ops.UnitState.TheVariants.{Open, Committed, BackedOut}
use Rattle.cics_history.specs.Cells.{Cell, Content, content, is_generic, cell_of, same_cell, touches, effect, Writing, recovers}
use Rattle.cics_history.specs.Events.{is_live, may_act}
use Rattle.cics_history.specs.Isolation.{Outcomes, store_by, used, Extends, IsSound}
use Rattle.cics_history.specs.Undo.{Image, Cells, Leads, names, is_plain, changes, AreImages, image_of, Place, without_images, put, ended, IsUndoable, AllReady, IsPlaceOf, placed, place_executed, place_committed, place_undone}
use Rattle.cics_history.proofs.Joining.{same_cell-true, same_cell-refl, touches-named}
use Rattle.cics_history.proofs.Isolated.{Extends-refl, unrecovered}
use Rattle.cics_history.proofs.Executes.{open_kept}
use Rattle.cics_history.proofs.Waiting.{MayRun_from}
use Rattle.cics_history.proofs.Outcomes.{same_function, same_outcomes, outcome_of-set}
use Rattle.cics_history.proofs.SameHistory.{enqueue-same, dequeue-same, unlock-same, ts_reading-same}
use Rattle.cics_history.proofs.States.{acting_open}
use Rattle.cics_history.proofs.Undoing.{Leads-none, undone-at, store_by-alike, Extends-ended, puts, passes}

-- the unit ends, and its images go
module _ {o : OpeningState} {es : List Entry} {out : Outcomes} {p : Place} (h : IsUndoable o es out p) (v : ℕ)
    (live : is_open (out v) ≡ true) where
  named_without : (x : Cell) (u : ℕ) → (recovers o x && used es u x Writing) ≡ false →
      names x (without_images p.images v u) ≡ false
  named_without x u n =
      cond_both (eqb u v) [] (p.images u) (λ l. names x l ≡ false) (λ t. refl) (λ t. h.named x u n)

  bare_without : (x : Cell) (u : ℕ) → is_plain o x ≡ false → names x (without_images p.images v u) ≡ false
  bare_without x u n =
      cond_both (eqb u v) [] (p.images u) (λ l. names x l ≡ false) (λ t. refl) (λ t. h.bare x u n)

  leads_without : (outcome : UnitState) → is_open outcome ≡ false → (x : Cell) → is_plain o x ≡ true →
      recovers o x ≡ true → (u : ℕ) → is_open (ended out v outcome u) ≡ true → (fin : Outcomes) →
      Extends (ended out v outcome) fin → is_backed_out (fin u) ≡ false →
      Leads (without_images p.images v u) x (content (store_by o fin es) x)
      (content (store_by o (ended fin u BackedOut) es) x)
  leads_without outcome shut x plain r u on fin f stay = elim (cases_Bool (eqb u v)) [
    | inl same ↦ let still : is_open outcome ≡ true = rw same at on in absurd (false≢true (sym shut ∙ still))
    | inr other ↦
        let still : is_open (out u) ≡ true = rw other at on in
        rw other (h.leads x plain r u still fin (Extends-ended out v outcome fin live f) stay)
  ]

  same_backed_out : (u : ℕ) → is_backed_out (out u) ≡ is_backed_out (ended out v Committed u)
  same_backed_out u =
      elim (cases_Bool (eqb u v)) [
        | inl same ↦ rw same (ap (λ n. is_backed_out (out n)) (eqb-true u v same) ∙ open_kept (out v) live)
        | inr other ↦ rw other refl
      ]

  pub commits : IsUndoable o es (ended out v Committed) (place_committed p v)
  commits = record {
    in_place = λ x plain. h.in_place x plain ∙ store_by-alike o out (ended out v Committed) same_backed_out es x;
    leads = leads_without Committed refl;
    named = named_without;
    bare = bare_without;
  }

  -- undoing the images leaves what the history gives without the unit
  pub backs_out : IsUndoable o es (ended out v BackedOut) (place_undone p v)
  backs_out = record {
    in_place = λ x plain. elim (cases_Bool (recovers o x)) [
      | inl r ↦
          undone-at (p.images v) x p.cells _
          (subst (λ c. Leads (p.images v) x c (content (store_by o (ended out v BackedOut) es) x))
          (sym (h.in_place x plain)) (h.leads x plain r v live out (Extends-refl out) (open_kept (out v) live)))
      | inr n ↦
          undone-at (p.images v) x p.cells _
          (Leads-none (p.images v) x _ _ (h.named x v (and_left (recovers o x) (used es v x Writing) n))
          (h.in_place x plain ∙ unrecovered o x n out (ended out v BackedOut) es))
    ];
    leads = leads_without BackedOut refl;
    named = named_without;
    bare = bare_without;
  }

-- the statement per cell gives that each image is ready when its turn comes
AllReady_from : (is : List Image) (s : Cells) → ((x : Cell) → (to : Content) × Leads is x (s x) to) →
    AllReady s is
AllReady_from [] s h = tt
AllReady_from (i ∷ is) s h =
    let own = h i.cell in
    let head = rw (same_cell-refl i.cell) at own.1 in (
      head.0,
      AllReady_from is (λ x. if same_cell i.cell x then i.before else s x)
          (λ x. elim (cases_Bool (same_cell i.cell x)) [
            | inl y ↦ let l = rw y at (h x).1 in ((h x).0, rw y l.1)
            | inr n ↦ let l = rw n at (h x).1 in ((h x).0, rw n l)
          ]),
    )

images_ready : {o : OpeningState} {es : List Entry} {out : Outcomes} {p : Place} → IsUndoable o es out p →
    (u : ℕ) → is_open (out u) ≡ true → AllReady p.cells (p.images u)
images_ready {o} {es} {out} {p} h u on =
    AllReady_from (p.images u) p.cells (λ x. elim (cases_Bool (is_plain o x && recovers o x)) [
      | inl t ↦ let a = and_parts _ _ t in (
        content (store_by o (ended out u BackedOut) es) x,
        subst (λ c. Leads (p.images u) x c (content (store_by o (ended out u BackedOut) es) x))
            (sym (h.in_place x a.0)) (h.leads x a.0 a.1 u on out (Extends-refl out) (open_kept (out u) on)),
      )
      | inr n ↦ (
        p.cells x,
        Leads-none (p.images u) x (p.cells x) (p.cells x) (elim (and_cases (is_plain o x) (recovers o x) n) [
          | inl q ↦ h.bare x u q
          | inr r ↦ h.named x u (and_left (recovers o x) (used es u x Writing) r)
        ]) refl,
      )
    ])

-- the image of a command that acts on one cell
pub image_of-AreImages : (op : Op) (s : Cells) → is_generic op ≡ false → AreImages op s (image_of op (s (cell_of op)))
image_of-AreImages op s one x = single op (touches-named op one) x
  where
    single : (op : Op) → ((x : Cell) → touches op x ≡ same_cell (cell_of op) x) →
        AreImages op s (image_of op (s (cell_of op)))
    single op is x = elim (cases_Bool (same_cell (cell_of op) x)) [
      | inl y ↦
          subst
          (λ z. MatchBool (touches op z && changes op (s z))
          ((l : List Image) (to : Content) → Leads l z (s z) to →
          Leads (image_of op (s (cell_of op)) ++ l) z (effect op (s z)).cell to)
          (names z (image_of op (s (cell_of op))) ≡ false))
          (same_cell-true (cell_of op) x y)
          (rw (is (cell_of op), same_cell-refl (cell_of op)) (elim (cases_Bool (changes op (s (cell_of op)))) [
            | inl t ↦ rw t (λ l to h. rw (same_cell-refl (cell_of op)) (refl, h))
            | inr n ↦ rw n refl
          ]))
      | inr n ↦
          rw (is x, n)
          (cond_both (changes op (s (cell_of op)))
          (record {
            cell = cell_of op;
            before = s (cell_of op);
            made = (effect op (s (cell_of op))).cell;
          } ∷ []) [] (λ l. names x l ≡ false) (λ t. rw n refl)
          (λ t. refl))
    ]

-- the outcomes after one ends
pub ended_by_set : (outs : List UnitState) (v : ℕ) (oc : UnitState) → v < length outs →
    ended (outcome_of outs) v oc ≡ outcome_of (slice_set outs v oc)
ended_by_set outs v oc less =
    same_function (ended (outcome_of outs) v oc) (outcome_of (slice_set outs v oc))
    (λ n. elim (cases_Bool (eqb n v)) [
      | inl same ↦
          rw same
          (subst (λ k. oc ≡ outcome_of (slice_set outs v oc) k) (sym (eqb-true n v same))
          (sym (unwrap_or-slice_get (slice_set outs v oc) v Open ∙ get_or-set_same outs v oc Open less)))
      | inr other ↦ rw other (sym (outcome_of-set outs v n oc (eqb-false n v other)))
    ])

pub initial_units-IsPlaceOf : (o : OpeningState) → IsPlaceOf (initial_units o) (placed o)
initial_units-IsPlaceOf o = record {
  in_place = λ x plain. refl;
  leads = λ x plain r u on fin f stay. refl;
  named = λ x u n. refl;
  bare = λ x u n. refl;
}

pub entered-IsPlaceOf : (s : UnitsState) (p : Place) (u : Option ℕ) (op : Op) (new : List Image) →
    IsSound s → IsPlaceOf s p → may_act s u ≡ true → awaited s u op ≡ None → AreImages op p.cells new →
    IsPlaceOf (entered s u op (apply (store_of s) op).answer) (place_executed s p u op new)
entered-IsPlaceOf s p u op new i h acts free are =
    let may = MayRun_from s i.known u op free (acting_open s u acts) in
    let v = unit_or_next u s.outcomes in
    let longer : List Entry = s.trace ++ record {
      unit = v;
      op = op;
      answer = (apply (store_of s) op).answer;
    } ∷ [] in
    subst (λ out. IsUndoable s.opening longer out (place_executed s p u op new)) (same_outcomes u s.outcomes)
    (cond_both (is_plain s.opening (cell_of op)) (put s.opening p v op new) p
    (IsUndoable s.opening longer (outcome_of s.outcomes))
    (puts i.isolated h v op may new are) (passes i.isolated h v op may new are))

pub execution-IsPlaceOf : (s : UnitsState) (p : Place) (u : Option ℕ) (op : Op) (new : List Image) →
    IsSound s → IsPlaceOf s p → may_act s u ≡ true → awaited s u op ≡ None → AreImages op p.cells new →
    IsPlaceOf (after_execution s u op) (place_executed s p u op new)
execution-IsPlaceOf s p u op new i h acts free are =
    subst (λ w. IsPlaceOf (state_of s u op w) (place_executed s p u op new)) (sym free)
    (entered-IsPlaceOf s p u op new i h acts free are)

pub commit-IsPlaceOf : (s : UnitsState) (p : Place) (v : ℕ) → IsPlaceOf s p → is_live s v ≡ true →
    IsPlaceOf (after_end s v Committed) (place_committed p v)
commit-IsPlaceOf s p v h live =
    let a = and_parts _ _ live in
    subst (λ out. IsUndoable s.opening s.trace out (place_committed p v))
    (ended_by_set s.outcomes v Committed (ltb-true _ _ a.0)) (commits h v a.1)

pub back_out-IsPlaceOf : (s : UnitsState) (p : Place) (v : ℕ) → IsPlaceOf s p → is_live s v ≡ true →
    IsPlaceOf (after_end s v BackedOut) (place_undone p v)
back_out-IsPlaceOf s p v h live =
    let a = and_parts _ _ live in
    subst (λ out. IsUndoable s.opening s.trace out (place_undone p v))
    (ended_by_set s.outcomes v BackedOut (ltb-true _ _ a.0)) (backs_out h v a.1)

-- ENQ, DEQ, UNLOCK and READQ TS keep the place
pub enqueue-IsPlaceOf : (s : UnitsState) (p : Place) (u : Option ℕ) (v : Bytes) → IsPlaceOf s p →
    IsPlaceOf (after_enqueue s u v) p
enqueue-IsPlaceOf s p u v h = enqueue-same (λ o es out. IsUndoable o es out p) s h u v

pub dequeue-IsPlaceOf : (s : UnitsState) (p : Place) (u : ℕ) (v : Bytes) → IsPlaceOf s p →
    IsPlaceOf (after_dequeue s u v) p
dequeue-IsPlaceOf s p u v h = dequeue-same (λ o es out. IsUndoable o es out p) s h u v

pub unlock-IsPlaceOf : (s : UnitsState) (p : Place) (u : ℕ) (f : Bytes) → IsPlaceOf s p →
    IsPlaceOf (after_unlock s u f) p
unlock-IsPlaceOf s p u f h = unlock-same (λ o es out. IsUndoable o es out p) s h u f

pub ts_reading-IsPlaceOf : (s : UnitsState) (p : Place) (q : Bytes) (n : ℕ) → IsPlaceOf s p →
    IsPlaceOf (after_ts_reading s q n) p
ts_reading-IsPlaceOf s p q n h = ts_reading-same (λ o es out. IsUndoable o es out p) s h q n

-- LEADING BACK
pub leads_back : (s : UnitsState) (p : Place) (v : ℕ) (x : Cell) → IsPlaceOf s p → is_live s v ≡ true →
    is_plain s.opening x ≡ true → recovers s.opening x ≡ true →
    Leads (p.images v) x (p.cells x) (content (store_of (after_end s v BackedOut)) x)
leads_back s p v x h live plain r =
    let a = and_parts _ _ live in
    let out : Outcomes = outcome_of s.outcomes in
    subst (λ fin. Leads (p.images v) x (p.cells x) (content (store_by s.opening fin s.trace) x))
    (ended_by_set s.outcomes v BackedOut (ltb-true _ _ a.0))
    (subst (λ c. Leads (p.images v) x c (content (store_by s.opening (ended out v BackedOut) s.trace) x))
    (sym (h.in_place x plain)) (h.leads x plain r v a.1 out (Extends-refl out) (open_kept (out v) a.1)))

pub ready_of : (s : UnitsState) (p : Place) (v : ℕ) → IsPlaceOf s p → is_live s v ≡ true →
    AllReady p.cells (p.images v)
ready_of s p v h live = images_ready h v (and_parts _ _ live).1
