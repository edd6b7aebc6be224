-- The lines of each unit, one command further.
use Rattle.std.proofs.Common.{◌≡◌, ℕ, zero, suc, ◌+◌, ◌<◌, Bool, true, false, ◌==◌, ◌&&◌, cond, List, [], ◌∷◌, ◌++◌, length, length-take-le, take, get_or, slice_get, slice_set, nat_eq, is_some, refl, ap, sym, ◌∙◌, arith, append_assoc, append-nil, Some, None, inl, inr}
use Rattle.std.specs.Prelude.{if◌then◌else◌, codes}
use Rattle.std.specs.Global.{Vec}
use Rattle.std.specs.List.{flat_map, filter}
use Rattle.std.proofs.Math.Dec.{eqb-suc-zero, eqb-zero-suc, eqb-suc-suc}
use Rattle.std.proofs.lemmas.Bool.{cases_Bool, eqb-true}
use Rattle.std.proofs.lemmas.Bool.Decides.{nat_tests}
use Rattle.std.proofs.lemmas.Option.{slice_get_past, slice_get-get_or}
use Rattle.std.proofs.lemmas.List.{take_more}
use Rattle.std.proofs.lemmas.List.Elements.{filter_more}
use Rattle.std.proofs.lemmas.Grind.{flat_map-append}
use Rattle.cics_history.specs.State.{OpeningState, UnitsState}
use Rattle.cics_history.specs.Store.{is_normal, is_recoverable}
use Rattle.cics_history.specs.Serial.{is_done_by}
use Rattle.cics_history.specs.declared.ops.Entry.{Entry}
use Rattle.cics_history.specs.declared.ops.UnitState.{UnitState}
use Rattle.cics_history.specs.declared.ops.UnitState.TheVariants.{Open, Committed, BackedOut}
use Rattle.cics_run.specs.Listing.Listings.{line}
use Rattle.cics_run.specs.Listing.Serial.{entry_lines, done_lines, open_from, open_units, opening_lines, unit_lines, committed_lines, serial_text}
use Rattle.cics_run.specs.Listing.UnitLines.{row_bytes, lines_at, lines_added}

-- ---- rows

get-pushed : (rows : List (Vec ℕ)) (row : Vec ℕ) (unit : ℕ) → slice_get (rows ++ row ∷ []) unit ≡ cond (nat_eq unit (length rows)) (Some row) (slice_get rows unit)
get-pushed [] row zero = refl
get-pushed [] row (suc unit) = ap (λ b. cond b (Some row) None) (sym (eqb-suc-zero unit))
get-pushed (first ∷ rows) row zero = ap (λ b. cond b (Some row) (Some first)) (sym (eqb-zero-suc (length rows)))
get-pushed (first ∷ rows) row (suc unit) = get-pushed rows row unit ∙ ap (λ b. cond b (Some row) (slice_get rows unit)) (sym (eqb-suc-suc unit (length rows)))

past_end : (rows : List (Vec ℕ)) (unit : ℕ) → nat_eq unit (length rows) ≡ true → slice_get rows unit ≡ None
past_end rows unit at = slice_get_past rows unit (omega (arith, eqb-true unit (length rows) at))

-- an empty row more has no lines
pub lines_at-pushed : (rows : List (Vec ℕ)) (row : Vec ℕ) → row.items ≡ [] → (unit : ℕ) → lines_at (rows ++ row ∷ []) unit ≡ lines_at rows unit
lines_at-pushed rows row none unit =
    ap row_bytes (get-pushed rows row unit)
    ∙ elim (cases_Bool (nat_eq unit (length rows))) [
      | inl at ↦ rw at (none ∙ sym (ap row_bytes (past_end rows unit at)))
      | inr other ↦ rw other refl
    ]

-- ---- one command further

lines-once : (b : Bool) (e : Entry) → flat_map entry_lines (cond b (e ∷ []) []) ≡ (if b then entry_lines e else [])
lines-once true e = append-nil (entry_lines e)
lines-once false e = refl

done_lines-more : (o : OpeningState) (trace : List Entry) (unit i : ℕ) (e : Entry) → i < length trace → e ≡ get_or trace i e
    → done_lines o (take (i + 1) trace) unit ≡ done_lines o (take i trace) unit ++ lines_added o e unit
done_lines-more o trace unit i e within is =
    ap (flat_map entry_lines) (filter_more (is_done_by o unit) trace i e within)
    ∙ flat_map-append entry_lines (filter (is_done_by o unit) (take i trace)) (cond (is_done_by o unit (get_or trace i e)) (get_or trace i e ∷ []) [])
    ∙ ap (λ x. done_lines o (take i trace) unit ++ flat_map entry_lines (cond (is_done_by o unit x) (x ∷ []) [])) (sym is)
    ∙ ap (λ lines. done_lines o (take i trace) unit ++ lines) (lines-once (is_done_by o unit e) e)

pub gathered-more : (o : OpeningState) (trace : List Entry) (unit i : ℕ) (e : Entry) (before after : List ℕ) → i < length trace → e ≡ get_or trace i e
    → before ≡ done_lines o (take i trace) unit → after ≡ before ++ lines_added o e unit → after ≡ done_lines o (take (i + 1) trace) unit
gathered-more o trace unit i e before after within is so_far more =
    more ∙ ap (λ lines. lines ++ lines_added o e unit) so_far ∙ sym (done_lines-more o trace unit i e within is)

and_true : (b : Bool) → (b && true) ≡ b
and_true true = refl
and_true false = refl

and_false : (b : Bool) → (b && false) ≡ false
and_false true = refl
and_false false = refl

-- what was not done adds nothing
pub added-nothing : (o : OpeningState) (e : Entry) (unit : ℕ) (lines : List ℕ) (done : Bool) → done ≡ (is_normal e.answer.condition && is_recoverable o e.op) → done ≡ false
    → lines ≡ lines ++ lines_added o e unit
added-nothing o e unit lines done is other =
    let none : is_done_by o unit e ≡ false = ap (λ d. (e.unit == unit) && d) (sym is ∙ other) ∙ and_false (e.unit == unit) in
    rw none (sym (append-nil lines))

get-set : (rows : List (Vec ℕ)) (at unit : ℕ) (row : Vec ℕ) → slice_get (slice_set rows at row) unit ≡ cond (nat_eq unit at && is_some (slice_get rows unit)) (Some row) (slice_get rows unit)
get-set [] at unit row = elim (nat_eq unit at) as (λ b. slice_get {X = Vec ℕ} [] unit ≡ cond (b && false) (Some row) None) [ true ↦ refl | false ↦ refl ]
get-set (first ∷ rows) zero zero row = refl
get-set (first ∷ rows) zero (suc unit) row = ap (λ b. cond (b && is_some (slice_get rows unit)) (Some row) (slice_get rows unit)) (sym (eqb-suc-zero unit))
get-set (first ∷ rows) (suc at) zero row = ap (λ b. cond (b && true) (Some row) (Some first)) (sym (eqb-zero-suc at))
get-set (first ∷ rows) (suc at) (suc unit) row = get-set rows at unit row ∙ ap (λ b. cond (b && is_some (slice_get rows unit)) (Some row) (slice_get rows unit)) (sym (eqb-suc-suc unit at))

same_test : (a b : ℕ) → nat_eq a b ≡ nat_eq b a
same_test a b = grind (arith, nat_tests)

both-true : (a b : Bool) → a ≡ true → b ≡ true → (a && b) ≡ true
both-true a b first second = rw (first, second) refl

-- the lines of a command that was done are added to the row of its unit
added-there : (o : OpeningState) (e : Entry) (done : Bool) (rows : List (Vec ℕ)) (row : Vec ℕ) (unit : ℕ) → done ≡ (is_normal e.answer.condition && is_recoverable o e.op) → done ≡ true
    → is_some (slice_get rows e.unit) ≡ true → row.items ≡ lines_at rows e.unit ++ entry_lines e
    → lines_at (slice_set rows e.unit row) unit ≡ lines_at rows unit ++ lines_added o e unit
added-there o e done rows row unit is done_is there more =
    let owned : is_done_by o unit e ≡ (e.unit == unit) = ap (λ d. (e.unit == unit) && d) (sym is ∙ done_is) ∙ and_true (e.unit == unit) in
    let more_if : Bool → List ℕ = λ b. lines_at rows unit ++ (if b then entry_lines e else []) in
    ap row_bytes (get-set rows e.unit unit row)
    ∙ elim (cases_Bool (e.unit == unit)) [
      | inl own ↦
          let same = eqb-true e.unit unit own in
          let here : (nat_eq unit e.unit && is_some (slice_get rows unit)) ≡ true = both-true _ _ (same_test unit e.unit ∙ own) (ap (λ u. is_some (slice_get rows u)) (sym same) ∙ there) in
          ap (λ b. row_bytes (cond b (Some row) (slice_get rows unit))) here ∙ more ∙ ap (λ u. lines_at rows u ++ entry_lines e) same ∙ ap more_if (sym (owned ∙ own))
      | inr other ↦
          ap (λ b. row_bytes (cond (b && is_some (slice_get rows unit)) (Some row) (slice_get rows unit))) (same_test unit e.unit ∙ other)
          ∙ sym (append-nil (lines_at rows unit)) ∙ ap more_if (sym (owned ∙ other))
    ]

-- and so they are where the row was found in place, after empty rows were made
pub added-row : (o : OpeningState) (e : Entry) (done : Bool) (before rows : List (Vec ℕ)) (old row : Vec ℕ) (at unit : ℕ)
    → done ≡ (is_normal e.answer.condition && is_recoverable o e.op) → done ≡ true → at ≡ e.unit → at < length rows → old ≡ get_or rows at old
    → row.items ≡ old.items ++ entry_lines e → ((u : ℕ) → lines_at rows u ≡ lines_at before u)
    → lines_at (slice_set rows at row) unit ≡ lines_at before unit ++ lines_added o e unit
added-row o e done before rows old row at unit is done_is at_is within found more same =
    let here : slice_get rows at ≡ Some old = slice_get-get_or rows at old within ∙ ap Some (sym found) in
    let there : is_some (slice_get rows e.unit) ≡ true = ap (λ a. is_some (slice_get rows a)) (sym at_is) ∙ ap is_some here in
    let grown : row.items ≡ lines_at rows e.unit ++ entry_lines e =
    more ∙ ap (λ r. row_bytes r ++ entry_lines e) (sym here) ∙ ap (λ a. lines_at rows a ++ entry_lines e) at_is in
    ap (λ a. lines_at (slice_set rows a row) unit) at_is ∙ added-there o e done rows row unit is done_is there grown
    ∙ ap (λ lines. lines ++ lines_added o e unit) (same unit)

-- ---- the open units

-- one outcome further
open_from-more : (unit : ℕ) (outcomes : List UnitState) (last : UnitState) → open_from unit (outcomes ++ last ∷ []) ≡ open_from unit outcomes ++ open_from (unit + length outcomes) (last ∷ [])
open_from-more unit [] last = ap (λ n. open_from n (last ∷ [])) (omega arith)
open_from-more unit (Open ∷ outcomes) last =
    let at : unit + 1 + length outcomes ≡ unit + suc (length outcomes) = omega arith in
    ap (λ units. unit ∷ units) (open_from-more (unit + 1) outcomes last ∙ ap (λ n. open_from (unit + 1) outcomes ++ open_from n (last ∷ [])) at)
open_from-more unit (Committed ∷ outcomes) last =
    let at : unit + 1 + length outcomes ≡ unit + suc (length outcomes) = omega arith in
    open_from-more (unit + 1) outcomes last ∙ ap (λ n. open_from (unit + 1) outcomes ++ open_from n (last ∷ [])) at
open_from-more unit (BackedOut ∷ outcomes) last =
    let at : unit + 1 + length outcomes ≡ unit + suc (length outcomes) = omega arith in
    open_from-more (unit + 1) outcomes last ∙ ap (λ n. open_from (unit + 1) outcomes ++ open_from n (last ∷ [])) at

-- ---- units whose lines are the same

pub each-same : {X : Type 0} (f g : ℕ → List X) → ((unit : ℕ) → f unit ≡ g unit) → (units : List ℕ) → flat_map f units ≡ flat_map g units
each-same f g same [] = refl
each-same f g same (unit ∷ units) = ap (λ lines. lines ++ flat_map f units) (same unit) ∙ ap (λ lines. g unit ++ lines) (each-same f g same units)

-- one outcome further
pub open-step : (f : ℕ → List ℕ) (outcomes : List UnitState) (i n : ℕ) (d : UnitState) (old before after : List ℕ) → i < length outcomes → n ≡ i
    → before ≡ old ++ flat_map f (open_units (take i outcomes)) → after ≡ before ++ flat_map f (open_from n (get_or outcomes i d ∷ []))
    → after ≡ old ++ flat_map f (open_units (take (i + 1) outcomes))
open-step f outcomes i n d old before after within at so_far more =
    let last = get_or outcomes i d in
    let here : List ℕ = open_units (take i outcomes) in
    let next : List ℕ = open_from n (last ∷ []) in
    let count : 0 + length (take i outcomes) ≡ n = omega (arith, length-take-le i outcomes (omega arith)) in
    let units : open_units (take (i + 1) outcomes) ≡ here ++ next =
    ap open_units (take_more outcomes i d within) ∙ open_from-more 0 (take i outcomes) last ∙ ap (λ n. here ++ open_from n (last ∷ [])) count in
    more ∙ ap (λ out. out ++ flat_map f next) so_far ∙ append_assoc old (flat_map f here) (flat_map f next)
    ∙ ap (λ lines. old ++ lines) (sym (flat_map-append f here next)) ∙ ap (λ units. old ++ flat_map f units) (sym units)

-- ---- the whole

-- the lines are those of the serial run
pub serial-joined : (s : UnitsState) (rows first second : List (Vec ℕ)) (opening opened : OpeningState) (trace : List Entry) (commits : List ℕ) (outcomes : List UnitState)
    (out headed defined committed all : List ℕ) → opening ≡ s.opening → opened ≡ s.opening → trace ≡ s.trace → commits ≡ s.commits → outcomes ≡ s.outcomes
    → first ≡ rows → second ≡ rows → ((unit : ℕ) → lines_at rows unit ≡ done_lines opened trace unit)
    → headed ≡ out ++ line (codes "SERIAL") → defined ≡ headed ++ opening_lines opening
    → committed ≡ defined ++ flat_map (committed_lines (lines_at first)) commits → all ≡ committed ++ flat_map (unit_lines (lines_at second)) (open_units outcomes)
    → all ≡ out ++ serial_text s
serial-joined s rows first second opening opened trace commits outcomes out headed defined committed all o_is p_is t_is c_is u_is f_is s_is are h1 h2 h3 h4 =
    let did = done_lines s.opening s.trace in
    let same : (unit : ℕ) → lines_at rows unit ≡ did unit = λ unit. are unit ∙ ap (λ o. done_lines o trace unit) p_is ∙ ap (λ t. done_lines s.opening t unit) t_is in
    let head = line (codes "SERIAL") in
    let defs = opening_lines s.opening in
    let turns = flat_map (committed_lines did) s.commits in
    let behind = flat_map (unit_lines did) (open_units s.outcomes) in
    let turns_are : flat_map (committed_lines (lines_at first)) commits ≡ turns =
    ap (λ rows. flat_map (committed_lines (lines_at rows)) commits) f_is
    ∙ each-same (committed_lines (lines_at rows)) (committed_lines did) (λ unit. ap (λ lines. committed_lines (λ u. lines) unit) (same unit)) commits
    ∙ ap (flat_map (committed_lines did)) c_is in
    let behind_are : flat_map (unit_lines (lines_at second)) (open_units outcomes) ≡ behind =
    ap (λ rows. flat_map (unit_lines (lines_at rows)) (open_units outcomes)) s_is
    ∙ each-same (unit_lines (lines_at rows)) (unit_lines did) (λ unit. ap (λ lines. unit_lines (λ u. lines) unit) (same unit)) (open_units outcomes)
    ∙ ap (λ us. flat_map (unit_lines did) (open_units us)) u_is in
    let defined_is : defined ≡ (out ++ head) ++ defs = h2 ∙ ap (λ o. headed ++ opening_lines o) o_is ∙ ap (λ x. x ++ defs) h1 in
    let committed_is : committed ≡ ((out ++ head) ++ defs) ++ turns = h3 ∙ ap (λ x. defined ++ x) turns_are ∙ ap (λ x. x ++ turns) defined_is in
    h4 ∙ ap (λ x. committed ++ x) behind_are ∙ ap (λ x. x ++ behind) committed_is
    ∙ append_assoc ((out ++ head) ++ defs) turns behind ∙ append_assoc (out ++ head) defs (turns ++ behind) ∙ append_assoc out head (defs ++ (turns ++ behind))
