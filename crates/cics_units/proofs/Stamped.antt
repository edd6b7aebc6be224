-- The stamp of a unit: of what it did, of its update reads, and of the values that it owns.
use Rattle.std.proofs.Common.{◌≡◌, ℕ, ◌+◌, ◌==◌, ◌<◌, true, false, cond, List, [], ◌∷◌, ◌++◌, length, drop, get_or, append_assoc, refl, sym, ap, ◌∙◌}
use Rattle.std.specs.Prelude.{if◌then◌else◌, filter, map}
use Rattle.std.specs.List.{flat_map}
use Rattle.std.proofs.lemmas.List.{at_drop_more}
use Rattle.cics_names.specs.Stamps.{number_stamp, item_stamp, list_stamp}
use Rattle.cics_names.proofs.Stamps.{appended_two}
use Rattle.cics_history.specs.State.{OpeningState, EnqCount}
use Rattle.cics_history.specs.Serial.{is_done_by, done_by}
use Rattle.cics_history.specs.Stamps.{op_stamp, count_stamp}
use Rattle.cics_history.specs.declared.ops.Entry.{Entry}
use Rattle.cics_history.specs.declared.resources.Resource.{Resource}
use Rattle.cics_history.specs.declared.resources.Resource.TheVariants.{User}
use Rattle.cics_enqueue.specs.Table.{Table, Held}
use Rattle.cics_enqueue.specs.Values.{user_value, value_before, values_of, value_stamp}
use Rattle.cics_units.specs.DoneOps.{stamp_if_done}
use Rattle.cics_units.specs.TableInPlace.{counts_in, counted_before}

-- ---- What it did

-- the stamp of what a unit did among some entries
abbrev pub ops_left : OpeningState → ℕ → List Entry → List ℕ
ops_left o unit es = list_stamp op_stamp (map (λ e. e.op) (done_by o es unit))

ops_left-more : (o : OpeningState) (unit : ℕ) (e : Entry) (es : List Entry) → ops_left o unit (e ∷ es) ≡ stamp_if_done o unit e ++ ops_left o unit es
ops_left-more o unit e es =
    elim (is_done_by o unit e) as (λ b. list_stamp op_stamp (map (λ e. e.op) (cond b (e ∷ done_by o es unit) (done_by o es unit))) ≡ (if b then item_stamp op_stamp e.op else []) ++ ops_left o unit es) [
      | true ↦ append_assoc (item_stamp op_stamp e.op) (flat_map (item_stamp op_stamp) (map (λ e. e.op) (done_by o es unit))) (number_stamp 0)
      | false ↦ refl
    ]

-- one more entry is passed
pub entry_passed : (o : OpeningState) (unit : ℕ) (es : List Entry) (i : ℕ) (e : Entry) (all before after : List ℕ) → i < length es → e ≡ get_or es i e →
    before ++ ops_left o unit (drop i es) ≡ all → after ≡ before ++ stamp_if_done o unit e → after ++ ops_left o unit (drop (i + 1) es) ≡ all
entry_passed o unit es i e all before after within is so_far more =
    ap (λ t. t ++ ops_left o unit (drop (i + 1) es)) more ∙ append_assoc before (stamp_if_done o unit e) (ops_left o unit (drop (i + 1) es))
    ∙ ap (λ t. before ++ t) (sym (at_drop_more (ops_left o unit) es i e within ∙ ap (λ x. ops_left o unit (x ∷ drop (i + 1) es)) (sym is) ∙ ops_left-more o unit e (drop (i + 1) es)))
    ∙ so_far

-- ---- The values that it owns

-- by the table, and by the counts that it shows
values_counted : (unit : ℕ) (t : Table) → flat_map (item_stamp value_stamp) (values_of unit t) ≡ flat_map (item_stamp count_stamp) (filter (λ c. c.unit == unit) (counts_in t))
values_counted unit [] = refl
values_counted unit (e ∷ es) = step e.0 e.1 (values_of unit es) (counts_in es) (values_counted unit es)
  where
    step : (r : Resource) (h : Held) (values : List (List ℕ × ℕ)) (counts : List EnqCount) →
        flat_map (item_stamp value_stamp) values ≡ flat_map (item_stamp count_stamp) (filter (λ c. c.unit == unit) counts) →
        flat_map (item_stamp value_stamp) (value_before unit (user_value r) h values) ≡ flat_map (item_stamp count_stamp) (filter (λ c. c.unit == unit) (counted_before r h counts))
    step (User v) h values counts rest =
        let count : EnqCount = record { value = v.items; unit = h.unit; count = h.count } in
        elim (h.unit == unit) as (λ b. flat_map (item_stamp value_stamp) (if b then (v.items, h.count) ∷ values else values)
        ≡ flat_map (item_stamp count_stamp) (cond b (count ∷ filter (λ c. c.unit == unit) counts) (filter (λ c. c.unit == unit) counts))) [
          | true ↦ ap (λ t. item_stamp value_stamp (v.items, h.count) ++ t) rest
          | false ↦ rest
        ]
    step _ h values counts rest = rest

pub values_stamp : (unit : ℕ) (t : Table) → list_stamp value_stamp (values_of unit t) ≡ list_stamp count_stamp (filter (λ c. c.unit == unit) (counts_in t))
values_stamp unit t = ap (λ s. s ++ number_stamp 0) (values_counted unit t)

-- ---- The whole

-- three parts are appended
pub joined_three : (a b c before first second after : List ℕ) → first ≡ before ++ a → second ≡ first ++ b → after ≡ second ++ c → after ≡ before ++ (a ++ (b ++ c))
joined_three a b c before first second after p q r = appended_two before a (b ++ c) p (appended_two first b c q r)
