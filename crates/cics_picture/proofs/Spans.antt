-- Where bars begin and end.
use Rattle.std.proofs.Common.{◌≡◌, ◌≢◌, ℕ, zero, suc, true, false, cond, ◌==◌, ◌+◌, ◌-◌, ◌<◌, List, [], ◌∷◌, ◌++◌, length, max, refl, ap, sym, ◌∙◌, subst, arith, Option, Some, None, eq-eqb}
use Rattle.std.proofs.lemmas.Bool.{eqb-true}
use Rattle.std.proofs.lemmas.List.Elements.{All-head, All-tail, Contains-append_left, Contains-append_right}
use Rattle.std.proofs.lemmas.List.Sums.{fold-append}
use Rattle.std.specs.Prelude.{All, Contains, slice_get, option_and_then}
use Rattle.std.specs.List.{fold}
use Rattle.cics_picture.specs.declared.bars.Standing.{Standing}
use Rattle.cics_picture.specs.declared.bars.Lane.{Lane}
use Rattle.cics_picture.specs.declared.bars.Bar.{Bar}
use Rattle.cics_picture.specs.Lanes.{lane_x, row_y}
use Rattle.cics_picture.specs.Bars.{lane_at, has_same, gone, lane_behind, ended}
use Rattle.cics_picture.specs.Drawings.{Drawn, nothing_drawn, with_row, Printed, rows_of, turned, turned_from, with_line, drawn}
use Rattle.cics_picture.specs.Spans.{unit_in, acts_at, Lives, bar_from_to}
use Rattle.cics_picture.proofs.Kept.{set-other, rows-long, line-long, lines-long, all-long, worded, turns-lane, rows-keep}

-- a unit is the same as before, or it isn't
same-unit : (unit : ℕ) → has_same (Some unit) (Some unit) ≡ true
same-unit unit = eq-eqb unit unit refl

other-unit : (before : Option ℕ) (unit : ℕ) → before ≢ Some unit → has_same before (Some unit) ≡ false
other-unit None unit other = refl
other-unit (Some b) unit other =
    elim (b == unit) as (λ t. (b == unit) ≡ t → (b == unit) ≡ false) [
      | true ↦ λ e. absurd (other (ap Some (eqb-true b unit e)))
      | false ↦ λ e. e
    ] refl

unit-gone : (now : Option ℕ) (unit : ℕ) → now ≢ Some unit → gone (Some unit) now ≡ Some unit
unit-gone None unit other = refl
unit-gone (Some n) unit other =
    elim (unit == n) as (λ t. (unit == n) ≡ t → cond t None (Some unit) ≡ Some unit) [
      | true ↦ λ e. absurd (other (ap Some (sym (eqb-true unit n e))))
      | false ↦ λ e. refl
    ] refl

-- a list that is as long has an element
there : (standings : List Standing) (lane : ℕ) → lane < length standings → (s : Standing) × (slice_get standings lane ≡ Some s)
there [] lane within = absurd (omega arith)
there (s ∷ standings) zero within = (s, refl)
there (s ∷ standings) (suc lane) within = there standings lane (omega arith)

-- the standing of a lane's unit
stands : (p : Printed) (lane unit : ℕ) → unit_in p lane ≡ Some unit → (s : Standing) × (slice_get p.standings lane ≡ Some s) × (s.unit ≡ Some unit)
stands p lane unit is = by (slice_get p.standings lane) refl is
  where
    by : (o : Option Standing) → slice_get p.standings lane ≡ o → option_and_then (λ s. s.unit) o ≡ Some unit
        → (s : Standing) × (slice_get p.standings lane ≡ Some s) × (s.unit ≡ Some unit)
    by None at none = cc
    by (Some s) at has = (s, at, has)

module _ (lane : ℕ) where
  -- bars that are there stay
  turns-more : (standings : List Standing) (first i : ℕ) (d : Drawn) (b : Bar) → Contains d.bars b → Contains (turned_from first i standings d).bars b
  turns-more [] first i d b has = has
  turns-more (s ∷ standings) first i d b has =
      turns-more standings first (i + 1) (turned first i s d) b (Contains-append_left d.bars _ b has)

  -- a lane that turns has the bar of the unit that is gone
  turns-bar : (standings : List Standing) (first i k : ℕ) (s : Standing) (d : Drawn) (l : Lane) (b : Bar) → slice_get standings k ≡ Some s → i + k ≡ lane
      → lane_at d.lanes lane ≡ l → ended lane l.top (max l.last first) (gone l.standing.unit s.unit) ≡ b ∷ []
      → Contains (turned_from first i standings d).bars b
  turns-bar [] first i k s d l b at there here new = cc
  turns-bar (x ∷ standings) first i zero s d l b at there here new =
      let own : i ≡ lane = omega arith in
      let same : x ≡ s = cc in
      let bars = subst (λ j. ended j (lane_at d.lanes j).top (max (lane_at d.lanes j).last first) (gone (lane_at d.lanes j).standing.unit x.unit) ≡ b ∷ []) (sym own)
      (ap (λ m. ended lane m.top (max m.last first) (gone m.standing.unit x.unit)) here
      ∙ ap (λ y. ended lane l.top (max l.last first) (gone l.standing.unit y.unit)) same ∙ new) in
      turns-more standings first (i + 1) (turned first i x d) b
      (Contains-append_right d.bars _ b (subst (λ bs. Contains bs b) (sym bars) (0, omega arith, refl)))
  turns-bar (x ∷ standings) first i (suc k) s d l b at there here new =
      turns-bar standings first (i + 1) k s (turned first i x d) l b at (omega arith)
      (set-other d.lanes i lane _ (λ same. omega arith) ∙ here) new

  -- what a line does to a lane
  line-lane : (d : Drawn) (p : Printed) (s : Standing) → length d.lanes ≡ 16 → lane < 16 → slice_get p.standings lane ≡ Some s
      → lane_at (with_line d p).lanes lane ≡ lane_behind (lane_at (fold with_row d (rows_of p)).lanes lane) (max (lane_at (fold with_row d (rows_of p)).lanes lane).last (row_y d.rows)) s
  line-lane d p s long room at =
      let rows = fold with_row d (rows_of p) in
      let within : lane < length rows.lanes = subst (λ n. lane < n) (sym (rows-long (rows_of p) d ∙ long)) room in
      turns-lane lane p.standings (row_y d.rows) 0 lane s (worded p.standings rows) within at (omega arith)

  -- a task has a unit, and its lane this top
  record Has (d : Drawn) (unit top : ℕ) : Type 0 where
    has_unit : (lane_at d.lanes lane).standing.unit ≡ Some unit
    has_top : (lane_at d.lanes lane).top ≡ top

  line-begins : (d : Drawn) (p : Printed) (unit : ℕ) → length d.lanes ≡ 16 → lane < 16 → (lane_at d.lanes lane).standing.unit ≢ Some unit → unit_in p lane ≡ Some unit
      → Has (with_line d p) unit (max (lane_at (fold with_row d (rows_of p)).lanes lane).last (row_y d.rows) - 8)
  line-begins d p unit long room new is =
      let (s, at, own) = stands p lane unit is in
      let rows = fold with_row d (rows_of p) in
      let l = lane_at rows.lanes lane in
      let y = max l.last (row_y d.rows) in
      let turns = line-lane d p s long room at in
      let before : l.standing.unit ≡ (lane_at d.lanes lane).standing.unit = rows-keep (λ l. l.standing.unit) (λ l row k. refl) lane (rows_of p) d (subst (λ n. lane < n) (sym long) room) in
      let other : has_same l.standing.unit s.unit ≡ false = ap (λ u. has_same l.standing.unit u) own ∙ other-unit l.standing.unit unit (λ e. new (sym before ∙ e)) in
      record {
        has_unit = ap (λ l. l.standing.unit) turns ∙ own;
        has_top = ap (λ l. l.top) turns ∙ ap (λ b. cond b l.top (y - 8)) other;
      }

  line-goes : (d : Drawn) (p : Printed) (unit top : ℕ) → length d.lanes ≡ 16 → lane < 16 → Has d unit top → unit_in p lane ≡ Some unit → Has (with_line d p) unit top
  line-goes d p unit top long room has is =
      let (s, at, own) = stands p lane unit is in
      let rows = fold with_row d (rows_of p) in
      let l = lane_at rows.lanes lane in
      let y = max l.last (row_y d.rows) in
      let turns = line-lane d p s long room at in
      let within : lane < length d.lanes = subst (λ n. lane < n) (sym long) room in
      let before : l.standing.unit ≡ Some unit = rows-keep (λ l. l.standing.unit) (λ l row k. refl) lane (rows_of p) d within ∙ has.has_unit in
      let same : has_same l.standing.unit s.unit ≡ true = ap (λ u. has_same l.standing.unit u) own ∙ ap (λ u. has_same u (Some unit)) before ∙ same-unit unit in
      record {
        has_unit = ap (λ l. l.standing.unit) turns ∙ own;
        has_top = ap (λ l. l.top) turns ∙ ap (λ b. cond b l.top (y - 8)) same ∙ rows-keep (λ l. l.top) (λ l row k. refl) lane (rows_of p) d within ∙ has.has_top;
      }

  lines-go : (lines : List Printed) (d : Drawn) (unit top : ℕ) → length d.lanes ≡ 16 → lane < 16 → Has d unit top → All (λ r. unit_in r lane ≡ Some unit) lines
      → Has (fold with_line d lines) unit top
  lines-go [] d unit top long room has all = has
  lines-go (p ∷ lines) d unit top long room has all =
      lines-go lines (with_line d p) unit top (line-long p d ∙ long) room (line-goes d p unit top long room has (All-head (λ r. unit_in r lane ≡ Some unit) p lines all)) (All-tail (λ r. unit_in r lane ≡ Some unit) p lines all)

  line-ends : (d : Drawn) (p : Printed) (unit top : ℕ) → length d.lanes ≡ 16 → lane < 16 → Has d unit top → lane < length p.standings → unit_in p lane ≢ Some unit
      → Contains (with_line d p).bars (record { unit = unit; x = lane_x lane - 7; y = top; height = max (lane_at (fold with_row d (rows_of p)).lanes lane).last (row_y d.rows) - top })
  line-ends d p unit top long room has within other =
      let (s, at) = there p.standings lane within in
      let rows = fold with_row d (rows_of p) in
      let l = lane_at rows.lanes lane in
      let y = max l.last (row_y d.rows) in
      let b : Bar = record { unit = unit; x = lane_x lane - 7; y = top; height = y - top } in
      let inside : lane < length d.lanes = subst (λ n. lane < n) (sym long) room in
      let before : l.standing.unit ≡ Some unit = rows-keep (λ l. l.standing.unit) (λ l row k. refl) lane (rows_of p) d inside ∙ has.has_unit in
      let tops : l.top ≡ top = rows-keep (λ l. l.top) (λ l row k. refl) lane (rows_of p) d inside ∙ has.has_top in
      let lost : gone l.standing.unit s.unit ≡ Some unit = ap (λ u. gone u s.unit) before ∙ unit-gone s.unit unit (λ e. other (ap (option_and_then (λ s. s.unit)) at ∙ e)) in
      let new : ended lane l.top y (gone l.standing.unit s.unit) ≡ b ∷ [] = ap (ended lane l.top y) lost ∙ ap (λ t. ended lane t y (Some unit)) tops in
      turns-bar p.standings (row_y d.rows) 0 lane s (worded p.standings rows) l b at (omega arith) refl new

pub unit-spans : (before during : List Printed) (p q : Printed) (lane unit : ℕ) → Lives before p during q lane unit
    → Contains (drawn ((before ++ p ∷ during) ++ q ∷ [])).bars (bar_from_to lane unit (acts_at before p lane) (acts_at (before ++ p ∷ during) q lane))
unit-spans before during p q lane unit lives =
    let d = drawn before in
    let long : length d.lanes ≡ 16 = lines-long before nothing_drawn ∙ all-long in
    let begun = line-begins lane d p unit long lives.has_lane lives.is_new lives.begins in
    let gone-on = lines-go lane during (with_line d p) unit _ (line-long p d ∙ long) lives.has_lane begun lives.goes_on in
    let all : fold with_line (with_line d p) during ≡ drawn (before ++ p ∷ during) = sym (fold-append with_line nothing_drawn before (p ∷ during)) in
    let e = drawn (before ++ p ∷ during) in
    let stands = subst (λ x. Has lane x unit (acts_at before p lane - 8)) all gone-on in
    let long-now : length e.lanes ≡ 16 = lines-long (before ++ p ∷ during) nothing_drawn ∙ all-long in
    subst (λ x. Contains x.bars (bar_from_to lane unit (acts_at before p lane) (acts_at (before ++ p ∷ during) q lane))) (sym (fold-append with_line nothing_drawn (before ++ p ∷ during) (q ∷ [])))
    (line-ends lane e q unit (acts_at before p lane - 8) long-now lives.has_lane stands lives.is_there lives.ends)
