-- Each unit of work that a task with a lane has behind a line has a bar.
use Rattle.std.proofs.Common.{◌≡◌, ◌≢◌, ◌⊎◌, inl, inr, ℕ, zero, suc, Bool, true, false, cond, replicate, ◌==◌, ◌+◌, ◌-◌, ◌<◌, List, [], ◌∷◌, ◌++◌, length, max, refl, ap, sym, ◌∙◌, subst, arith, Option, Some, None, eq-eqb}
use Rattle.std.proofs.lemmas.Bool.{eqb-true, eqb-false}
use Rattle.std.proofs.lemmas.List.{length-set, get_or-set_same, get_or-set_other}
use Rattle.std.proofs.lemmas.List.Folds.{list_any-append}
use Rattle.std.proofs.lemmas.List.Sums.{fold-append}
use Rattle.std.proofs.lemmas.Option.{unwrap_or-slice_get}
use Rattle.std.specs.Prelude.{◌||◌, slice_get, slice_set}
use Rattle.std.specs.List.{fold, list_any}
use Rattle.cics_picture.specs.declared.bars.Standing.{Standing}
use Rattle.cics_picture.specs.declared.bars.Lane.{Lane}
use Rattle.cics_picture.specs.declared.bars.Bar.{Bar}
use Rattle.cics_picture.specs.declared.events.RowKind.{RowKind}
use Rattle.cics_picture.specs.Lanes.{lane_x, row_y, row_lane}
use Rattle.cics_picture.specs.Bars.{nobody, new_lane, new_lanes, nobodies, lane_at, noted, lanes_behind, gone, lane_behind, ended, is_bar_of}
use Rattle.cics_picture.specs.Drawings.{Drawn, nothing_drawn, Row, with_row, Printed, rows_of, turned, turned_from, any_caught, word_if, with_text, with_end, with_line, drawn, finished}

-- a lane that is set, and another one
pub set-here : (ls : List Lane) (i : ℕ) (l : Lane) → i < length ls → lane_at (slice_set ls i l) i ≡ l
set-here ls i l within = unwrap_or-slice_get (slice_set ls i l) i new_lane ∙ get_or-set_same ls i l new_lane within

pub set-other : (ls : List Lane) (i j : ℕ) (l : Lane) → j ≢ i → lane_at (slice_set ls i l) j ≡ lane_at ls j
set-other ls i j l other = unwrap_or-slice_get (slice_set ls i l) j new_lane ∙ get_or-set_other ls i j l new_lane other ∙ sym (unwrap_or-slice_get ls j new_lane)

-- there are as many lanes as before
behind-long : (ls : List Lane) (row : ℕ) (k : RowKind) (o : Option ℕ) → length (lanes_behind ls row k o) ≡ length ls
behind-long ls row k None = refl
behind-long ls row k (Some i) = length-set ls i (noted (lane_at ls i) row k)

turned-long : (standings : List Standing) (first l : ℕ) (d : Drawn) → length (turned_from first l standings d).lanes ≡ length d.lanes
turned-long [] first l d = refl
turned-long (s ∷ standings) first l d = turned-long standings first (l + 1) (turned first l s d) ∙ length-set d.lanes l _

pub rows-long : (rows : List Row) (d : Drawn) → length (fold with_row d rows).lanes ≡ length d.lanes
rows-long [] d = refl
rows-long (r ∷ rows) d = rows-long rows (with_row d r) ∙ behind-long d.lanes d.rows r.told.kind (row_lane d.tasks r.told)

-- a drawing with the word of a line that brought a task into a deadlock
abbrev pub worded : List Standing → Drawn → Drawn
worded standings d = with_text d (word_if (any_caught d.lanes 0 standings) (row_y (d.rows - 1) + 4))

end-long : (first : ℕ) (standings : List Standing) (d : Drawn) → length (with_end first standings d).lanes ≡ length d.lanes
end-long first standings d = turned-long standings first 0 (worded standings d)

pub line-long : (p : Printed) (d : Drawn) → length (with_line d p).lanes ≡ length d.lanes
line-long p d = end-long (row_y d.rows) p.standings (fold with_row d (rows_of p)) ∙ rows-long (rows_of p) d

pub lines-long : (lines : List Printed) (d : Drawn) → length (fold with_line d lines).lanes ≡ length d.lanes
lines-long [] d = refl
lines-long (p ∷ lines) d = lines-long lines (with_line d p) ∙ line-long p d

pub all-long : length new_lanes ≡ 16
unfolding new_lanes
all-long = refl

-- a lane keeps behind events what each of its own leaves
module _ {X : Type 0} (f : Lane → X) (same : (l : Lane) (row : ℕ) (k : RowKind) → f (noted l row k) ≡ f l) (lane : ℕ) where
  pub behind-keeps : (ls : List Lane) (row : ℕ) (k : RowKind) (o : Option ℕ) → lane < length ls → f (lane_at (lanes_behind ls row k o) lane) ≡ f (lane_at ls lane)
  behind-keeps ls row k None within = refl
  behind-keeps ls row k (Some i) within =
      elim (lane == i) as (λ b. (lane == i) ≡ b → f (lane_at (lanes_behind ls row k (Some i)) lane) ≡ f (lane_at ls lane)) [
        | true ↦ λ e.
            let here : lane ≡ i = eqb-true lane i e in
            subst (λ n. f (lane_at (lanes_behind ls row k (Some n)) lane) ≡ f (lane_at ls lane)) here
            (ap f (set-here ls lane (noted (lane_at ls lane) row k) within) ∙ same (lane_at ls lane) row k)
        | false ↦ λ e. ap f (set-other ls i lane (noted (lane_at ls i) row k) (eqb-false lane i e))
      ] refl

  pub rows-keep : (rows : List Row) (d : Drawn) → lane < length d.lanes → f (lane_at (fold with_row d rows).lanes lane) ≡ f (lane_at d.lanes lane)
  rows-keep [] d within = refl
  rows-keep (r ∷ rows) d within =
      rows-keep rows (with_row d r) (subst (λ n. lane < n) (sym (behind-long d.lanes d.rows r.told.kind (row_lane d.tasks r.told))) within)
      ∙ behind-keeps d.lanes d.rows r.told.kind (row_lane d.tasks r.told) within

-- the lanes that turn
module _ (lane : ℕ) where
  -- lanes below those that turn stay
  turns-past : (standings : List Standing) (first i : ℕ) (d : Drawn) → lane < i → lane_at (turned_from first i standings d).lanes lane ≡ lane_at d.lanes lane
  turns-past [] first i d past = refl
  turns-past (s ∷ standings) first i d past =
      turns-past standings first (i + 1) (turned first i s d) (omega arith) ∙ set-other d.lanes i lane _ (λ same. omega arith)

  -- a lane turns to how its task stands
  pub turns-lane : (standings : List Standing) (first i k : ℕ) (s : Standing) (d : Drawn) → lane < length d.lanes → slice_get standings k ≡ Some s → i + k ≡ lane
      → lane_at (turned_from first i standings d).lanes lane ≡ lane_behind (lane_at d.lanes lane) (max (lane_at d.lanes lane).last first) s
  turns-lane [] first i k s d within there at = cc
  turns-lane (x ∷ standings) first i zero s d within there at =
      let here : i ≡ lane = omega arith in
      let same : x ≡ s = cc in
      turns-past standings first (i + 1) (turned first i x d) (omega arith)
      ∙ subst (λ j. lane_at (turned first j x d).lanes lane ≡ lane_behind (lane_at d.lanes lane) (max (lane_at d.lanes lane).last first) s) (sym here)
      (set-here d.lanes lane _ within ∙ ap (lane_behind (lane_at d.lanes lane) (max (lane_at d.lanes lane).last first)) same)
  turns-lane (x ∷ standings) first i (suc k) s d within there at =
      turns-lane standings first (i + 1) k s (turned first i x d) (subst (λ n. lane < n) (sym (length-set d.lanes i _)) within) there (omega arith)
      ∙ ap (λ l. lane_behind l (max l.last first) s) (set-other d.lanes i lane _ (λ same. omega arith))

-- a task keeps its unit, or it is gone
kept-or-gone : (before now : Option ℕ) (unit : ℕ) → before ≡ Some unit → (now ≡ Some unit) ⊎ (gone before now ≡ Some unit)
kept-or-gone None now unit is = cc
kept-or-gone (Some b) None unit is = inr is
kept-or-gone (Some b) (Some n) unit is =
    elim (b == n) as (λ t. (b == n) ≡ t → (Some n ≡ Some unit) ⊎ (cond t None (Some b) ≡ Some unit)) [
      | true ↦ λ e. let same : b ≡ n = eqb-true b n e in inl (ap Some (sym same) ∙ is)
      | false ↦ λ e. inr is
    ] refl

module _ (lane unit : ℕ) where
  -- a lane's task has the unit now, or the unit has a bar
  abbrev Has : Drawn → Type 0
  Has d = ((lane_at d.lanes lane).standing.unit ≡ Some unit) ⊎ (list_any (is_bar_of lane unit) d.bars ≡ true)

  new-bar : (top y : ℕ) (o : Option ℕ) → o ≡ Some unit → list_any (is_bar_of lane unit) (ended lane top y o) ≡ true
  new-bar top y None is = cc
  new-bar top y (Some u) is =
      let same : u ≡ unit = cc in
      rw (eq-eqb u unit same, eq-eqb (lane_x lane - 7) (lane_x lane - 7) refl) refl

  more-bars : (xs ys : List Bar) → list_any (is_bar_of lane unit) xs ≡ true → list_any (is_bar_of lane unit) (xs ++ ys) ≡ true
  more-bars xs ys has = list_any-append (is_bar_of lane unit) xs ys ∙ ap (λ b. b || list_any (is_bar_of lane unit) ys) has

  or-true : (b c : Bool) → c ≡ true → (b || c) ≡ true
  or-true true c is = refl
  or-true false c is = is

  last-bars : (xs ys : List Bar) → list_any (is_bar_of lane unit) ys ≡ true → list_any (is_bar_of lane unit) (xs ++ ys) ≡ true
  last-bars xs ys has = list_any-append (is_bar_of lane unit) xs ys ∙ or-true (list_any (is_bar_of lane unit) xs) _ has

  row-has : (r : Row) (d : Drawn) → lane < length d.lanes → Has d → Has (with_row d r)
  row-has r d within (inl has) = inl (behind-keeps (λ l. l.standing.unit) (λ l row k. refl) lane d.lanes d.rows r.told.kind (row_lane d.tasks r.told) within ∙ has)
  row-has r d within (inr has) = inr has

  rows-have : (rows : List Row) (d : Drawn) → lane < length d.lanes → Has d → Has (fold with_row d rows)
  rows-have [] d within has = has
  rows-have (r ∷ rows) d within has =
      rows-have rows (with_row d r) (subst (λ n. lane < n) (sym (behind-long d.lanes d.rows r.told.kind (row_lane d.tasks r.told))) within) (row-has r d within has)

  -- a lane that turns
  own-has : (first : ℕ) (s : Standing) (d : Drawn) → lane < length d.lanes → (lane_at d.lanes lane).standing.unit ≡ Some unit → Has (turned first lane s d)
  own-has first s d within has =
      let l = lane_at d.lanes lane in
      let y = max l.last first in
      elim (kept-or-gone l.standing.unit s.unit unit has) [
        | inl same ↦ inl (ap (λ l. l.standing.unit) (set-here d.lanes lane (lane_behind l y s) within) ∙ same)
        | inr lost ↦ inr (last-bars d.bars (ended lane l.top y (gone l.standing.unit s.unit)) (new-bar l.top y (gone l.standing.unit s.unit) lost))
      ]

  turn-has : (first i : ℕ) (s : Standing) (d : Drawn) → lane < length d.lanes → Has d → Has (turned first i s d)
  turn-has first i s d within (inr has) = inr (more-bars d.bars _ has)
  turn-has first i s d within (inl has) =
      elim (i == lane) as (λ b. (i == lane) ≡ b → Has (turned first i s d)) [
        | true ↦ λ e. let same : i ≡ lane = eqb-true i lane e in subst (λ k. Has (turned first k s d)) (sym same) (own-has first s d within has)
        | false ↦ λ e. inl (ap (λ l. l.standing.unit) (set-other d.lanes i lane _ (λ same. eqb-false i lane e (sym same))) ∙ has)
      ] refl

  turns-have : (standings : List Standing) (first i : ℕ) (d : Drawn) → lane < length d.lanes → Has d → Has (turned_from first i standings d)
  turns-have [] first i d within has = has
  turns-have (s ∷ standings) first i d within has =
      turns-have standings first (i + 1) (turned first i s d) (subst (λ n. lane < n) (sym (length-set d.lanes i _)) within) (turn-has first i s d within has)

  end-has : (first : ℕ) (standings : List Standing) (d : Drawn) → lane < length d.lanes → Has d → Has (with_end first standings d)
  end-has first standings d within has = turns-have standings first 0 (worded standings d) within has

  lines-have : (lines : List Printed) (d : Drawn) → lane < length d.lanes → Has d → Has (fold with_line d lines)
  lines-have [] d within has = has
  lines-have (p ∷ lines) d within has =
      let rows = fold with_row d (rows_of p) in
      lines-have lines (with_line d p) (subst (λ n. lane < n) (sym (line-long p d)) within)
      (end-has (row_y d.rows) p.standings rows (subst (λ n. lane < n) (sym (rows-long (rows_of p) d)) within) (rows-have (rows_of p) d within has))

nobody-there : (lane : ℕ) → lane < 16 → slice_get nobodies lane ≡ Some nobody
unfolding nobodies
nobody-there lane room = replicated lane 16 room
  where
    replicated : (k n : ℕ) → k < n → slice_get (replicate n nobody) k ≡ Some nobody
    replicated k zero less = absurd (omega arith)
    replicated zero (suc n) less = refl
    replicated (suc k) (suc n) less = replicated k n (omega arith)

-- behind the run no task has a unit: each has its bar
over : (lane unit : ℕ) (d : Drawn) → lane < 16 → lane < length d.lanes → Has lane unit d → list_any (is_bar_of lane unit) (finished d).bars ≡ true
over lane unit d room within has =
    let stands = ap (λ l. l.standing) (turns-lane lane nobodies (row_y d.rows) 0 lane nobody (worded nobodies d) within (nobody-there lane room) (omega arith)) in
    elim (end-has lane unit (row_y d.rows) nobodies d within has) [
      | inl still ↦ let never : None ≡ Some unit = sym (ap (λ s. s.unit) stands) ∙ still in cc
      | inr bar ↦ bar
    ]

pub unit-barred : (before after : List Printed) (p : Printed) (lane unit : ℕ) (s : Standing) → lane < 16 → slice_get p.standings lane ≡ Some s → s.unit ≡ Some unit
    → list_any (is_bar_of lane unit) (finished (drawn (before ++ p ∷ after))).bars ≡ true
unit-barred before after p lane unit s room there is =
    let d = drawn before in
    let rows = fold with_row d (rows_of p) in
    let long : length d.lanes ≡ 16 = lines-long before nothing_drawn ∙ all-long in
    let within : lane < length rows.lanes = subst (λ n. lane < n) (sym (rows-long (rows_of p) d ∙ long)) room in
    let now = with_line d p in
    let stands = ap (λ l. l.standing) (turns-lane lane p.standings (row_y d.rows) 0 lane s (worded p.standings rows) within there (omega arith)) in
    let within-now : lane < length now.lanes = subst (λ n. lane < n) (sym (line-long p d ∙ long)) room in
    let has = lines-have lane unit after now within-now (inl (ap (λ s. s.unit) stands ∙ is)) in
    let all : fold with_line now after ≡ drawn (before ++ p ∷ after) = sym (fold-append with_line nothing_drawn before (p ∷ after)) in
    subst (λ e. list_any (is_bar_of lane unit) (finished e).bars ≡ true) all
    (over lane unit (fold with_line now after) room (subst (λ n. lane < n) (sym (lines-long after now)) within-now) has)
