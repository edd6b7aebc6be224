-- Arrows and rings stand on the lane of their task.
use Rattle.std.proofs.Common.{◌≡◌, ℕ, zero, suc, ◌+◌, ◌-◌, ◌<◌, List, [], ◌∷◌, ◌++◌, length, refl, ap, sym, ◌∙◌, subst, arith, append_assoc, Some}
use Rattle.std.proofs.lemmas.List.Sums.{fold-append}
use Rattle.std.specs.Prelude.{slice_get, ◌&&◌, not}
use Rattle.cics_picture.specs.declared.bars.Standing.{Standing}
use Rattle.cics_picture.specs.declared.bars.Lane.{Lane}
use Rattle.cics_picture.specs.Lanes.{row_y}
use Rattle.cics_picture.specs.Bars.{lane_at, new_blocker}
use Rattle.cics_picture.specs.Drawings.{Drawn, nothing_drawn, Printed, rows_of, moved_if, ring_if, stays_if, shows_if, turn_signs, turned, turned_from, with_line, drawn}
use Rattle.cics_picture.specs.Spans.{HasPart, rows_behind}
use Rattle.cics_picture.proofs.Kept.{set-other, lines-long, all-long, worded, rows-keep}

-- a part of a text is one of a longer text
part-left : (x y part : List ℕ) → HasPart x part → HasPart (x ++ y) part
part-left x y part p = record {
  front = p.front;
  back = p.back ++ y;
  joined = ap (λ t. t ++ y) p.joined ∙ append_assoc p.front (part ++ p.back) y ∙ ap (λ t. p.front ++ t) (append_assoc part p.back y);
}

-- a part between two others
part-within : (x part y : List ℕ) → HasPart (x ++ (part ++ y)) part
part-within x part y = record { front = x; back = y; joined = refl }

turns-keep : (standings : List Standing) (first i : ℕ) (d : Drawn) (part : List ℕ) → HasPart d.marks part → HasPart (turned_from first i standings d).marks part
turns-keep [] first i d part has = has
turns-keep (s ∷ standings) first i d part has =
    turns-keep standings first (i + 1) (turned first i s d) part (part-left d.marks _ part has)

-- the signs of a lane depend on how its task stood
same-signs : (d : Drawn) (lane : ℕ) (l k : Lane) (s : Standing) → l.standing ≡ k.standing → turn_signs d lane l s ≡ turn_signs d lane k s
same-signs d lane l k s stood =
    ap (λ w. moved_if (new_blocker w.blocker s.blocker) lane (row_y (d.rows - 1)) ++ ring_if (s.is_deadlocked && not w.is_deadlocked) lane (row_y (d.rows - 1))) stood

turns-sign : (standings : List Standing) (first lane i k : ℕ) (s : Standing) (d : Drawn) → i + k ≡ lane → slice_get standings k ≡ Some s
    → HasPart (turned_from first i standings d).marks (turn_signs d lane (lane_at d.lanes lane) s)
turns-sign [] first lane i k s d at there = cc
turns-sign (x ∷ standings) first lane i zero s d at there =
    let here : i ≡ lane = omega arith in
    let same : x ≡ s = cc in
    let l = lane_at d.lanes i in
    let signs : turn_signs d i l x ≡ turn_signs d lane (lane_at d.lanes lane) s =
    ap (λ y. turn_signs d i l y) same ∙ ap (λ j. turn_signs d j (lane_at d.lanes j) s) here in
    subst (λ part. HasPart (turned_from first i (x ∷ standings) d).marks part) signs
    (turns-keep standings first (i + 1) (turned first i x d) (turn_signs d i l x)
    (part-within d.marks (turn_signs d i l x) (stays_if x.stays i l.last ++ shows_if x.shows i l.last)))
turns-sign (x ∷ standings) first lane i (suc k) s d at there =
    subst (λ l. HasPart (turned_from first i (x ∷ standings) d).marks (turn_signs d lane l s)) (set-other d.lanes i lane _ (λ same. omega arith))
    (turns-sign standings first lane (i + 1) k s (turned first i x d) (omega arith) there)

-- rows leave how a lane's task stood
pub signs-there : (before : List Printed) (p : Printed) (lane : ℕ) (s : Standing) → lane < 16 → slice_get p.standings lane ≡ Some s
    → HasPart (drawn (before ++ p ∷ [])).marks (turn_signs (rows_behind before p) lane (lane_at (drawn before).lanes lane) s)
signs-there before p lane s room there =
    let d = drawn before in
    let rows = rows_behind before p in
    let long : length d.lanes ≡ 16 = lines-long before nothing_drawn ∙ all-long in
    let stood = rows-keep (λ l. l.standing) (λ l row k. refl) lane (rows_of p) d (subst (λ n. lane < n) (sym long) room) in
    subst (λ x. HasPart x.marks (turn_signs rows lane (lane_at d.lanes lane) s)) (sym (fold-append with_line nothing_drawn before (p ∷ [])))
    (subst (λ part. HasPart (with_line d p).marks part) (same-signs rows lane (lane_at rows.lanes lane) (lane_at d.lanes lane) s stood)
    (turns-sign p.standings (row_y d.rows) lane 0 lane s (worded p.standings rows) (omega arith) there))
