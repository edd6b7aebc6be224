-- Whatever becomes of the open units, each answer that remains is right: what an open unit sees of a cell does not
-- depend on how the other open units end.
use Rattle.std.proofs.Common.{◌≡◌, ℕ, true, false, ◌&&◌, List, [], ◌∷◌, ◌++◌, refl, ap, sym, subst, ◌∙◌, eqb, inl, inr}
use Rattle.std.proofs.lemmas.Bool.{eq-eqb, and_from, or_left, or_right}
use Rattle.std.proofs.lemmas.List.Folds.{list_any-append}
use Rattle.cics_history.specs.State.{OpeningState, initial_store}
use Rattle.cics_history.specs.Store.{is_recoverable}
use Rattle.cics_history.specs.Headline.{is_backed_out}
use Rattle.cics_history.specs.declared.ops.Entry.{Entry}
use Rattle.cics_history.specs.Cells.{Cell, content, End, Reading, Writing, recovers, IsOrdered}
use Rattle.cics_history.proofs.Effects.{Begins-antisym}
use Rattle.cics_history.proofs.Joining.{touches-recovers}
use Rattle.cics_history.proofs.Stores.{replay-ordered}
use Rattle.cics_history.proofs.Replays.{Each_from, replay-at}
use Rattle.cics_history.specs.Isolation.{Outcomes, stays, left_by, store_by, claims, used, Extends, Alike, AtMost, IsIsolated, IsFree}

-- in every store that the history may give, the keys of each file rise
pub store_ordered : {o : OpeningState} {es : List Entry} {out : Outcomes} → IsIsolated o es out → (fin : Outcomes) (ds : List Entry) →
    IsOrdered (store_by o fin ds)
store_ordered {o} i fin ds = replay-ordered (initial_store o) (left_by o fin ds) i.ordered

pub Extends-refl : (out : Outcomes) → Extends out out
Extends-refl out u e = refl

at_most : (es : List Entry) (x : Cell) (end : End) (fin more : Outcomes) → Alike es x end fin more →
    AtMost es x end fin more
at_most es x end fin more h u t g = h u t ∙ g

alike_sym : (es : List Entry) (x : Cell) (end : End) (fin more : Outcomes) → Alike es x end fin more →
    Alike es x end more fin
alike_sym es x end fin more h u t = sym (h u t)

-- one content, where the units that used the cell end alike
pub same_content : {o : OpeningState} {es : List Entry} {out : Outcomes} → IsIsolated o es out →
    (x : Cell) → recovers o x ≡ true → (fin more : Outcomes) → Extends out fin → Extends out more →
    Alike es x Reading fin more → Alike es x Writing fin more →
    content (store_by o fin es) x ≡ content (store_by o more es) x
same_content {o} {es} {out} i x r fin more f m a b =
    Begins-antisym _ _ (i.fronts x r fin more f m a (at_most es x Writing fin more b))
    (i.fronts x r more fin m f (alike_sym es x Reading fin more a)
    (at_most es x Writing more fin (alike_sym es x Writing fin more b)))

-- an unrecoverable cell holds the same however the units end
pub unrecovered : (o : OpeningState) (x : Cell) → recovers o x ≡ false →
    (fin more : Outcomes) (es : List Entry) → content (store_by o fin es) x ≡ content (store_by o more es) x
unrecovered o x r fin more es =
    replay-at x (stays o fin) (stays o more) es
    (Each_from _ (λ e c. let off : is_recoverable o e.op ≡ false = touches-recovers o e.op x c ∙ r in
    rw off refl) es) (initial_store o) (initial_store o) refl

-- the history with one entry more
pub used-more : (es : List Entry) (e : Entry) (u : ℕ) (x : Cell) (end : End) → used es u x end ≡ true →
    used (es ++ e ∷ []) u x end ≡ true
used-more es e u x end h = list_any-append (λ d. claims x end d && eqb d.unit u) es (e ∷ []) ∙ rw h refl

pub used-last : (es : List Entry) (e : Entry) (x : Cell) (end : End) → claims x end e ≡ true →
    used (es ++ e ∷ []) e.unit x end ≡ true
used-last es e x end h =
    let last : used (e ∷ []) e.unit x end ≡ true = or_left _ _ (and_from _ _ h (eq-eqb e.unit e.unit refl)) in
    list_any-append (λ d. claims x end d && eqb d.unit e.unit) es (e ∷ []) ∙ or_right _ _ last

pub alike_if_alone : (es : List Entry) (out : Outcomes) (v : ℕ) (x : Cell) (end : End) →
    IsFree es out v x end → (fin more : Outcomes) → Extends out fin → Extends out more →
    is_backed_out (fin v) ≡ is_backed_out (more v) → Alike es x end fin more
alike_if_alone es out v x end h fin more f m e u t = elim (h u t) [
  | inl own ↦ subst (λ n. is_backed_out (fin n) ≡ is_backed_out (more n)) (sym own) e
  | inr shut ↦ ap is_backed_out (f u shut ∙ sym (m u shut))
]
