-- What one command does to a cell, by the ends that it uses.
use Rattle.std.proofs.Common.{◌≡◌, Bool, true, false, Some, None, List, [], ◌∷◌, refl, ap}
use Rattle.std.specs.Prelude.{is_some}
use Rattle.std.proofs.lemmas.Bool.{true≢false}
use Rattle.cics_names.specs.Keyed.{Bytes}
use Rattle.cics_history.specs.Store.{is_normal}
use Rattle.cics_history.specs.declared.ops.Answer.{Answer}
use Rattle.cics_history.specs.declared.ops.Op.{Op}
use Rattle.cics_history.specs.declared.ops.Op.TheVariants.{Write, Rewrite, Delete, DeleteGeneric, ReadUpdate, TsWrite, TsRewrite, TsDelete, TdWrite, TdRead, TdDelete}
use Rattle.cics_history.specs.Cells.{Content, effected, effect, Reading, Writing, uses}
use Rattle.cics_history.proofs.Fronts.{IsFront-refl, IsFront-antisym, IsFront-push}
use Rattle.cics_history.specs.Isolation.{Begins}

pub Begins-refl : (c : Content) → Begins c c
Begins-refl None = tt
Begins-refl (Some c) = IsFront-refl c

pub Begins-antisym : (c d : Content) → Begins c d → Begins d c → c ≡ d
Begins-antisym None None h k = refl
Begins-antisym None (Some d) h k = absurd h
Begins-antisym (Some c) None h k = absurd h
Begins-antisym (Some c) (Some d) h k = ap Some (IsFront-antisym c d h k)

abbrev pub is_empty : Content → Bool
is_empty None = true
is_empty (Some []) = true
is_empty (Some (x ∷ xs)) = false

refused : (a : Answer) (c changed : List Bytes) → is_normal a.condition ≡ false →
    (effected a c changed).cell ≡ Some c
refused a c changed e = rw e refl

-- an answer that is not NORMAL leaves the cell
pub effect-refused : (op : Op) (c : Content) → is_normal (effect op c).answer.condition ≡ false →
    (effect op c).cell ≡ c
effect-refused (Write f k r) None e = refl
effect-refused (Write f k r) (Some []) e = absurd (true≢false e)
effect-refused (Write f k r) (Some (x ∷ xs)) e = refl
effect-refused (Rewrite f k r) None e = refl
effect-refused (Rewrite f k r) (Some []) e = refl
effect-refused (Rewrite f k r) (Some (x ∷ xs)) e = absurd (true≢false e)
effect-refused (Delete f k) None e = refl
effect-refused (Delete f k) (Some []) e = refl
effect-refused (Delete f k) (Some (x ∷ xs)) e = absurd (true≢false e)
effect-refused (DeleteGeneric f p) None e = refl
effect-refused (DeleteGeneric f p) (Some []) e = refl
effect-refused (DeleteGeneric f p) (Some (x ∷ xs)) e = absurd (true≢false e)
effect-refused (ReadUpdate f k) None e = refl
effect-refused (ReadUpdate f k) (Some []) e = refl
effect-refused (ReadUpdate f k) (Some (x ∷ xs)) e = refl
effect-refused (TsWrite q d) None e = refl
effect-refused (TsWrite q d) (Some c) e = refused (effect (TsWrite q d) (Some c)).answer _ _ e
effect-refused (TsRewrite q n d) None e = refl
effect-refused (TsRewrite q n d) (Some c) e = refused (effect (TsRewrite q n d) (Some c)).answer _ _ e
effect-refused (TsDelete q) None e = refl
effect-refused (TsDelete q) (Some c) e = refused (effect (TsDelete q) (Some c)).answer _ _ e
effect-refused (TdWrite q d) None e = refl
effect-refused (TdWrite q d) (Some c) e = absurd (true≢false e)
effect-refused (TdRead q) None e = refl
effect-refused (TdRead q) (Some []) e = refl
effect-refused (TdRead q) (Some (x ∷ xs)) e = absurd (true≢false e)
effect-refused (TdDelete q) None e = refl
effect-refused (TdDelete q) (Some c) e = absurd (true≢false e)

-- a command makes and removes no file and no queue
pub effect-there : (op : Op) (c : Content) → is_some (effect op c).cell ≡ is_some c
effect-there (Write f k r) None = refl
effect-there (Write f k r) (Some []) = refl
effect-there (Write f k r) (Some (x ∷ xs)) = refl
effect-there (Rewrite f k r) None = refl
effect-there (Rewrite f k r) (Some []) = refl
effect-there (Rewrite f k r) (Some (x ∷ xs)) = refl
effect-there (Delete f k) None = refl
effect-there (Delete f k) (Some []) = refl
effect-there (Delete f k) (Some (x ∷ xs)) = refl
effect-there (ReadUpdate f k) None = refl
effect-there (ReadUpdate f k) (Some []) = refl
effect-there (ReadUpdate f k) (Some (x ∷ xs)) = refl
effect-there (TdRead q) None = refl
effect-there (TdRead q) (Some []) = refl
effect-there (TdRead q) (Some (x ∷ xs)) = refl
effect-there _ None = refl
effect-there _ (Some c) = refl

-- a command that leaves the writing end alone takes from the front
pub effect-front : (op : Op) (c d : Content) → uses op Writing ≡ false → Begins c d →
    Begins (effect op c).cell (effect op d).cell
effect-front (TdRead q) None None e h = tt
effect-front (TdRead q) None (Some d) e h = absurd h
effect-front (TdRead q) (Some c) None e h = absurd h
effect-front (TdRead q) (Some []) (Some []) e h = tt
effect-front (TdRead q) (Some []) (Some (y ∷ d)) e h = tt
effect-front (TdRead q) (Some (x ∷ c)) (Some []) e h = absurd h
effect-front (TdRead q) (Some (x ∷ c)) (Some (y ∷ d)) e h = h.1
effect-front _ c d e h = absurd (true≢false e)

-- and answers the same at every longer list
pub answer-front : (op : Op) (c d : Content) → uses op Writing ≡ false → is_empty c ≡ false → Begins c d →
    (effect op c).answer ≡ (effect op d).answer
answer-front (TdRead q) None d e s h = absurd (true≢false s)
answer-front (TdRead q) (Some []) d e s h = absurd (true≢false s)
answer-front (TdRead q) (Some (x ∷ c)) None e s h = absurd h
answer-front (TdRead q) (Some (x ∷ c)) (Some []) e s h = absurd h
answer-front (TdRead q) (Some (x ∷ c)) (Some (y ∷ d)) e s h =
    ap (λ (r : Bytes). (effect (TdRead q) (Some (r ∷ []))).answer) h.0
answer-front _ c d e s h = absurd (true≢false e)

-- a command that leaves the reading end alone answers the same wherever its cell is there
pub answer-blind : (op : Op) (c d : Content) → uses op Reading ≡ false → is_some c ≡ is_some d →
    (effect op c).answer ≡ (effect op d).answer
answer-blind (TdWrite q r) None None e h = refl
answer-blind (TdWrite q r) (Some c) (Some d) e h = refl
answer-blind (TdWrite q r) None (Some d) e h = cc
answer-blind (TdWrite q r) (Some c) None e h = cc
answer-blind _ c d e h = absurd (true≢false e)

-- and adds at the end
pub front-effect : (op : Op) (c d : Content) → uses op Reading ≡ false → Begins c d →
    Begins c (effect op d).cell
front-effect (TdWrite q r) None None e h = tt
front-effect (TdWrite q r) None (Some d) e h = absurd h
front-effect (TdWrite q r) (Some c) None e h = absurd h
front-effect (TdWrite q r) (Some c) (Some d) e h = IsFront-push c d r h
front-effect _ c d e h = absurd (true≢false e)

pub uses-some : (op : Op) → uses op Reading ≡ false → uses op Writing ≡ true
uses-some (TdWrite q r) e = refl
uses-some _ e = absurd (true≢false e)
