-- What the code notes of searches: how a search goes on, and by how much each has found.
use Rattle.std.specs.Prelude.{◌≡◌, ◌<◌, ◌+◌, ℕ, zero, suc, true, false, nat_eq, Some, None, List, [], ◌∷◌, ◌++◌, length, slice_get, slice_index, refl}
use Rattle.std.proofs.Common.{sym, ap, ◌∙◌, eq-eqb, arith}
use Rattle.std.proofs.lemmas.Bool.{eqb-true, false≢true}
use Rattle.std.proofs.Math.ListN.{get_or-append}
use Rattle.std.proofs.Math.Seq.{get_or-append_seam}
use Rattle.std.proofs.lemmas.List.{length-append}
use Rattle.cics_dispatch.specs.declared.deadlocks.searches.Found.{Found}
use Rattle.cics_dispatch.specs.Deadlocks.Searches.{Graph, steps, with_steps, search_on, searched, search}
use Rattle.cics_dispatch.specs.Deadlocks.Marks.{sizes_below}

-- past the last task nothing more is found
pub stopped : (g : Graph) (n at : ℕ) (found : List Found) → slice_get found at ≡ None → searched g n at found ≡ found
stopped g zero at found none = refl
stopped g (suc n) at found none = ap (search_on (searched g n (at + 1)) g at found) none

-- one task's steps are taken
pub advanced : (g : Graph) (n k at : ℕ) (found new : List Found) (f : Found) → n ≡ suc k → slice_get found at ≡ Some f → new ≡ with_steps (length g) at found (steps g f.task) →
    searched g k (at + 1) new ≡ searched g n at found
advanced g n k at found new f more there is =
    ap (searched g k (at + 1)) is ∙ sym (ap (λ m. searched g m at found) more ∙ ap (search_on (searched g k (at + 1)) g at found) there)

-- there is a size for each task below a number
pub sizes_many : (g : Graph) (n : ℕ) → length (sizes_below g n) ≡ n
sizes_many g zero = refl
sizes_many g (suc n) =
    let before = sizes_many g n in
    let one = length-append (sizes_below g n) (length (search g n) ∷ []) in
    omega (arith, before, one)

-- and it is that of its search
pub size_at : (g : Graph) (n k : ℕ) → k < n → slice_index (sizes_below g n) k ≡ length (search g k)
size_at g zero k less = absurd (omega arith)
size_at g (suc n) k less = elim (nat_eq k n) as (λ t. nat_eq k n ≡ t → slice_index (sizes_below g n ++ length (search g n) ∷ []) k ≡ length (search g k)) [
  | true ↦ λ e.
      let here : k ≡ n = eqb-true k n e in
      ap (slice_index (sizes_below g n ++ length (search g n) ∷ [])) (here ∙ sym (sizes_many g n))
      ∙ get_or-append_seam (sizes_below g n) (length (search g n)) [] 0 ∙ ap (λ x. length (search g x)) (sym here)
  | false ↦ λ e.
      let other : k ≡ n → ⊥ = λ same. false≢true (sym e ∙ eq-eqb k n same) in
      let many = sizes_many g n in
      get_or-append (sizes_below g n) (length (search g n) ∷ []) 0 k (omega (arith, many, other)) ∙ size_at g n k (omega (arith, other))
] refl

pub more_sizes : (g : Graph) (n : ℕ) → sizes_below g (n + 1) ≡ sizes_below g n ++ length (search g n) ∷ []
more_sizes g n = ap (sizes_below g) (let next : n + 1 ≡ suc n = omega arith in next)
