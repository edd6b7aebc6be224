-- Maps that remember what stood at each key that was set.
use Rattle.std.proofs.Common.{◌≡◌, Bool, true, false, Option, Some, None, is_some, if◌then◌else◌, List, [], ◌∷◌, refl, ap, sym, ◌∙◌}
use Rattle.std.specs.Prelude.{cond}
use Rattle.std.specs.declared.cmp.Ordering.{Ordering}
use Rattle.std.specs.Cmp.{IsTotalOrder, eq_by_cmp_equiv}
use Rattle.std.specs.BTreeMap.{is_at}
use Rattle.cics_picture.specs.Page.Tracked.{Tracked, noted_or, at, shown, shown_before}

-- entries have the same at equal keys
pub at-same : {K X : Type 0} {cmp : K → K → Ordering} → IsTotalOrder cmp → (k q : K) (es : List (K × X)) → is_at (cmp k) q ≡ true → at cmp es q ≡ at cmp es k
at-same o k q [] same = refl
at-same {cmp = cmp} o k q (e ∷ es) same =
    rw ((eq_by_cmp_equiv o).congr k q e.0 same) (ap (λ rest. cond (is_at (cmp q) e.0) (Some e.1) rest) (at-same o k q es same))

-- what was noted, or else what stands, is the same once a key is set
pub noted-stays : {V : Type 0} (hit : Bool) (noted at_key : Option (Option V)) (old now new : Option V) → (hit ≡ true → at_key ≡ noted) → (hit ≡ true → now ≡ old) → noted_or (if is_some noted then at_key else if hit then Some old else at_key) (if hit then new else now) ≡ noted_or at_key now
noted-stays false (Some x) at_key old now new key entry = refl
noted-stays false None at_key old now new key entry = refl
noted-stays true (Some x) at_key old now new key entry = rw (key refl) refl
noted-stays true None at_key old now new key entry = rw (key refl) (sym (entry refl))

-- a key is set in two steps, to keep what was shown before
pub set-keeps : {K V : Type 0} {cmp : K → K → Ordering} → IsTotalOrder cmp → (t mid new : Tracked K V) (key again q : K) (old value : Option V) → again ≡ key → old ≡ shown cmp t key → mid.olds ≡ t.olds → shown cmp mid q ≡ (if is_at (cmp key) q then value else shown cmp t q) → new.entries ≡ mid.entries → at cmp new.olds q ≡ (if is_some (at cmp mid.olds again) then at cmp mid.olds q else if is_at (cmp again) q then Some old else at cmp mid.olds q) → shown_before cmp new q ≡ shown_before cmp t q
set-keeps {cmp = cmp} o t mid new key again q old value a b c d e f =
    ap (λ x. noted_or x (at cmp new.entries q)) f
    ∙ ap (λ es. noted_or (if is_some (at cmp mid.olds again) then at cmp mid.olds q else if is_at (cmp again) q then Some old else at cmp mid.olds q) (at cmp es q)) e
    ∙ ap (λ x. noted_or (if is_some (at cmp mid.olds again) then at cmp mid.olds q else if is_at (cmp again) q then Some old else at cmp mid.olds q) x) d
    ∙ ap (λ os. noted_or (if is_some (at cmp os again) then at cmp os q else if is_at (cmp again) q then Some old else at cmp os q) (if is_at (cmp key) q then value else shown cmp t q)) c
    ∙ ap (λ k. noted_or (if is_some (at cmp t.olds k) then at cmp t.olds q else if is_at (cmp k) q then Some old else at cmp t.olds q) (if is_at (cmp key) q then value else shown cmp t q)) a
    ∙ ap (λ x. noted_or (if is_some (at cmp t.olds key) then at cmp t.olds q else if is_at (cmp key) q then Some x else at cmp t.olds q) (if is_at (cmp key) q then value else shown cmp t q)) b
    ∙ noted-stays (is_at (cmp key) q) (at cmp t.olds key) (at cmp t.olds q) (shown cmp t key) (shown cmp t q) value (at-same o key q t.olds) (at-same o key q t.entries)
