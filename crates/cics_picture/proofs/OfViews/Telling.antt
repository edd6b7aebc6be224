-- What a map showed before, and then what is told of each key that was set, is what it shows now.
use Rattle.std.proofs.Common.{◌≡◌, Bool, true, false, Option, Some, None, if◌then◌else◌, List, [], ◌∷◌, refl, ◌∙◌}
use Rattle.std.specs.Prelude.{cond}
use Rattle.std.specs.declared.cmp.Ordering.{Ordering}
use Rattle.std.specs.Cmp.{IsTotalOrder, eq_by_cmp_equiv}
use Rattle.std.specs.BTreeMap.{is_at}
use Rattle.std.specs.List.{filter_map, cons_option}
use Rattle.std.specs.List.Sorted.{IsStrictlySortedBy}
use Rattle.std.specs.Map.{keys_of}
use Rattle.std.proofs.lemmas.Map.{lookup-none}
use Rattle.std.proofs.lemmas.Map.Entries.{none_past_head}
use Rattle.std.proofs.lemmas.Map.Keys.{IsDistinct-from_sorted, sorted_tail}
use Rattle.cics_picture.specs.Page.Tracked.{noted_or, at, assigned, all_assigned}

-- of a key it is told what stands there, or nothing if that stood there before
abbrev pub IsTelling : {K V : Type 0} → K → Option V → Option V → Option (K × Option V) → Type 0
IsTelling key before now None = before ≡ now
IsTelling key before now (Some a) = a ≡ (key, now)

-- behind the first key that was noted: nothing is told of it, since it is as it was
past-silent : {V : Type 0} (hit : Bool) (noted : Option (Option V)) (before at_key now shown : Option V) → (hit ≡ true → noted ≡ None) → (hit ≡ true → at_key ≡ now) → shown ≡ noted_or (cond hit (Some before) noted) now → before ≡ at_key → shown ≡ noted_or noted now
past-silent true noted before at_key now shown gone same was e = rw (gone refl) (was ∙ e ∙ same refl)
past-silent false noted before at_key now shown gone same was e = was

-- behind the first key that was noted: it is told what stands there
past-told : {V : Type 0} (hit : Bool) (noted : Option (Option V)) (before at_key now shown : Option V) → (hit ≡ true → noted ≡ None) → (hit ≡ true → at_key ≡ now) → shown ≡ noted_or (cond hit (Some before) noted) now → (if hit then at_key else shown) ≡ noted_or noted now
past-told true noted before at_key now shown gone same was = rw (gone refl) (same refl)
past-told false noted before at_key now shown gone same was = was

module _ {K V : Type 0} {cmp : K → K → Ordering} (o : IsTotalOrder cmp) (now : K → Option V) (alike : (k q : K) → is_at (cmp k) q ≡ true → now q ≡ now k) where
  -- the first key doesn't come again
  gone : (e : K × Option V) (es : List (K × Option V)) → IsStrictlySortedBy cmp (keys_of (e ∷ es)) → (q : K) → is_at (cmp q) e.0 ≡ true → at cmp es q ≡ None
  gone e es sorted q hit = lookup-none (is_at (cmp q)) es (none_past_head (eq_by_cmp_equiv o) q e es (IsDistinct-from_sorted cmp (keys_of (e ∷ es)) sorted) hit)

  -- one key is told, and then the others
  step : (e : K × Option V) (es : List (K × Option V)) (rest : List (K × Option V)) → IsStrictlySortedBy cmp (keys_of (e ∷ es)) → (f : K → Option V) → ((q : K) → f q ≡ noted_or (at cmp (e ∷ es) q) (now q)) → ((g : K → Option V) → ((q : K) → g q ≡ noted_or (at cmp es q) (now q)) → (q : K) → all_assigned cmp g rest q ≡ now q) → (t : Option (K × Option V)) → IsTelling e.0 e.1 (now e.0) t → (q : K) → all_assigned cmp f (cons_option t rest) q ≡ now q
  step e es rest sorted f was others None same q =
      others f (λ r. past-silent (is_at (cmp r) e.0) (at cmp es r) e.1 (now e.0) (now r) (f r) (gone e es sorted r) (alike r e.0) (was r) same) q
  step e es rest sorted f was others (Some a) same q =
      rw same (others (assigned cmp f (e.0, now e.0)) (λ r. rw ((eq_by_cmp_equiv o).symm e.0 r) (past-told (is_at (cmp r) e.0) (at cmp es r) e.1 (now e.0) (now r) (f r) (gone e es sorted r) (alike r e.0) (was r))) q)

  -- all keys that were noted are told
  pub told-gives : (tell : K × Option V → Option (K × Option V)) → ((e : K × Option V) → IsTelling e.0 e.1 (now e.0) (tell e)) → (es : List (K × Option V)) → IsStrictlySortedBy cmp (keys_of es) → (f : K → Option V) → ((q : K) → f q ≡ noted_or (at cmp es q) (now q)) → (q : K) → all_assigned cmp f (filter_map tell es) q ≡ now q
  told-gives tell telling [] sorted f was q = was q
  told-gives tell telling (e ∷ es) sorted f was q =
      step e es (filter_map tell es) sorted f was (told-gives tell telling es (sorted_tail cmp e.0 (keys_of es) sorted)) (tell e) (telling e) q
