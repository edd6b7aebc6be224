-- One of the values by name is changed where it stands: what the values are then. The values are
-- the files of a region, or its transient data queues.
use Rattle.std.specs.Prelude.{◌≡◌, T, Bool, true, false, cond, ◌&&◌, [], ◌∷◌, Option, Some, None, IsSome, Result, Ok, Err, IfOk}
use Rattle.std.proofs.Common.{sym, ap, ◌∙◌, subst, refl}
use Rattle.std.specs.Borrow.{MutBor}
use Rattle.std.specs.Option.{option_copied_mut}
use Rattle.std.specs.Map.{lookup, set_value}
use Rattle.std.specs.Ordering.{is_lt}
use Rattle.std.specs.FinMap.Entries.{below_all}
use Rattle.std.specs.BTreeMap.{is_at}
use Rattle.cics_names.specs.Keyed.{Bytes, Map, bytes_cmp, value_at, with_value, is_rising}
use Rattle.cics_images.specs.NamedValues.{IsReadyIn, changed_at, changed_where}
use Rattle.cics_history.proofs.Entries.{lookup-value_at, value_at-looked_up, with_value-same, with_value-set}

-- ---- values of any kind
-- a value that is there is lent
pub is_lent : {M : Type 0} (name : Bytes) (es values : Map M) (r : Option (MutBor M)) → option_copied_mut r ≡ lookup (is_at (bytes_cmp name)) es → es ≡ values →
    IsSome (value_at name values) → IsSome r
is_lent name es values r found view there = lent r (subst IsSome (sym (found ∙ lookup-value_at name es ∙ ap (value_at name) view)) there)
  where
    lent : {M : Type 0} (r : Option (MutBor M)) → IsSome (option_copied_mut r) → IsSome r
    lent None is = is
    lent (Some r) is = is

-- if a value is set the names rise as before
below_set : {M : Type 0} (is : Bytes → Bool) (g : M) (k : Bytes) (es : Map M) → below_all bytes_cmp k (set_value is es g) ≡ below_all bytes_cmp k es
below_set is g k [] = refl
below_set is g k (e ∷ es) = elim (is e.0) as (λ b. below_all bytes_cmp k (cond b ((e.0, g) ∷ es) (e ∷ set_value is es g)) ≡ below_all bytes_cmp k (e ∷ es)) [
  | true ↦ refl
  | false ↦ ap (λ b. is_lt (bytes_cmp k e.0) && b) (below_set is g k es)
]

rises_set : {M : Type 0} (is : Bytes → Bool) (g : M) (es : Map M) → is_rising (set_value is es g) ≡ is_rising es
rises_set is g [] = refl
rises_set is g (e ∷ es) = elim (is e.0) as (λ b. is_rising (cond b ((e.0, g) ∷ es) (e ∷ set_value is es g)) ≡ is_rising (e ∷ es)) [
  | true ↦ refl
  | false ↦ λ i. below_set is g e.0 es i && rises_set is g es i
]

pub still_rising : {M : Type 0} (name : Bytes) (g : M) (es new : Map M) → new ≡ set_value (is_at (bytes_cmp name)) es g → T (is_rising es) → T (is_rising new)
still_rising name g es new set rising = subst (λ m. T (is_rising m)) (sym set) (subst T (sym (rises_set (is_at (bytes_cmp name)) g es)) rising)

module _ {M : Type 0} (name : Bytes) (es values : Map M) (f : M) (rising : T (is_rising es)) (found : Some f ≡ lookup (is_at (bytes_cmp name)) es) (view : es ≡ values) where
  -- the value is the one of the name
  pub there : value_at name values ≡ Some f
  there = value_at-looked_up name es values (Some f) found view

  there_inside : value_at name es ≡ Some f
  there_inside = value_at-looked_up name es es (Some f) found refl

  module _ (g : M) (new : Map M) (set : new ≡ set_value (is_at (bytes_cmp name)) es g) where
    -- the name has the changed value, and the other names have what they had
    pub changed : new ≡ with_value name g values
    changed = with_value-set name g f es new rising there_inside set ∙ ap (with_value name g) view

    -- the same, by the step that changed the value
    pub stepped : (step : M → M) → g ≡ step f → new ≡ changed_at step name values
    stepped step is = changed ∙ ap (λ x. with_value name x values) is ∙ ap (λ o. changed_where step name o values) (sym there)

-- if a name has no value, no step changes any
pub not_stepped : {M : Type 0} (name : Bytes) (es values : Map M) → es ≡ values → (step : M → M) → None ≡ lookup (is_at (bytes_cmp name)) es →
    (new : Map M) → new ≡ es → new ≡ changed_at step name values
not_stepped name es values view step missing new same =
    same ∙ view ∙ ap (λ o. changed_where step name o values) (sym (value_at-looked_up name es values None missing view))

-- if the value of a name stays all do
pub all_stay : {M : Type 0} (name : Bytes) (f g : M) (m : Map M) → T (is_rising m) → value_at name m ≡ Some f → g ≡ f → with_value name g m ≡ m
all_stay name f g m rising there same = ap (λ x. with_value name x m) same ∙ with_value-same name f m rising there

-- an image is ready for a value that is there
pub there_if_ready : {M I : Type 0} (IsReady : M → I → Type 0) (o : Option M) (i : I) → IsReadyIn IsReady o i → IsSome o
there_if_ready IsReady None i ready = absurd ready
there_if_ready IsReady (Some m) i ready = refl

-- what follows from a fact of the value of a success
pub IfOk-more : {A E : Type 0} (r : Result A E) (P Q : A → Type 0) → ((a : A) → P a → Q a) → IfOk r P → IfOk r Q
IfOk-more (Ok a) P Q f p = f a p
IfOk-more (Err e) P Q f p = tt
