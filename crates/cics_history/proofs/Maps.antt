-- Maps whose keys rise.
use Rattle.std.proofs.Common.{◌≡◌, Bool, true, false, Option, Some, None, refl, sym, subst, ◌⊎◌, inl, inr}
use Rattle.std.specs.Prelude.{T}
use Rattle.cics_names.specs.Keyed.{Bytes, Map, value_at, with_value, without, is_rising}
use Rattle.cics_names.specs.RisingLaws as rising

pub cases_Option : {A : Type 0} (o : Option A) → (o ≡ None) ⊎ ((x : A) × (o ≡ Some x))
cases_Option None = inl refl
cases_Option (Some x) = inr (x, refl)

pub to_T : (b : Bool) → b ≡ true → T b
to_T b e = subst T (sym e) tt

pub of_T : (b : Bool) → T b → b ≡ true
of_T true t = refl
of_T false t = absurd t

pub rising-with_value : {X : Type 0} (k : Bytes) (x : X) (m : Map X) → is_rising m ≡ true →
    is_rising (with_value k x m) ≡ true
rising-with_value k x m h = of_T _ (rising.rising-with_value k x m (to_T _ h))

pub rising-without : {X : Type 0} (k : Bytes) (m : Map X) → is_rising m ≡ true →
    is_rising (without k m) ≡ true
rising-without k m h = of_T _ (rising.rising-without k m (to_T _ h))

pub same_map : {X : Type 0} (m n : Map X) → is_rising m ≡ true → is_rising n ≡ true →
    ((q : Bytes) → value_at q m ≡ value_at q n) → m ≡ n
same_map m n a b h = rising.same_maps m n (to_T _ a) (to_T _ b) h
