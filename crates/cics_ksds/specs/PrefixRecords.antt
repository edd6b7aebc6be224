-- A delete by prefix leaves the records whose keys don't begin with the prefix, and no others.
use Rattle.std.proofs.Common.{◌≡◌, ◌≢◌, Bool, true, false, not, cond, T, suc, List, [], ◌∷◌, map, Some, None, refl, sym, ◌∙◌, ap, arith}
use Rattle.std.specs.List.{All, filter}
use Rattle.std.specs.Ordering.{is_eq}
use Rattle.std.specs.FinMap.Entries.{below_all}
use Rattle.std.proofs.lemmas.List.Elements.{filter_passes}
use Rattle.cics_names.specs.Keyed.{Bytes, Map, bytes_cmp, is_rising, value_at, without}
use Rattle.cics_names.specs.KeyedLaws.{is_same-self, is_same-other}
use Rattle.cics_names.specs.RisingLaws.{without-absent}
use Rattle.cics_ksds.specs.Files.{FileValue, deleted, IsContent}
use Rattle.cics_ksds.specs.FileRising.{records_deleted}
use Rattle.cics_ksds.specs.PrefixLaws.{front, back, less}
use Rattle.cics_ksds.specs.Prefixes.{has_prefix, under, outside, all_deleted, without_prefix}

-- the records without these keys
abbrev without_all : List Bytes → Map Bytes → Map Bytes
without_all [] records = records
without_all (key ∷ keys) records = without_all keys (without key records)

-- deleting keys one after another leaves the records without them
records_left : (keep : Bool) (f : FileValue) (keys : List Bytes) → (all_deleted keep f keys).records ≡ without_all keys f.records
records_left keep f [] = refl
records_left keep f (key ∷ keys) = records_left keep (deleted keep f key) keys ∙ ap (without_all keys) (records_deleted keep f key)

-- keys that pass a test leave an entry whose key doesn't
stays : (p : Bytes → Bool) (e : Bytes × Bytes) (es : Map Bytes) → p e.0 ≡ false → (gone : Map Bytes) → All (λ g. p g.0 ≡ true) gone →
    without_all (map (λ g. g.0) gone) (e ∷ es) ≡ e ∷ without_all (map (λ g. g.0) gone) es
stays p e es fails [] pass = refl
stays p e es fails (g ∷ gone) pass =
    let other : g.0 ≢ e.0 = λ same. let wrong : true ≡ false = sym (pass 0 g (omega arith)) ∙ ap p same ∙ fails in cc in
    ap (λ b. without_all (map (λ x. x.0) gone) (cond (not b) (e ∷ without g.0 es) (without g.0 es))) (is_same-other g.0 e.0 other)
    ∙ stays p e (without g.0 es) fails gone (λ i d lt. pass (suc i) d (omega (arith, lt)))

-- a key below all others is absent
absent : (key : Bytes) (es : Map Bytes) → T (below_all bytes_cmp key es) → value_at key es ≡ None
absent key [] below = refl
absent key (e ∷ es) below = ap (λ o. cond (is_eq o) (Some e.1) (value_at key es)) (less _ (front _ _ below)) ∙ absent key es (back _ _ below)

-- without the keys that pass, what is left of rising records is those that don't
left : (p : Bytes → Bool) (es : Map Bytes) → T (is_rising es) → without_all (map (λ e. e.0) (filter (λ e. p e.0) es)) es ≡ filter (λ e. not (p e.0)) es
left p [] rising = refl
left p (e ∷ es) rising = by (left p es (back _ _ rising)) (p e.0) refl
  where
    by : without_all (map (λ e. e.0) (filter (λ e. p e.0) es)) es ≡ filter (λ e. not (p e.0)) es → (b : Bool) → p e.0 ≡ b →
        without_all (map (λ e. e.0) (cond (p e.0) (e ∷ filter (λ e. p e.0) es) (filter (λ e. p e.0) es))) (e ∷ es) ≡ cond (not (p e.0)) (e ∷ filter (λ e. not (p e.0)) es) (filter (λ e. not (p e.0)) es)
    by rest true is =
        ap (λ b. without_all (map (λ e. e.0) (cond b (e ∷ filter (λ e. p e.0) es) (filter (λ e. p e.0) es))) (e ∷ es)) is
        ∙ ap (λ b. without_all (map (λ e. e.0) (filter (λ e. p e.0) es)) (cond (not b) (e ∷ without e.0 es) (without e.0 es))) (is_same-self e.0)
        ∙ ap (without_all (map (λ e. e.0) (filter (λ e. p e.0) es))) (without-absent e.0 es (absent e.0 es (front _ _ rising)))
        ∙ rest
        ∙ sym (ap (λ b. cond (not b) (e ∷ filter (λ e. not (p e.0)) es) (filter (λ e. not (p e.0)) es)) is)
    by rest false is =
        ap (λ b. without_all (map (λ e. e.0) (cond b (e ∷ filter (λ e. p e.0) es) (filter (λ e. p e.0) es))) (e ∷ es)) is
        ∙ stays p e es is (filter (λ e. p e.0) es) (filter_passes (λ e. p e.0) es)
        ∙ ap (λ l. e ∷ l) rest
        ∙ sym (ap (λ b. cond (not b) (e ∷ filter (λ e. not (p e.0)) es) (filter (λ e. not (p e.0)) es)) is)

-- the records that are left are those whose keys don't begin with the prefix
pub without_prefix_records : (keep : Bool) (f : FileValue) (prefix : Bytes) → IsContent f.definition f.records → (without_prefix keep f prefix).records ≡ outside prefix f.records
without_prefix_records keep f prefix content = records_left keep f (map (λ e. e.0) (under prefix f.records)) ∙ left (has_prefix prefix) f.records content.rising
