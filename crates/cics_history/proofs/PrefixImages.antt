-- The images of DELETE GENERIC lead each key under its prefix back, and name no other cell.
use Rattle.std.proofs.Common.{◌≡◌, Bool, true, false, cond, ◌&&◌, ◌||◌, T, Option, Some, None, List, [], ◌∷◌, ◌++◌, append_assoc, refl, ap, sym, subst, ◌∙◌, inl, inr}
use Rattle.std.specs.Prelude.{if◌then◌else◌, is_some, unwrap_or, MatchBool}
use Rattle.std.specs.Ordering.{is_eq}
use Rattle.std.specs.FinMap.Entries.{below_all}
use Rattle.std.proofs.lemmas.Bool.{true≢false, false≢true, cases_Bool, and_parts, and_from, or_from, false_from_ne_true}
use Rattle.std.proofs.lemmas.List.Folds.{list_any-append}
use Rattle.cics_names.specs.Keyed.{Bytes, Map, bytes_cmp, value_at, has_key, is_same, is_rising}
use Rattle.cics_names.specs.KeyedLaws.{is_same-self, is_same-eq}
use Rattle.cics_names.specs.RisingLaws.{is_same-turned}
use Rattle.cics_ksds.specs.Prefixes.{has_prefix, under}
use Rattle.cics_ksds.specs.PrefixLaws.{front, back, less}
use Rattle.cics_history.specs.Openings.{is_in_order}
use Rattle.cics_history.specs.State.{Store}
use Rattle.cics_history.specs.Store.{is_normal}
use Rattle.cics_history.specs.declared.ops.Op.{Op}
use Rattle.cics_history.specs.declared.ops.Op.TheVariants.{DeleteGeneric}
use Rattle.cics_history.specs.Cells.{Cell, Key, Ts, Td, Content, record_in, content, same_cell, touches, effect, IsOrdered}
use Rattle.cics_history.specs.Undo.{Image, Cells, Leads, names, changes, AreImages, image_at, images_under, prefix_images, images_by}
use Rattle.cics_history.proofs.Maps.{to_T, of_T}
use Rattle.cics_history.proofs.Generic.{value_at-where, rising-where}
use Rattle.cics_history.proofs.Joining.{same_cell-refl}
use Rattle.cics_history.proofs.Undoing.{Leads-past}
use Rattle.cics_history.proofs.Places.{image_of-AreImages}

-- a key below all keys of a map isn't among them
below_absent : (k : Bytes) (es : Map Bytes) → T (below_all bytes_cmp k es) → value_at k es ≡ None
below_absent k [] below = refl
below_absent k (e ∷ es) below =
    ap (λ o. cond (is_eq o) (Some e.1) (value_at k es)) (less _ (front _ _ below)) ∙ below_absent k es (back _ _ below)

module _ (op : Op) (f : Bytes) (cells : Cells) where
  abbrev at_key : Bytes → List Image
  at_key k = image_at op (Key f k) (cells (Key f k))

  -- the image of a key names that key, where the command changes it
  named_at : (k : Bytes) (x : Cell) → names x (at_key k) ≡ (changes op (cells (Key f k)) && same_cell (Key f k) x)
  named_at k x = by (changes op (cells (Key f k)))
    where
      or_none : (b : Bool) → (b || false) ≡ b
      or_none true = refl
      or_none false = refl

      by : (b : Bool) → names x (if b then record { cell = Key f k; before = cells (Key f k); made = (effect op (cells (Key f k))).cell } ∷ [] else [])
          ≡ (b && same_cell (Key f k) x)
      by true = or_none (same_cell (Key f k) x)
      by false = refl

  other_key : (k l : Bytes) → is_same l k ≡ false → same_cell (Key f k) (Key f l) ≡ false
  other_key k l n = false_from_ne_true (same_cell (Key f k) (Key f l)) (λ t.
      true≢false (sym (is_same-turned l k ∙ (and_parts (is_same f f) (is_same k l) t).1) ∙ n))

  unnamed_at : (k : Bytes) (x : Cell) → same_cell (Key f k) x ≡ false → names x (at_key k) ≡ false
  unnamed_at k x n = named_at k x ∙ ap (λ b. changes op (cells (Key f k)) && b) n ∙ nothing (changes op (cells (Key f k)))
    where
      nothing : (b : Bool) → (b && false) ≡ false
      nothing true = refl
      nothing false = refl

  -- a cell that is no key of the file is not named
  unnamed_elsewhere : (es : Map Bytes) (x : Cell) → ((k : Bytes) → same_cell (Key f k) x ≡ false) → names x (images_under op f cells es) ≡ false
  unnamed_elsewhere [] x apart = refl
  unnamed_elsewhere (e ∷ es) x apart =
      list_any-append (λ i. same_cell i.cell x) (images_under op f cells es) (at_key e.0)
      ∙ or_from _ _ (unnamed_elsewhere es x apart) (unnamed_at e.0 x (apart e.0))

  -- a key is named where it is among these and the command changes it
  named_under : (es : Map Bytes) (l : Bytes) → names (Key f l) (images_under op f cells es) ≡ (has_key l es && changes op (cells (Key f l)))
  named_under [] l = refl
  named_under (e ∷ es) l =
      list_any-append (λ i. same_cell i.cell (Key f l)) (images_under op f cells es) (at_key e.0)
      ∙ ap (λ b. b || names (Key f l) (at_key e.0)) (named_under es l)
      ∙ elim (is_same l e.0) as (λ b. is_same l e.0 ≡ b →
      ((has_key l es && changes op (cells (Key f l))) || names (Key f l) (at_key e.0)) ≡ (is_some (cond b (Some e.1) (value_at l es)) && changes op (cells (Key f l)))) [
        | true ↦ λ y. ap (λ b. (has_key l es && changes op (cells (Key f l))) || b)
            (subst (λ k. names (Key f l) (at_key k) ≡ changes op (cells (Key f l))) (is_same-eq l e.0 y)
            (named_at l (Key f l) ∙ ap (λ b. changes op (cells (Key f l)) && b) (same_cell-refl (Key f l)) ∙ and_all (changes op (cells (Key f l)))))
            ∙ absorbed (has_key l es) (changes op (cells (Key f l)))
        | false ↦ λ n. ap (λ b. (has_key l es && changes op (cells (Key f l))) || b) (unnamed_at e.0 (Key f l) (other_key e.0 l n))
            ∙ or_none (has_key l es && changes op (cells (Key f l)))
      ] refl
    where
      and_all : (b : Bool) → (b && true) ≡ b
      and_all true = refl
      and_all false = refl

      or_none : (b : Bool) → (b || false) ≡ b
      or_none true = refl
      or_none false = refl

      absorbed : (a b : Bool) → ((a && b) || b) ≡ b
      absorbed true true = refl
      absorbed true false = refl
      absorbed false b = refl

  -- and the images lead it back
  leads_under : (es : Map Bytes) → is_rising es ≡ true → (l : Bytes) → has_key l es ≡ true → changes op (cells (Key f l)) ≡ true →
      (is : List Image) (to : Content) → Leads is (Key f l) (cells (Key f l)) to →
      Leads (images_under op f cells es ++ is) (Key f l) (effect op (cells (Key f l))).cell to
  leads_under [] rising l there t is to h = absurd (false≢true there)
  leads_under (e ∷ es) rising l there t is to h =
      subst (λ is. Leads is (Key f l) (effect op (cells (Key f l))).cell to) (sym (append_assoc (images_under op f cells es) (at_key e.0) is))
      (elim (cases_Bool (is_same l e.0)) [
        | inl y ↦ Leads-past (images_under op f cells es) (at_key e.0 ++ is) (Key f l) _ _
            (named_under es l ∙ ap (λ o. is_some o && changes op (cells (Key f l))) (absent (is_same-eq l e.0 y)))
            (subst (λ k. Leads (at_key k ++ is) (Key f l) (effect op (cells (Key f l))).cell to) (is_same-eq l e.0 y) own)
        | inr n ↦ leads_under es (of_T _ (back (below_all bytes_cmp e.0 es) (is_rising es) (to_T _ rising))) l
            (ap (λ b. is_some (cond b (Some e.1) (value_at l es))) (sym n) ∙ there) t (at_key e.0 ++ is) to
            (Leads-past (at_key e.0) is (Key f l) _ _ (unnamed_at e.0 (Key f l) (other_key e.0 l n)) h)
      ])
    where
      absent : l ≡ e.0 → value_at l es ≡ None
      absent same = ap (λ k. value_at k es) same ∙ below_absent e.0 es (front (below_all bytes_cmp e.0 es) (is_rising es) (to_T _ rising))

      own : Leads (at_key l ++ is) (Key f l) (effect op (cells (Key f l))).cell to
      own = rw t (rw (same_cell-refl (Key f l)) (refl, h))

-- the keys that DELETE GENERIC changes are among those under its prefix
present : (f p l : Bytes) (o : Option (Map Bytes)) → has_prefix p l ≡ true →
    is_normal (effect (DeleteGeneric f p) (record_in l o)).answer.condition ≡ true → has_key l (under p (unwrap_or o [])) ≡ true
present f p l None y t = absurd (false≢true t)
present f p l (Some m) y t = by (value_at l m) refl t
  where
    by : (v : Option Bytes) → value_at l m ≡ v → is_normal (effect (DeleteGeneric f p) (record_in l (Some m))).answer.condition ≡ true →
        has_key l (under p m) ≡ true
    by None at t = absurd (false≢true (rw at at t))
    by (Some r) at t = ap is_some (value_at-where (has_prefix p) l m) ∙ rw (y, at) refl

-- what is under a prefix begins with it
under_begins : (p l : Bytes) (m : Map Bytes) → has_key l (under p m) ≡ true → has_prefix p l ≡ true
under_begins p l m h = elim (cases_Bool (has_prefix p l)) [
  | inl y ↦ y
  | inr n ↦ absurd (false≢true (ap is_some (sym (ap (λ b. cond b (value_at l m) None) n)) ∙ (ap is_some (sym (value_at-where (has_prefix p) l m)) ∙ h)))
]

rising_under : (p : Bytes) (o : Option (Map Bytes)) → is_in_order o ≡ true → is_rising (under p (unwrap_or o [])) ≡ true
rising_under p None i = refl
rising_under p (Some m) i = rising-where (has_prefix p) m i

-- the images of DELETE GENERIC, over cells that hold what the store does
pub prefix_images-AreImages : (s : Store) (f p : Bytes) (cells : Cells) → IsOrdered s →
    ((g k : Bytes) → cells (Key g k) ≡ content s (Key g k)) → AreImages (DeleteGeneric f p) cells (prefix_images s f p cells)
prefix_images-AreImages s f p cells i holds (Ts q) = unnamed_elsewhere (DeleteGeneric f p) f cells (under p (unwrap_or (value_at f s.files) [])) (Ts q) (λ k. refl)
prefix_images-AreImages s f p cells i holds (Td q) = unnamed_elsewhere (DeleteGeneric f p) f cells (under p (unwrap_or (value_at f s.files) [])) (Td q) (λ k. refl)
prefix_images-AreImages s f p cells i holds (Key g l) = elim (cases_Bool (is_same f g)) [
  | inr n ↦ rw n (unnamed_elsewhere (DeleteGeneric f p) f cells (under p (unwrap_or (value_at f s.files) [])) (Key g l) (λ k. rw n refl))
  | inl y ↦ subst (λ z. MatchBool (touches (DeleteGeneric f p) (Key z l) && changes (DeleteGeneric f p) (cells (Key z l)))
      ((is : List Image) (to : Content) → Leads is (Key z l) (cells (Key z l)) to →
      Leads (prefix_images s f p cells ++ is) (Key z l) (effect (DeleteGeneric f p) (cells (Key z l))).cell to)
      (names (Key z l) (prefix_images s f p cells) ≡ false)) (is_same-eq f g y) own
]
  where
    own : MatchBool (touches (DeleteGeneric f p) (Key f l) && changes (DeleteGeneric f p) (cells (Key f l)))
        ((is : List Image) (to : Content) → Leads is (Key f l) (cells (Key f l)) to →
        Leads (prefix_images s f p cells ++ is) (Key f l) (effect (DeleteGeneric f p) (cells (Key f l))).cell to)
        (names (Key f l) (prefix_images s f p cells) ≡ false)
    own = elim (cases_Bool (touches (DeleteGeneric f p) (Key f l) && changes (DeleteGeneric f p) (cells (Key f l)))) [
      | inl t ↦
          let both = and_parts (touches (DeleteGeneric f p) (Key f l)) (changes (DeleteGeneric f p) (cells (Key f l))) t in
          rw t (leads_under (DeleteGeneric f p) f cells (under p (unwrap_or (value_at f s.files) [])) (rising_under p (value_at f s.files) (i f)) l
          (present f p l (value_at f s.files) (and_parts (is_same f f) (has_prefix p l) both.0).1
          (subst (λ c. changes (DeleteGeneric f p) c ≡ true) (holds f l) both.1)) both.1)
      | inr n ↦ rw n (named_under (DeleteGeneric f p) f cells (under p (unwrap_or (value_at f s.files) [])) l
          ∙ false_from_ne_true _ (λ t.
          let both = and_parts (has_key l (under p (unwrap_or (value_at f s.files) []))) (changes (DeleteGeneric f p) (cells (Key f l))) t in
          true≢false (sym (and_from _ _ (and_from _ _ (is_same-self f) (under_begins p l (unwrap_or (value_at f s.files) []) both.0)) both.1) ∙ n)))
    ]

-- the images of any command
pub images_by-AreImages : (s : Store) (op : Op) (cells : Cells) → IsOrdered s →
    ((g k : Bytes) → cells (Key g k) ≡ content s (Key g k)) → AreImages op cells (images_by s op cells)
images_by-AreImages s (DeleteGeneric f p) cells i holds = prefix_images-AreImages s f p cells i holds
images_by-AreImages s op cells i holds = image_of-AreImages op cells refl
