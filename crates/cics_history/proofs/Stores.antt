-- Two stores as the program keeps them are equal where their cells hold the same.
use Rattle.std.proofs.Common.{◌≡◌, Bool, true, false, cond, Option, Some, None, List, [], ◌∷◌, refl, ap, sym, subst, ◌∙◌, inl, inr}
use Rattle.std.specs.Prelude.{if◌then◌else◌, not, unwrap_or, map, option_map, ◌&&◌}
use Rattle.std.specs.Ordering.{is_lt}
use Rattle.cics_history.specs.Openings.{is_in_order, IsOpeningInOrder}
use Rattle.cics_history.specs.State.{OpeningState, initial_store, Store}
use Rattle.std.specs.FinMap.Entries.{below_all}
use Rattle.std.proofs.lemmas.Bool.{cases_Bool}
use Rattle.cics_names.specs.Keyed.{Bytes, Map, bytes_cmp, value_at, is_same, with_value, without, is_rising}
use Rattle.cics_names.specs.KeyedLaws.{value_at-with_value, value_at-without}
use Rattle.cics_ksds.specs.Files.{records_after_write, records_after_rewrite, records_after_delete}
use Rattle.cics_ksds.specs.Prefixes.{has_prefix, outside}
use Rattle.cics_tempstor.specs.Queues.{items_after_write, items_after_rewrite}
use Rattle.cics_history.specs.Store.{apply, is_normal, with_file, with_ts, with_td, ts_queue, apply_write, apply_rewrite, apply_delete, apply_delete_generic, apply_td_write, apply_td_read, apply_td_delete}
use Rattle.cics_history.specs.Headline.{replay}
use Rattle.cics_history.specs.declared.ops.Op.{Op}
use Rattle.cics_history.specs.declared.ops.Op.TheVariants.{Write, Rewrite, Delete, DeleteGeneric, ReadUpdate, TsWrite, TsRewrite, TsDelete, TdWrite, TdRead, TdDelete}
use Rattle.cics_history.specs.declared.ops.Entry.{Entry}
use Rattle.cics_history.specs.Cells.{Cell, Key, Ts, Td, listed, record_in, content, IsOrdered, IsCanonical}
use Rattle.cics_history.proofs.Maps.{same_map, rising-with_value, rising-without}
use Rattle.cics_history.proofs.Generic.{rising-where, one_listed}
use Rattle.cics_history.proofs.Joining.{read_only}

pub same_file : (a b : Option (Map Bytes)) → is_in_order a ≡ true → is_in_order b ≡ true →
    ((k : Bytes) → record_in k a ≡ record_in k b) → a ≡ b
same_file None None i j h = refl
same_file None (Some n) i j h = absurd (none_some (listed (value_at [] n)) (h []))
  where
    none_some : (l : List Bytes) → None ≡ Some l → ⊥
    none_some l e = cc
same_file (Some m) None i j h = absurd (some_none (listed (value_at [] m)) (h []))
  where
    some_none : (l : List Bytes) → Some l ≡ None → ⊥
    some_none l e = cc
same_file (Some m) (Some n) i j h =
    ap Some (same_map m n i j (λ k. one_listed (value_at k m) (value_at k n) (h k)))

pub same_queue : (v w : Option (List Bytes)) → (v ≡ Some [] → ⊥) → (w ≡ Some [] → ⊥) →
    Some (unwrap_or v []) ≡ Some (unwrap_or w []) → v ≡ w
same_queue None None a b e = refl
same_queue None (Some []) a b e = absurd (b refl)
same_queue None (Some (x ∷ xs)) a b e = cc
same_queue (Some []) w a b e = absurd (a refl)
same_queue (Some (x ∷ xs)) None a b e = cc
same_queue (Some (x ∷ xs)) (Some w) a b e = e

-- EXTENSIONALITY
pub same_store : (s t : Store) → IsCanonical s → IsCanonical t → ((x : Cell) → content s x ≡ content t x) →
    s ≡ t
same_store s t c d h =
    let files : s.files ≡ t.files =
    same_map s.files t.files c.files d.files
    (λ f. same_file (value_at f s.files) (value_at f t.files) (c.records f) (d.records f) (λ k. h (Key f k))) in
    let ts : s.ts ≡ t.ts = same_map s.ts t.ts c.ts d.ts
    (λ q. same_queue (value_at q s.ts) (value_at q t.ts) (c.there q) (d.there q) (h (Ts q))) in
    let td : s.td ≡ t.td = same_map s.td t.td c.td d.td (λ q. h (Td q)) in
    λ i. record { files = files i; ts = ts i; td = td i }

-- what each change of a part keeps, a command keeps
module _ (P : Store → Type 0) (s : Store) (p : P s) (i : IsOrdered s)
    (file_keeps : (f : Bytes) (m : Map Bytes) → is_rising m ≡ true → P (with_file s f m))
    (ts_keeps : (q : Bytes) (c : List Bytes) → P (with_ts s q c))
    (td_keeps : (q : Bytes) (c : List Bytes) → P (with_td s q c)) where
  keeps_if : (b : Bool) (t : Store) → P t → P (if b then t else s)
  keeps_if true t k = k
  keeps_if false t k = p

  rising_if : (b : Bool) (m n : Map Bytes) → is_rising m ≡ true → is_rising n ≡ true →
      is_rising (if b then m else n) ≡ true
  rising_if true m n a b = a
  rising_if false m n a b = b

  write_keeps : (f k r : Bytes) (o : Option (Map Bytes)) → is_in_order o ≡ true →
      P (apply_write s f k r o).store
  write_keeps f k r None j = p
  write_keeps f k r (Some m) j =
      keeps_if _ (with_file s f (records_after_write m k r))
      (file_keeps f _ (rising_if _ m (with_value k r m) j (rising-with_value k r m j)))

  rewrite_keeps : (f k r : Bytes) (o : Option (Map Bytes)) → is_in_order o ≡ true →
      P (apply_rewrite s f k r o).store
  rewrite_keeps f k r None j = p
  rewrite_keeps f k r (Some m) j =
      keeps_if _ (with_file s f (records_after_rewrite m k r))
      (file_keeps f _ (rising_if _ (with_value k r m) m (rising-with_value k r m j) j))

  delete_keeps : (f k : Bytes) (o : Option (Map Bytes)) → is_in_order o ≡ true →
      P (apply_delete s f k o).store
  delete_keeps f k None j = p
  delete_keeps f k (Some m) j =
      keeps_if _ (with_file s f (records_after_delete m k)) (file_keeps f _ (rising-without k m j))

  generic_keeps : (f prefix : Bytes) (o : Option (Map Bytes)) → is_in_order o ≡ true →
      P (apply_delete_generic s f prefix o).store
  generic_keeps f prefix None j = p
  generic_keeps f prefix (Some m) j =
      keeps_if _ (with_file s f (outside prefix m)) (file_keeps f _ (rising-where (λ k. not (has_prefix prefix k)) m j))

  td_write_keeps : (q d : Bytes) (o : Option (List Bytes)) → P (apply_td_write s q d o).store
  td_write_keeps q d None = p
  td_write_keeps q d (Some c) = td_keeps q _

  td_read_keeps : (q : Bytes) (o : Option (List Bytes)) → P (apply_td_read s q o).store
  td_read_keeps q None = p
  td_read_keeps q (Some []) = p
  td_read_keeps q (Some (x ∷ xs)) = td_keeps q _

  td_delete_keeps : (q : Bytes) (o : Option (List Bytes)) → P (apply_td_delete s q o).store
  td_delete_keeps q None = p
  td_delete_keeps q (Some c) = td_keeps q _

  pub apply-keeps : (op : Op) → P (apply s op).store
  apply-keeps (Write f k r) = write_keeps f k r (value_at f s.files) (i f)
  apply-keeps (Rewrite f k r) = rewrite_keeps f k r (value_at f s.files) (i f)
  apply-keeps (Delete f k) = delete_keeps f k (value_at f s.files) (i f)
  apply-keeps (DeleteGeneric f prefix) = generic_keeps f prefix (value_at f s.files) (i f)
  apply-keeps (ReadUpdate f k) = subst P (sym (read_only s f k)) p
  apply-keeps (TsWrite q d) =
      keeps_if (is_normal (apply s (TsWrite q d)).answer.condition)
      (with_ts s q (items_after_write (ts_queue s q) d)) (ts_keeps q _)
  apply-keeps (TsRewrite q n d) =
      keeps_if (is_normal (apply s (TsRewrite q n d)).answer.condition)
      (with_ts s q (items_after_rewrite (ts_queue s q) n d)) (ts_keeps q _)
  apply-keeps (TsDelete q) =
      keeps_if (is_normal (apply s (TsDelete q)).answer.condition) (with_ts s q []) (ts_keeps q [])
  apply-keeps (TdWrite q d) = td_write_keeps q d (value_at q s.td)
  apply-keeps (TdRead q) = td_read_keeps q (value_at q s.td)
  apply-keeps (TdDelete q) = td_delete_keeps q (value_at q s.td)

ordered_with : (s : Store) (f : Bytes) (m : Map Bytes) → IsOrdered s → is_rising m ≡ true → IsOrdered (with_file s f m)
ordered_with s f m i r g =
    ap is_in_order (value_at-with_value g f m s.files)
    ∙ elim (cases_Bool (is_same g f)) [ inl y ↦ rw y r | inr n ↦ rw n (i g) ]

-- the keys of each file go on rising
pub apply-ordered : (s : Store) (op : Op) → IsOrdered s → IsOrdered (apply s op).store
apply-ordered s op i = apply-keeps IsOrdered s i i (λ f m r. ordered_with s f m i r) items (λ q c. i) op
  where
    items : (q : Bytes) (c : List Bytes) → IsOrdered (with_ts s q c)
    items q [] = i
    items q (d ∷ ds) = i

-- and so they do in a replay
pub replay-ordered : (s : Store) (es : List Entry) → IsOrdered s → IsOrdered (replay s es)
replay-ordered s [] i = i
replay-ordered s (e ∷ es) i = replay-ordered (apply s e.op).store es (apply-ordered s e.op i)

none_full : (x : List Bytes) → None ≡ Some x → ⊥
none_full x e = cc

full : (d : Bytes) (ds : List Bytes) → Some (d ∷ ds) ≡ Some [] → ⊥
full d ds e = cc

pub file_canonical : (s : Store) → IsCanonical s → (f : Bytes) (m : Map Bytes) → is_rising m ≡ true →
    IsCanonical (with_file s f m)
file_canonical s c f m r =
    record {
      files = rising-with_value f m s.files c.files;
      records = ordered_with s f m c.records r;
      ts = c.ts;
      there = c.there;
      td = c.td;
    }

ts_canonical : (s : Store) → IsCanonical s → (q : Bytes) (items : List Bytes) →
    IsCanonical (with_ts s q items)
ts_canonical s c q [] = record {
  files = c.files;
  records = c.records;
  ts = rising-without q s.ts c.ts;
  there = λ r e. gone r (value_at-without r q s.ts) e;
  td = c.td;
}
  where
    gone : (r : Bytes) → value_at r (without q s.ts) ≡ cond (is_same q r) None (value_at r s.ts) →
        value_at r (without q s.ts) ≡ Some [] → ⊥
    gone r is e =
        elim (cases_Bool (is_same q r)) [
          | inl y ↦ none_full [] (rw y at (sym is ∙ e))
          | inr n ↦ c.there r (rw n at (sym is ∙ e))
        ]
ts_canonical s c q (d ∷ ds) =
    record {
      files = c.files;
      records = c.records;
      ts = rising-with_value q (d ∷ ds) s.ts c.ts;
      there = λ r e. other r (value_at-with_value r q (d ∷ ds) s.ts) e;
      td = c.td;
    }
  where
    other : (r : Bytes) →
        value_at r (with_value q (d ∷ ds) s.ts) ≡ cond (is_same r q) (Some (d ∷ ds)) (value_at r s.ts) →
        value_at r (with_value q (d ∷ ds) s.ts) ≡ Some [] → ⊥
    other r is e =
        elim (cases_Bool (is_same r q)) [
          | inl y ↦ full d ds (rw y at (sym is ∙ e))
          | inr n ↦ c.there r (rw n at (sym is ∙ e))
        ]

td_canonical : (s : Store) → IsCanonical s → (q : Bytes) (c : List Bytes) → IsCanonical (with_td s q c)
td_canonical s c q l = record {
  files = c.files;
  records = c.records;
  ts = c.ts;
  there = c.there;
  td = rising-with_value q l s.td c.td;
}

pub apply-canonical : (s : Store) (op : Op) → IsCanonical s → IsCanonical (apply s op).store
apply-canonical s op c =
    apply-keeps IsCanonical s c c.records (file_canonical s c) (ts_canonical s c) (td_canonical s c) op

pub replay-canonical : (s : Store) (es : List Entry) → IsCanonical s → IsCanonical (replay s es)
replay-canonical s [] c = c
replay-canonical s (e ∷ es) c = replay-canonical (apply s e.op).store es (apply-canonical s e.op c)

-- the store of an opening
below_each : {X Y : Type 0} (v : X → Y) (k : Bytes) (m : Map X) →
    below_all bytes_cmp k (map (λ e. (e.0, v e.1)) m) ≡ below_all bytes_cmp k m
below_each v k [] = refl
below_each v k (e ∷ m) = ap (λ b. is_lt (bytes_cmp k e.0) && b) (below_each v k m)

rising_each : {X Y : Type 0} (v : X → Y) (m : Map X) → is_rising (map (λ e. (e.0, v e.1)) m) ≡ is_rising m
rising_each v [] = refl
rising_each v (e ∷ m) =
    ap (λ b. b && is_rising (map (λ d. (d.0, v d.1)) m)) (below_each v e.0 m)
    ∙ ap (λ b. below_all bytes_cmp e.0 m && b) (rising_each v m)

pub value_at_each : {X Y : Type 0} (v : X → Y) (k : Bytes) (m : Map X) →
    value_at k (map (λ e. (e.0, v e.1)) m) ≡ option_map v (value_at k m)
value_at_each v k [] = refl
value_at_each v k (e ∷ m) =
    elim (is_same k e.0) as
    (λ b. cond b (Some (v e.1)) (value_at k (map (λ d. (d.0, v d.1)) m)) ≡ option_map v
    (cond b (Some e.1) (value_at k m))) [
      | true ↦ refl
      | false ↦ value_at_each v k m
    ]

nowhere : (q : Bytes) → value_at {X = List Bytes} q [] ≡ Some [] → ⊥
nowhere q e = none_full [] e

pub initial-canonical : (o : OpeningState) → IsOpeningInOrder o → IsCanonical (initial_store o)
initial-canonical o i = record {
  files = rising_each (λ e. e.records) o.files ∙ i.files;
  records = λ f. ap is_in_order (value_at_each (λ e. e.records) f o.files) ∙ i.records f;
  ts = refl;
  there = nowhere;
  td = rising_each (λ e. e.records) o.queues ∙ i.queues;
}
