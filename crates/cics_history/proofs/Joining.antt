-- The store read by cells: `apply` acts on each cell that its command touches by what that cell holds, and on no
-- other.
use Rattle.std.proofs.Common.{◌≡◌, Bool, true, false, cond, ◌&&◌, Option, Some, None, List, [], ◌∷◌, ◌++◌, refl, ap, sym, subst, ◌∙◌, inl, inr}
use Rattle.std.specs.Prelude.{is_some, not, unwrap_or, if◌then◌else◌}
use Rattle.std.proofs.lemmas.Bool.{true≢false, false≢true, cases_Bool, and_parts, and_from}
use Rattle.cics_names.specs.Keyed.{Bytes, Map, value_at, is_same, with_value, without}
use Rattle.cics_names.specs.RisingLaws.{is_same-turned}
use Rattle.cics_names.specs.KeyedLaws.{is_same-self, is_same-eq, value_at-with_value, value_at-with_value_same, value_at-with_value_other, value_at-without}
use Rattle.cics_ksds.specs.Files.{records_after_write, records_after_rewrite, records_after_delete}
use Rattle.cics_ksds.specs.Prefixes.{has_prefix, under, outside}
use Rattle.cics_ksds.proofs.UnderPrefix.{prefix_itself}
use Rattle.cics_tempstor.specs.Queues.{items_after_write, items_after_rewrite}
use Rattle.cics_history.specs.State.{OpeningState, file_recoverable, Store}
use Rattle.cics_history.specs.Store.{apply_td_write, apply_td_read, apply_td_delete, apply, is_recoverable, answered, with_file, with_ts, with_td, ts_queue, is_normal, apply_write, apply_rewrite, apply_delete, apply_delete_generic, counted_answer}
use Rattle.cics_history.specs.declared.ops.Op.{Op}
use Rattle.cics_history.specs.declared.ops.Op.TheVariants.{Write, Rewrite, Delete, DeleteGeneric, ReadUpdate, TsWrite, TsRewrite, TsDelete, TdWrite, TdRead, TdDelete}
use Rattle.cics_history.specs.declared.ops.Answer.{Answer}
use Rattle.cics_history.specs.Cells.{Cell, Key, Ts, Td, Content, listed, record_in, content, IsOrdered, is_generic, cell_of, same_cell, touches, effected, effect, Reading, Writing, uses, recovers}
use Rattle.cics_history.specs.Isolation.{Begins}
use Rattle.cics_history.proofs.Effects.{is_empty, effect-refused, effect-there, answer-front, answer-blind}
use Rattle.cics_history.proofs.Maps.{cases_Option}
use Rattle.cics_history.proofs.Generic.{value_at-where, none_under, answer-generic, refused-generic}

pub same_cell-true : (x y : Cell) → same_cell x y ≡ true → x ≡ y
same_cell-true (Key f k) (Key g l) e =
    let h = and_parts _ _ e in let i = is_same-eq f g h.0 in let j = is_same-eq k l h.1 in cc
same_cell-true (Ts q) (Ts r) e = ap Ts (is_same-eq q r e)
same_cell-true (Td q) (Td r) e = ap Td (is_same-eq q r e)
same_cell-true (Key f k) (Ts r) e = absurd (false≢true e)
same_cell-true (Key f k) (Td r) e = absurd (false≢true e)
same_cell-true (Ts q) (Key g l) e = absurd (false≢true e)
same_cell-true (Ts q) (Td r) e = absurd (false≢true e)
same_cell-true (Td q) (Key g l) e = absurd (false≢true e)
same_cell-true (Td q) (Ts r) e = absurd (false≢true e)

pub same_cell-refl : (x : Cell) → same_cell x x ≡ true
same_cell-refl (Key f k) = and_from _ _ (is_same-self f) (is_same-self k)
same_cell-refl (Ts q) = is_same-self q
same_cell-refl (Td q) = is_same-self q

-- what the cell holds after a command: its effect where the command touches it
abbrev pub after_at : Op → Content → Cell → Content
after_at op c x = if touches op x then (effect op c).cell else c

module _ (s : Store) (f : Bytes) (t : Bytes → Bool) (h : Content → Content) where
  -- a file changed: each key by what it had
  file_changed : (m n : Map Bytes) → value_at f s.files ≡ Some m →
      ((l : Bytes) → Some (listed (value_at l n)) ≡ cond (t l) (h (Some (listed (value_at l m))))
      (Some (listed (value_at l m)))) →
      (g l : Bytes) →
      content (with_file s f n) (Key g l) ≡ cond (is_same f g && t l) (h (content s (Key g l)))
      (content s (Key g l))
  file_changed m n e c g l = elim (cases_Bool (is_same f g)) [
    | inl y ↦
        subst
        (λ z. content (with_file s f n) (Key z l) ≡ cond (is_same f z && t l) (h (content s (Key z l)))
        (content s (Key z l)))
        (is_same-eq f g y)
        (ap (record_in l) (value_at-with_value_same f n s.files) ∙ (c l ∙ rw (is_same-self f, e) refl))
    | inr other ↦
        rw other
        (ap (record_in l) (value_at-with_value_other g f n s.files
        (λ z. true≢false (sym (subst (λ y. is_same f y ≡ true) (sym z) (is_same-self f)) ∙ other))))
  ]

  -- a file kept: the touched keys hold what the effect leaves
  file_kept : ((l : Bytes) → t l ≡ true → h (content s (Key f l)) ≡ content s (Key f l)) → (g l : Bytes) →
      content s (Key g l) ≡ cond (is_same f g && t l) (h (content s (Key g l))) (content s (Key g l))
  file_kept c g l = elim (cases_Bool (is_same f g && t l)) [
    | inl y ↦
        let both = and_parts (is_same f g) (t l) y in
        rw y (sym (subst (λ z. h (content s (Key z l)) ≡ content s (Key z l)) (is_same-eq f g both.0)
        (c l both.1)))
    | inr n ↦ rw n refl
  ]

-- a key's own record, from the file's
own_key : (k : Bytes) (m : Map Bytes) (v : Option Bytes) → value_at k m ≡ v → (h : Content → Content) →
    h (Some (listed v)) ≡ Some (listed v) → (l : Bytes) → is_same k l ≡ true →
    h (Some (listed (value_at l m))) ≡ Some (listed (value_at l m))
own_key k m v e h same l y =
    subst (λ z. h (Some (listed (value_at z m))) ≡ Some (listed (value_at z m))) (is_same-eq k l y)
    (rw e same)

put_key : (k r : Bytes) (m : Map Bytes) (v : Option Bytes) → value_at k m ≡ v → (h : Content → Content) →
    h (Some (listed v)) ≡ Some (r ∷ []) → (l : Bytes) →
    Some (listed (value_at l (with_value k r m))) ≡ cond (is_same k l) (h (Some (listed (value_at l m))))
    (Some (listed (value_at l m)))
put_key k r m v e h one l =
    ap (λ w. Some (listed w))
    (value_at-with_value l k r m ∙ ap (λ b. cond b (Some r) (value_at l m)) (is_same-turned l k))
    ∙ elim (cases_Bool (is_same k l)) [
      | inl y ↦
          rw y
          (subst (λ z. Some (r ∷ []) ≡ h (Some (listed (value_at z m)))) (is_same-eq k l y) (rw e (sym one)))
      | inr n ↦ rw n refl
    ]

cut_key : (k : Bytes) (m : Map Bytes) (v : Option Bytes) → value_at k m ≡ v → (h : Content → Content) →
    h (Some (listed v)) ≡ Some [] → (l : Bytes) →
    Some (listed (value_at l (without k m))) ≡ cond (is_same k l) (h (Some (listed (value_at l m))))
    (Some (listed (value_at l m)))
cut_key k m v e h none l = ap (λ w. Some (listed w)) (value_at-without l k m)
    ∙ elim (cases_Bool (is_same k l)) [
      | inl y ↦
          rw y (subst (λ z. Some [] ≡ h (Some (listed (value_at z m)))) (is_same-eq k l y) (rw e (sym none)))
      | inr n ↦ rw n refl
    ]

abbrev cell_after : Op → Content → Content
cell_after op c = (effect op c).cell

-- each kind of command at each kind of cell
module _ (s : Store) (f k : Bytes) (h : Content → Content) (undefined : h None ≡ None) where
  no_file : value_at f s.files ≡ None → (t : Bytes → Bool) → (l : Bytes) → t l ≡ true →
      h (content s (Key f l)) ≡ content s (Key f l)
  no_file e t l y = rw e undefined

  no_change : (m : Map Bytes) (v : Option Bytes) → value_at f s.files ≡ Some m → value_at k m ≡ v →
      h (Some (listed v)) ≡ Some (listed v) → (l : Bytes) → is_same k l ≡ true →
      h (content s (Key f l)) ≡ content s (Key f l)
  no_change m v e d same l y = rw e (own_key k m v d h same l y)

written : (s : Store) (f k r g l : Bytes) →
    content (apply s (Write f k r)).store (Key g l) ≡ after_at (Write f k r) (content s (Key g l)) (Key g l)
written s f k r g l =
    let h = cell_after (Write f k r) in
    elim (cases_Option (value_at f s.files)) [
      | inl e ↦ rw e (file_kept s f (is_same k) h (no_file s f k h refl e (is_same k)) g l)
      | inr e ↦ elim (cases_Option (value_at k e.0)) [
        | inl d ↦
            rw (e.1, d)
            (file_changed s f (is_same k) h e.0 (with_value k r e.0) e.1 (put_key k r e.0 None d h refl) g l)
        | inr d ↦
            rw (e.1, d.1)
            (file_kept s f (is_same k) h (no_change s f k h refl e.0 (Some d.0) e.1 d.1 refl) g l)
      ]
    ]

rewritten : (s : Store) (f k r g l : Bytes) →
    content (apply s (Rewrite f k r)).store (Key g l) ≡ after_at (Rewrite f k r) (content s (Key g l)) (Key g l)
rewritten s f k r g l =
    let h = cell_after (Rewrite f k r) in
    elim (cases_Option (value_at f s.files)) [
      | inl e ↦ rw e (file_kept s f (is_same k) h (no_file s f k h refl e (is_same k)) g l)
      | inr e ↦ elim (cases_Option (value_at k e.0)) [
        | inl d ↦ rw (e.1, d) (file_kept s f (is_same k) h (no_change s f k h refl e.0 None e.1 d refl) g l)
        | inr d ↦
            rw (e.1, d.1)
            (file_changed s f (is_same k) h e.0 (with_value k r e.0) e.1
            (put_key k r e.0 (Some d.0) d.1 h refl) g l)
      ]
    ]

removed : (s : Store) (f k g l : Bytes) →
    content (apply s (Delete f k)).store (Key g l) ≡ after_at (Delete f k) (content s (Key g l)) (Key g l)
removed s f k g l =
    let h = cell_after (Delete f k) in
    elim (cases_Option (value_at f s.files)) [
      | inl e ↦ rw e (file_kept s f (is_same k) h (no_file s f k h refl e (is_same k)) g l)
      | inr e ↦ elim (cases_Option (value_at k e.0)) [
        | inl d ↦ rw (e.1, d) (file_kept s f (is_same k) h (no_change s f k h refl e.0 None e.1 d refl) g l)
        | inr d ↦
            rw (e.1, d.1)
            (file_changed s f (is_same k) h e.0 (without k e.0) e.1 (cut_key k e.0 (Some d.0) d.1 h refl) g l)
      ]
    ]

-- what is left beside a prefix holds nothing under it, and the other keys what they held
cut_prefix : (p : Bytes) (m : Map Bytes) (l : Bytes) →
    Some (listed (value_at l (outside p m))) ≡ cond (has_prefix p l) (Some []) (Some (listed (value_at l m)))
cut_prefix p m l =
    ap (λ w. Some (listed w)) (value_at-where (λ k. not (has_prefix p k)) l m)
    ∙ elim (cases_Bool (has_prefix p l)) [ inl y ↦ rw y refl | inr n ↦ rw n refl ]

removed_some : (s : Store) (f p g l : Bytes) (m : Map Bytes) → value_at f s.files ≡ Some m → (u : Map Bytes) → under p m ≡ u →
    content (answered s (counted_answer u) (with_file s f (outside p m))).store (Key g l)
    ≡ after_at (DeleteGeneric f p) (content s (Key g l)) (Key g l)
removed_some s f p g l m e [] is =
    file_kept s f (has_prefix p) (cell_after (DeleteGeneric f p))
    (λ k y. rw e (ap (λ v. Some (listed v)) (sym (none_under p m is k y)))) g l
removed_some s f p g l m e (x ∷ xs) is =
    file_changed s f (has_prefix p) (cell_after (DeleteGeneric f p)) m (outside p m) e (cut_prefix p m) g l

removed_under : (s : Store) (f p g l : Bytes) →
    content (apply s (DeleteGeneric f p)).store (Key g l) ≡ after_at (DeleteGeneric f p) (content s (Key g l)) (Key g l)
removed_under s f p g l =
    let h = cell_after (DeleteGeneric f p) in
    elim (cases_Option (value_at f s.files)) [
      | inl e ↦ rw e (file_kept s f (has_prefix p) h (no_file s f p h refl e (has_prefix p)) g l)
      | inr e ↦ rw e.1 (removed_some s f p g l e.0 e.1 (under p e.0) refl)
    ]

pub read_only : (s : Store) (f k : Bytes) → (apply s (ReadUpdate f k)).store ≡ s
read_only s f k = elim (cases_Option (value_at f s.files)) [
  | inl e ↦ rw e refl
  | inr e ↦ elim (cases_Option (value_at k e.0)) [ inl d ↦ rw (e.1, d) refl | inr d ↦ rw (e.1, d.1) refl ]
]

read_for_update : (s : Store) (f k g l : Bytes) →
    content (apply s (ReadUpdate f k)).store (Key g l) ≡ after_at (ReadUpdate f k) (content s (Key g l))
    (Key g l)
read_for_update s f k g l =
    let h = cell_after (ReadUpdate f k) in
    ap (λ z. content z (Key g l)) (read_only s f k) ∙ elim (cases_Option (value_at f s.files)) [
      | inl e ↦ file_kept s f (is_same k) h (no_file s f k h refl e (is_same k)) g l
      | inr e ↦ elim (cases_Option (value_at k e.0)) [
        | inl d ↦ file_kept s f (is_same k) h (no_change s f k h refl e.0 None e.1 d refl) g l
        | inr d ↦ file_kept s f (is_same k) h (no_change s f k h refl e.0 (Some d.0) e.1 d.1 refl) g l
      ]
    ]

-- a queue changed
ts_queue-with_ts : (s : Store) (q r : Bytes) (items : List Bytes) →
    ts_queue (with_ts s q items) r ≡ cond (is_same q r) items (ts_queue s r)
ts_queue-with_ts s q r [] =
    ap (λ o. unwrap_or o []) (value_at-without r q s.ts)
    ∙ elim (cases_Bool (is_same q r)) [ inl y ↦ rw y refl | inr n ↦ rw n refl ]
ts_queue-with_ts s q r (d ∷ ds) =
    ap (λ o. unwrap_or o []) (value_at-with_value r q (d ∷ ds) s.ts)
    ∙
    (ap (λ b. unwrap_or (cond b (Some (d ∷ ds)) (value_at r s.ts)) []) (is_same-turned r q)
    ∙ elim (cases_Bool (is_same q r)) [ inl y ↦ rw y refl | inr n ↦ rw n refl ])

ts_changed : (s : Store) (a : Answer) (q r : Bytes) (items : List Bytes) (h : Content → Content) →
    h (Some (ts_queue s q)) ≡ (effected a (ts_queue s q) items).cell →
    content (answered s a (with_ts s q items)).store (Ts r) ≡ cond (is_same q r) (h (content s (Ts r)))
    (content s (Ts r))
ts_changed s a q r items h e = elim (cases_Bool (is_same q r)) [
  | inl y ↦
      rw y
      (subst (λ z. content (answered s a (with_ts s q items)).store (Ts z) ≡ h (content s (Ts z)))
      (is_same-eq q r y) (at_own (is_normal a.condition) ∙ sym e))
  | inr n ↦ rw n (at_other (is_normal a.condition) n)
]
  where
    at_own : (b : Bool) →
        Some (ts_queue (if b then with_ts s q items else s) q) ≡ Some (if b then items else ts_queue s q)
    at_own true = ap Some (ts_queue-with_ts s q q items ∙ rw (is_same-self q) refl)
    at_own false = refl

    at_other : (b : Bool) → is_same q r ≡ false →
        Some (ts_queue (if b then with_ts s q items else s) r) ≡ Some (ts_queue s r)
    at_other true n = ap Some (ts_queue-with_ts s q r items ∙ rw n refl)
    at_other false n = refl

td_changed : (s : Store) (q r : Bytes) (c changed : List Bytes) (h : Content → Content) →
    value_at q s.td ≡ Some c → h (Some c) ≡ Some changed →
    content (with_td s q changed) (Td r) ≡ cond (is_same q r) (h (content s (Td r))) (content s (Td r))
td_changed s q r c changed h e i = value_at-with_value r q changed s.td
    ∙ (ap (λ b. cond b (Some changed) (value_at r s.td)) (is_same-turned r q) ∙ elim (cases_Bool (is_same q r)) [
      | inl y ↦ rw y (sym (subst (λ z. h (value_at z s.td) ≡ Some changed) (is_same-eq q r y) (rw e i)))
      | inr n ↦ rw n refl
    ])

td_kept : (s : Store) (q r : Bytes) (h : Content → Content) → h (value_at q s.td) ≡ value_at q s.td →
    content s (Td r) ≡ cond (is_same q r) (h (content s (Td r))) (content s (Td r))
td_kept s q r h i = elim (cases_Bool (is_same q r)) [
  | inl y ↦ rw y (sym (subst (λ z. h (value_at z s.td) ≡ value_at z s.td) (is_same-eq q r y) i))
  | inr n ↦ rw n refl
]

td_written : (s : Store) (q d r : Bytes) →
    content (apply s (TdWrite q d)).store (Td r) ≡ after_at (TdWrite q d) (content s (Td r)) (Td r)
td_written s q d r = let h = cell_after (TdWrite q d) in elim (cases_Option (value_at q s.td)) [
  | inl e ↦ rw e (td_kept s q r h (rw e refl))
  | inr e ↦ rw e.1 (td_changed s q r e.0 (e.0 ++ d ∷ []) h e.1 refl)
]

td_deleted : (s : Store) (q r : Bytes) →
    content (apply s (TdDelete q)).store (Td r) ≡ after_at (TdDelete q) (content s (Td r)) (Td r)
td_deleted s q r = let h = cell_after (TdDelete q) in elim (cases_Option (value_at q s.td)) [
  | inl e ↦ rw e (td_kept s q r h (rw e refl))
  | inr e ↦ rw e.1 (td_changed s q r e.0 [] h e.1 refl)
]

td_read : (s : Store) (q r : Bytes) →
    content (apply s (TdRead q)).store (Td r) ≡ after_at (TdRead q) (content s (Td r)) (Td r)
td_read s q r = elim (cases_Option (value_at q s.td)) [
  | inl e ↦ rw e (td_kept s q r (cell_after (TdRead q)) (rw e refl))
  | inr e ↦ taken e.0 e.1
]
  where
    taken : (c : List Bytes) → value_at q s.td ≡ Some c →
        content (apply s (TdRead q)).store (Td r) ≡ after_at (TdRead q) (content s (Td r)) (Td r)
    taken [] e = rw e (td_kept s q r (cell_after (TdRead q)) (rw e refl))
    taken (x ∷ xs) e = rw e (td_changed s q r (x ∷ xs) xs (cell_after (TdRead q)) e refl)

-- a command leaves the resources of the other kinds
module _ (s : Store) where
  kept_if : {X : Type 0} (b : Bool) (t : Store) (part : Store → X) → part t ≡ part s →
      part (if b then t else s) ≡ part s
  kept_if true t part e = e
  kept_if false t part e = refl

  module _ {X : Type 0} (part : Store → X)
      (files_aside : (f : Bytes) (m : Map Bytes) → part (with_file s f m) ≡ part s) where
    write_aside : (f k r : Bytes) (o : Option (Map Bytes)) → part (apply_write s f k r o).store ≡ part s
    write_aside f k r None = refl
    write_aside f k r (Some m) = kept_if _ (with_file s f (records_after_write m k r)) part (files_aside f _)

    rewrite_aside : (f k r : Bytes) (o : Option (Map Bytes)) → part (apply_rewrite s f k r o).store ≡ part s
    rewrite_aside f k r None = refl
    rewrite_aside f k r (Some m) =
        kept_if _ (with_file s f (records_after_rewrite m k r)) part (files_aside f _)

    delete_aside : (f k : Bytes) (o : Option (Map Bytes)) → part (apply_delete s f k o).store ≡ part s
    delete_aside f k None = refl
    delete_aside f k (Some m) = kept_if _ (with_file s f (records_after_delete m k)) part (files_aside f _)

    generic_aside : (f p : Bytes) (o : Option (Map Bytes)) → part (apply_delete_generic s f p o).store ≡ part s
    generic_aside f p None = refl
    generic_aside f p (Some m) = kept_if _ (with_file s f (outside p m)) part (files_aside f _)

  ts_aside : {X : Type 0} (part : Store → X) →
      ((m : Map (List Bytes)) → part (record { files = s.files; ts = m; td = s.td }) ≡ part s) →
      (a : Answer) (q : Bytes) (items : List Bytes) → part (answered s a (with_ts s q items)).store ≡ part s
  ts_aside part h a q [] = kept_if (is_normal a.condition) (with_ts s q []) part (h _)
  ts_aside part h a q (d ∷ ds) = kept_if (is_normal a.condition) (with_ts s q (d ∷ ds)) part (h _)

  module _ {X : Type 0} (part : Store → X)
      (queues_aside : (q : Bytes) (c : List Bytes) → part (with_td s q c) ≡ part s) where
    td_write_aside : (q d : Bytes) (o : Option (List Bytes)) → part (apply_td_write s q d o).store ≡ part s
    td_write_aside q d None = refl
    td_write_aside q d (Some c) = queues_aside q _

    td_read_aside : (q : Bytes) (o : Option (List Bytes)) → part (apply_td_read s q o).store ≡ part s
    td_read_aside q None = refl
    td_read_aside q (Some []) = refl
    td_read_aside q (Some (x ∷ xs)) = queues_aside q _

    td_delete_aside : (q : Bytes) (o : Option (List Bytes)) → part (apply_td_delete s q o).store ≡ part s
    td_delete_aside q None = refl
    td_delete_aside q (Some c) = queues_aside q _

-- JOINING: each cell after a command is its effect on what the cell held, where the command touches it, and else as
-- it was
pub apply-content : (s : Store) (op : Op) (x : Cell) →
    content (apply s op).store x ≡ after_at op (content s x) x
apply-content s (Write f k r) (Key g l) = written s f k r g l
apply-content s (Write f k r) (Ts q) =
    write_aside s (λ z. content z (Ts q)) (λ f m. refl) f k r (value_at f s.files)
apply-content s (Write f k r) (Td q) =
    write_aside s (λ z. content z (Td q)) (λ f m. refl) f k r (value_at f s.files)
apply-content s (Rewrite f k r) (Key g l) = rewritten s f k r g l
apply-content s (Rewrite f k r) (Ts q) =
    rewrite_aside s (λ z. content z (Ts q)) (λ f m. refl) f k r (value_at f s.files)
apply-content s (Rewrite f k r) (Td q) =
    rewrite_aside s (λ z. content z (Td q)) (λ f m. refl) f k r (value_at f s.files)
apply-content s (Delete f k) (Key g l) = removed s f k g l
apply-content s (Delete f k) (Ts q) =
    delete_aside s (λ z. content z (Ts q)) (λ f m. refl) f k (value_at f s.files)
apply-content s (Delete f k) (Td q) =
    delete_aside s (λ z. content z (Td q)) (λ f m. refl) f k (value_at f s.files)
apply-content s (DeleteGeneric f p) (Key g l) = removed_under s f p g l
apply-content s (DeleteGeneric f p) (Ts q) =
    generic_aside s (λ z. content z (Ts q)) (λ f m. refl) f p (value_at f s.files)
apply-content s (DeleteGeneric f p) (Td q) =
    generic_aside s (λ z. content z (Td q)) (λ f m. refl) f p (value_at f s.files)
apply-content s (ReadUpdate f k) (Key g l) = read_for_update s f k g l
apply-content s (ReadUpdate f k) (Ts q) = ap (λ z. content z (Ts q)) (read_only s f k)
apply-content s (ReadUpdate f k) (Td q) = ap (λ z. content z (Td q)) (read_only s f k)
apply-content s (TsWrite q d) (Ts r) =
    ts_changed s (apply s (TsWrite q d)).answer q r (items_after_write (ts_queue s q) d)
    (cell_after (TsWrite q d)) refl
apply-content s (TsWrite q d) (Key g l) =
    ts_aside s (λ z. content z (Key g l)) (λ m. refl) (apply s (TsWrite q d)).answer q
    (items_after_write (ts_queue s q) d)
apply-content s (TsWrite q d) (Td r) =
    ts_aside s (λ z. content z (Td r)) (λ m. refl) (apply s (TsWrite q d)).answer q
    (items_after_write (ts_queue s q) d)
apply-content s (TsRewrite q n d) (Ts r) =
    ts_changed s (apply s (TsRewrite q n d)).answer q r (items_after_rewrite (ts_queue s q) n d)
    (cell_after (TsRewrite q n d)) refl
apply-content s (TsRewrite q n d) (Key g l) =
    ts_aside s (λ z. content z (Key g l)) (λ m. refl) (apply s (TsRewrite q n d)).answer q
    (items_after_rewrite (ts_queue s q) n d)
apply-content s (TsRewrite q n d) (Td r) =
    ts_aside s (λ z. content z (Td r)) (λ m. refl) (apply s (TsRewrite q n d)).answer q
    (items_after_rewrite (ts_queue s q) n d)
apply-content s (TsDelete q) (Ts r) =
    ts_changed s (apply s (TsDelete q)).answer q r [] (cell_after (TsDelete q)) refl
apply-content s (TsDelete q) (Key g l) =
    ts_aside s (λ z. content z (Key g l)) (λ m. refl) (apply s (TsDelete q)).answer q []
apply-content s (TsDelete q) (Td r) =
    ts_aside s (λ z. content z (Td r)) (λ m. refl) (apply s (TsDelete q)).answer q []
apply-content s (TdWrite q d) (Td r) = td_written s q d r
apply-content s (TdWrite q d) (Key g l) =
    td_write_aside s (λ z. content z (Key g l)) (λ q c. refl) q d (value_at q s.td)
apply-content s (TdWrite q d) (Ts r) =
    td_write_aside s (λ z. content z (Ts r)) (λ q c. refl) q d (value_at q s.td)
apply-content s (TdRead q) (Td r) = td_read s q r
apply-content s (TdRead q) (Key g l) =
    td_read_aside s (λ z. content z (Key g l)) (λ q c. refl) q (value_at q s.td)
apply-content s (TdRead q) (Ts r) = td_read_aside s (λ z. content z (Ts r)) (λ q c. refl) q (value_at q s.td)
apply-content s (TdDelete q) (Td r) = td_deleted s q r
apply-content s (TdDelete q) (Key g l) =
    td_delete_aside s (λ z. content z (Key g l)) (λ q c. refl) q (value_at q s.td)
apply-content s (TdDelete q) (Ts r) =
    td_delete_aside s (λ z. content z (Ts r)) (λ q c. refl) q (value_at q s.td)

-- and the answer of one that acts on one cell is the one that its cell gives
pub apply-answer : (s : Store) (op : Op) → is_generic op ≡ false → (apply s op).answer ≡ (effect op (content s (cell_of op))).answer
apply-answer s (Write f k r) g =
    elim (cases_Option (value_at f s.files)) [
      | inl e ↦ rw e refl
      | inr e ↦
          elim (cases_Option (value_at k e.0)) [ inl d ↦ rw (e.1, d) refl | inr d ↦ rw (e.1, d.1) refl ]
    ]
apply-answer s (Rewrite f k r) g =
    elim (cases_Option (value_at f s.files)) [
      | inl e ↦ rw e refl
      | inr e ↦
          elim (cases_Option (value_at k e.0)) [ inl d ↦ rw (e.1, d) refl | inr d ↦ rw (e.1, d.1) refl ]
    ]
apply-answer s (Delete f k) g =
    elim (cases_Option (value_at f s.files)) [
      | inl e ↦ rw e refl
      | inr e ↦
          elim (cases_Option (value_at k e.0)) [ inl d ↦ rw (e.1, d) refl | inr d ↦ rw (e.1, d.1) refl ]
    ]
apply-answer s (DeleteGeneric f p) g = absurd (true≢false g)
apply-answer s (ReadUpdate f k) g =
    elim (cases_Option (value_at f s.files)) [
      | inl e ↦ rw e refl
      | inr e ↦
          elim (cases_Option (value_at k e.0)) [ inl d ↦ rw (e.1, d) refl | inr d ↦ rw (e.1, d.1) refl ]
    ]
apply-answer s (TsWrite q d) g = refl
apply-answer s (TsRewrite q n d) g = refl
apply-answer s (TsDelete q) g = refl
apply-answer s (TdWrite q d) g =
    elim (cases_Option (value_at q s.td)) [ inl e ↦ rw e refl | inr e ↦ rw e.1 refl ]
apply-answer s (TdDelete q) g =
    elim (cases_Option (value_at q s.td)) [ inl e ↦ rw e refl | inr e ↦ rw e.1 refl ]
apply-answer s (TdRead q) g = read (value_at q s.td)
  where
    read : (o : Option (List Bytes)) → (apply_td_read s q o).answer ≡ (effect (TdRead q) o).answer
    read None = refl
    read (Some []) = refl
    read (Some (x ∷ xs)) = refl

-- that of DELETE GENERIC is the count of the records under its prefix
pub answer-counts : (s : Store) (f p : Bytes) (m : Map Bytes) → value_at f s.files ≡ Some m →
    (apply s (DeleteGeneric f p)).answer ≡ counted_answer (under p m)
answer-counts s f p m e = rw e refl

pub touches-self : (op : Op) → touches op (cell_of op) ≡ true
touches-self (DeleteGeneric f p) = and_from _ _ (is_same-self f) (prefix_itself p)
touches-self op = same_cell-refl (cell_of op)

-- a command that acts on one cell touches the one that it names
pub touches-named : (op : Op) → is_generic op ≡ false → (x : Cell) → touches op x ≡ same_cell (cell_of op) x
touches-named (DeleteGeneric f p) g x = absurd (true≢false g)
touches-named op g x = refl

pub touched-is : (op : Op) → is_generic op ≡ false → (x : Cell) → touches op x ≡ true → cell_of op ≡ x
touched-is op g x y = same_cell-true (cell_of op) x (sym (touches-named op g x) ∙ y)

pub apply-there : (s : Store) (op : Op) (x : Cell) →
    is_some (content (apply s op).store x) ≡ is_some (content s x)
apply-there s op x =
    ap is_some (apply-content s op x)
    ∙ elim (cases_Bool (touches op x)) [ inl y ↦ rw y (effect-there op (content s x)) | inr n ↦ rw n refl ]

-- an answer depends on the cells that the command touches alone, where the keys rise
pub answer-local : (op : Op) (s t : Store) → IsOrdered s → IsOrdered t →
    ((x : Cell) → touches op x ≡ true → content s x ≡ content t x) →
    (apply s op).answer ≡ (apply t op).answer
answer-local (DeleteGeneric f p) s t i j h =
    answer-generic s t f p (value_at f s.files) (value_at f t.files) (i f) (j f)
    (λ l y. h (Key f l) (and_from _ _ (is_same-self f) y))
answer-local op s t i j h =
    apply-answer s op refl
    ∙ (ap (λ c. (effect op c).answer) (h (cell_of op) (touches-self op)) ∙ sym (apply-answer t op refl))

-- and an answer that is not NORMAL leaves them
pub answer-refused : (op : Op) (s : Store) → is_normal (apply s op).answer.condition ≡ false → (x : Cell) →
    touches op x ≡ true → (effect op (content s x)).cell ≡ content s x
answer-refused (DeleteGeneric f p) s n (Key g l) y =
    let both = and_parts (is_same f g) (has_prefix p l) y in
    subst (λ z. (effect (DeleteGeneric f p) (content s (Key z l))).cell ≡ content s (Key z l)) (is_same-eq f g both.0)
    (refused-generic s f p (value_at f s.files) n l both.1)
answer-refused (DeleteGeneric f p) s n (Ts q) y = absurd (false≢true y)
answer-refused (DeleteGeneric f p) s n (Td q) y = absurd (false≢true y)
answer-refused op s n x y =
    let same : cell_of op ≡ x = touched-is op refl x y in
    subst (λ z. (effect op (content s z)).cell ≡ content s z) same
    (effect-refused op (content s (cell_of op)) (ap (λ a. is_normal a.condition) (sym (apply-answer s op refl)) ∙ n))

pub blind-answer : (op : Op) (s t : Store) → uses op Reading ≡ false →
    is_some (content s (cell_of op)) ≡ is_some (content t (cell_of op)) →
    (apply s op).answer ≡ (apply t op).answer
blind-answer (TdWrite q d) s t n h =
    apply-answer s (TdWrite q d) refl
    ∙ (answer-blind (TdWrite q d) _ _ refl h ∙ sym (apply-answer t (TdWrite q d) refl))
blind-answer _ s t n h = absurd (true≢false n)

pub front-answer : (op : Op) (s t : Store) → uses op Writing ≡ false →
    is_empty (content s (cell_of op)) ≡ false → Begins (content s (cell_of op)) (content t (cell_of op)) →
    (apply s op).answer ≡ (apply t op).answer
front-answer (TdRead q) s t n some h =
    apply-answer s (TdRead q) refl ∙ (answer-front (TdRead q) _ _ refl some h ∙ sym (apply-answer t (TdRead q) refl))
front-answer _ s t n some h = absurd (true≢false n)

-- what a command touches is recoverable as a whole, or not
pub touches-recovers : (o : OpeningState) (op : Op) (x : Cell) → touches op x ≡ true →
    is_recoverable o op ≡ recovers o x
touches-recovers o (DeleteGeneric f p) (Key g l) y =
    ap (file_recoverable o) (is_same-eq f g (and_parts (is_same f g) (has_prefix p l) y).0)
touches-recovers o (DeleteGeneric f p) (Ts q) y = absurd (false≢true y)
touches-recovers o (DeleteGeneric f p) (Td q) y = absurd (false≢true y)
touches-recovers o op x y = recoverable_by_cell op ∙ ap (recovers o) (touched-is op refl x y)
  where
    recoverable_by_cell : (op : Op) → is_recoverable o op ≡ recovers o (cell_of op)
    recoverable_by_cell (Write f k r) = refl
    recoverable_by_cell (Rewrite f k r) = refl
    recoverable_by_cell (Delete f k) = refl
    recoverable_by_cell (DeleteGeneric f p) = refl
    recoverable_by_cell (ReadUpdate f k) = refl
    recoverable_by_cell (TsWrite q d) = refl
    recoverable_by_cell (TsRewrite q n d) = refl
    recoverable_by_cell (TsDelete q) = refl
    recoverable_by_cell (TdWrite q d) = refl
    recoverable_by_cell (TdRead q) = refl
    recoverable_by_cell (TdDelete q) = refl
