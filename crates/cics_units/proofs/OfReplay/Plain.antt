-- Files and queues in plain maps: what a command that is applied in place leaves of them.
use Rattle.std.specs.Prelude.{◌≡◌, ℕ, ◌-◌, ◌<◌, ◌≤◌, Bool, true, false, not, cond, if◌then◌else◌, T, Option, Some, None, is_some, unwrap_or, List, [], ◌∷◌, ◌++◌, length, drop, slice_set, nat_lt, refl}
use Rattle.std.proofs.Common.{sym, ap, ◌∙◌, subst, arith}
use Rattle.std.proofs.lemmas.Bool.{le-ltb, lt-ltb}
use Rattle.std.proofs.lemmas.Bool.Decides.{nat_tests}
use Rattle.std.proofs.lemmas.List.{length-set}
use Rattle.std.specs.declared.cmp.Ordering.TheVariants.{Less, Equal, Greater}
use Rattle.std.specs.Ordering.{is_eq}
use Rattle.std.specs.FinMap.Entries.{below_all}
use Rattle.std.specs.Map.{lookup, set_value, remove_entry}
use Rattle.std.specs.BTreeMap.{is_at}
use Rattle.cics_names.specs.Keyed.{Bytes, Map, bytes_cmp, value_at, has_key, with_value, without, is_rising}
use Rattle.cics_names.specs.KeyedLaws.{same_bytes}
use Rattle.cics_names.specs.RisingLaws.{without-absent, rising-without}
use Rattle.cics_names.specs.declared.conditions.Condition.TheVariants.{Normal, Duprec, Notfnd, Itemerr, Qiderr}
use Rattle.cics_ksds.specs.Files.{records_after_write, records_after_rewrite, records_after_delete}
use Rattle.cics_ksds.specs.Prefixes.{has_prefix, under, outside}
use Rattle.cics_tempstor.specs.Queues.{Queue, most_items, has_item, is_there}
use Rattle.cics_history.specs.State.{Store}
use Rattle.cics_history.specs.Store.{is_normal, apply_write, apply_rewrite, apply_delete, apply_delete_generic, counted_answer, apply_ts_write, apply_ts_rewrite, apply_ts_delete, apply_td_write, apply_td_read, apply_td_delete, ts_queue, with_ts, with_file}
use Rattle.cics_history.proofs.Entries.{first, second, value_at-below, value_at-looked_up, with_value-set, with_value-same}

absent : {X : Type 0} (o : Option X) → is_some o ≡ false → o ≡ None
absent None e = refl
absent (Some x) e = cc

module _ {X : Type 0} where
  -- the first entry of a key is the only one if the keys rise
  pub remove_entry-without : (k : Bytes) (es : Map X) → T (is_rising es) → remove_entry (is_at (bytes_cmp k)) es ≡ without k es
  remove_entry-without k [] rising = refl
  remove_entry-without k (e ∷ es) rising =
      elim (bytes_cmp k e.0) as (λ o. bytes_cmp k e.0 ≡ o → cond (is_eq o) es (e ∷ remove_entry (is_at (bytes_cmp k)) es) ≡ cond (not (is_eq o)) (e ∷ without k es) (without k es)) [
        | Less ↦ λ is. ap (λ r. e ∷ r) (remove_entry-without k es (second _ _ rising))
        | Equal ↦ λ is. sym (without-absent k es (value_at-below k es (subst (λ q. T (below_all bytes_cmp q es)) (sym (same_bytes k e.0 is)) (first _ _ rising))))
        | Greater ↦ λ is. ap (λ r. e ∷ r) (remove_entry-without k es (second _ _ rising))
      ] refl

  pub removed-rising : (k : Bytes) (es new : Map X) → T (is_rising es) → new ≡ remove_entry (is_at (bytes_cmp k)) es → T (is_rising new)
  removed-rising k es new rising is = subst (λ m. T (is_rising m)) (sym (is ∙ remove_entry-without k es rising)) (rising-without k es rising)

  -- a value that is there and is set
  module _ (k : Bytes) (x : X) (es : Map X) (rising : T (is_rising es)) (found : Some x ≡ lookup (is_at (bytes_cmp k)) es) where
    pub here : value_at k es ≡ Some x
    here = value_at-looked_up k es es (Some x) found refl

    pub put_here : (y : X) (new : Map X) → new ≡ set_value (is_at (bytes_cmp k)) es y → new ≡ with_value k y es
    put_here y new set = with_value-set k y x es new rising here set

-- what a REWRITE in place leaves of records: the same if the key has none, else its record replaced
module _ (k r : Bytes) (es m : Map Bytes) (is : es ≡ m) where
  pub records_rewritten_absent : None ≡ lookup (is_at (bytes_cmp k)) es → (new : Map Bytes) → new ≡ es → new ≡ records_after_rewrite m k r
  records_rewritten_absent missing new same = same ∙ is ∙ sym (ap (λ o. if is_some o then with_value k r m else m) (value_at-looked_up k es m None missing is))

  pub records_rewritten_there : (x : Bytes) → T (is_rising es) → Some x ≡ lookup (is_at (bytes_cmp k)) es → (new : Map Bytes) →
      new ≡ set_value (is_at (bytes_cmp k)) es r → new ≡ records_after_rewrite m k r
  records_rewritten_there x rising found new set =
      put_here k x es rising found r new set ∙ ap (with_value k r) is ∙ sym (ap (λ o. if is_some o then with_value k r m else m) (value_at-looked_up k es m (Some x) found is))

-- a store of these files and queues
abbrev pub store_of : Map (Map Bytes) → Map Queue → Map (List Bytes) → Store
store_of files ts td = record { files = files; ts = ts; td = td }

-- ---- commands on files
module _ (files new_files : Map (Map Bytes)) (ts : Map Queue) (td : Map (List Bytes)) (s : Store) (is : store_of files ts td ≡ s) (f k r : Bytes) where
  module _ (missing : None ≡ lookup (is_at (bytes_cmp f)) files) (same : new_files ≡ files) where
    gone : value_at f files ≡ None
    gone = value_at-looked_up f files files None missing refl

    pub write_nowhere : store_of new_files ts td ≡ (apply_write s f k r (value_at f s.files)).store
    write_nowhere = ap (λ n. store_of n ts td) same ∙ ap (λ o. (apply_write (store_of files ts td) f k r o).store) (sym gone) ∙ ap (λ s. (apply_write s f k r (value_at f s.files)).store) is

    pub rewrite_nowhere : store_of new_files ts td ≡ (apply_rewrite s f k r (value_at f s.files)).store
    rewrite_nowhere = ap (λ n. store_of n ts td) same ∙ ap (λ o. (apply_rewrite (store_of files ts td) f k r o).store) (sym gone) ∙ ap (λ s. (apply_rewrite s f k r (value_at f s.files)).store) is

    pub delete_nowhere : store_of new_files ts td ≡ (apply_delete s f k (value_at f s.files)).store
    delete_nowhere = ap (λ n. store_of n ts td) same ∙ ap (λ o. (apply_delete (store_of files ts td) f k o).store) (sym gone) ∙ ap (λ s. (apply_delete s f k (value_at f s.files)).store) is

  module _ (records new : Map Bytes) (rising : T (is_rising files)) (found : Some records ≡ lookup (is_at (bytes_cmp f)) files) (set : new_files ≡ set_value (is_at (bytes_cmp f)) files new) where
    there : value_at f files ≡ Some records
    there = here f records files rising found

    put : (after : Map Bytes) → new ≡ after → store_of new_files ts td ≡ store_of (with_value f after files) ts td
    put after e = ap (λ n. store_of n ts td) (put_here f records files rising found new new_files set) ∙ ap (λ n. store_of (with_value f n files) ts td) e

    unchanged : store_of (with_value f records files) ts td ≡ store_of files ts td
    unchanged = ap (λ n. store_of n ts td) (with_value-same f records files rising there)

    pub write_there : new ≡ records_after_write records k r → store_of new_files ts td ≡ (apply_write s f k r (value_at f s.files)).store
    write_there e =
        put (records_after_write records k r) e
        ∙ elim (has_key k records) as (λ b. store_of (with_value f (if b then records else with_value k r records) files) ts td ≡ (if is_normal (if b then Duprec else Normal) then with_file (store_of files ts td) f (if b then records else with_value k r records) else store_of files ts td)) [
          | true ↦ unchanged
          | false ↦ refl
        ]
        ∙ ap (λ o. (apply_write (store_of files ts td) f k r o).store) (sym there)
        ∙ ap (λ s. (apply_write s f k r (value_at f s.files)).store) is

    pub rewrite_there : new ≡ records_after_rewrite records k r → store_of new_files ts td ≡ (apply_rewrite s f k r (value_at f s.files)).store
    rewrite_there e =
        put (records_after_rewrite records k r) e
        ∙ elim (has_key k records) as (λ b. store_of (with_value f (if b then with_value k r records else records) files) ts td ≡ (if is_normal (if b then Normal else Notfnd) then with_file (store_of files ts td) f (if b then with_value k r records else records) else store_of files ts td)) [
          | true ↦ refl
          | false ↦ unchanged
        ]
        ∙ ap (λ o. (apply_rewrite (store_of files ts td) f k r o).store) (sym there)
        ∙ ap (λ s. (apply_rewrite s f k r (value_at f s.files)).store) is

    pub delete_there : new ≡ records_after_delete records k → store_of new_files ts td ≡ (apply_delete s f k (value_at f s.files)).store
    delete_there e =
        put (without k records) e
        ∙ elim (has_key k records) as (λ b. has_key k records ≡ b → store_of (with_value f (without k records) files) ts td ≡ (if is_normal (if b then Normal else Notfnd) then with_file (store_of files ts td) f (without k records) else store_of files ts td)) [
          | true ↦ λ h. refl
          | false ↦ λ h. ap (λ n. store_of (with_value f n files) ts td) (without-absent k records (absent (value_at k records) h)) ∙ unchanged
        ] refl
        ∙ ap (λ o. (apply_delete (store_of files ts td) f k o).store) (sym there)
        ∙ ap (λ s. (apply_delete s f k (value_at f s.files)).store) is

-- if no record is under a prefix, all are beside it
pub beside_all : (p : Bytes) (m : Map Bytes) → under p m ≡ [] → outside p m ≡ m
beside_all p [] none = refl
beside_all p (e ∷ m) none =
    elim (has_prefix p e.0) as (λ b. cond b (e ∷ under p m) (under p m) ≡ [] → cond (not b) (e ∷ outside p m) (outside p m) ≡ e ∷ m) [
      | true ↦ λ some. cc
      | false ↦ λ none. ap (λ n. e ∷ n) (beside_all p m none)
    ] none

module _ (files new_files : Map (Map Bytes)) (ts : Map Queue) (td : Map (List Bytes)) (s : Store) (is : store_of files ts td ≡ s) (f p : Bytes) where
  pub generic_nowhere : None ≡ lookup (is_at (bytes_cmp f)) files → new_files ≡ files → store_of new_files ts td ≡ (apply_delete_generic s f p (value_at f s.files)).store
  generic_nowhere missing same =
      ap (λ n. store_of n ts td) same
      ∙ ap (λ o. (apply_delete_generic (store_of files ts td) f p o).store) (sym (value_at-looked_up f files files None missing refl))
      ∙ ap (λ s. (apply_delete_generic s f p (value_at f s.files)).store) is

  pub generic_there : (records new : Map Bytes) → T (is_rising files) → Some records ≡ lookup (is_at (bytes_cmp f)) files →
      new_files ≡ set_value (is_at (bytes_cmp f)) files new → new ≡ outside p records →
      store_of new_files ts td ≡ (apply_delete_generic s f p (value_at f s.files)).store
  generic_there records new rising found set e =
      ap (λ n. store_of n ts td) (put_here f records files rising found new new_files set) ∙ ap (λ n. store_of (with_value f n files) ts td) e
      ∙ by (under p records) refl
      ∙ ap (λ o. (apply_delete_generic (store_of files ts td) f p o).store) (sym (here f records files rising found))
      ∙ ap (λ s. (apply_delete_generic s f p (value_at f s.files)).store) is
    where
      by : (u : Map Bytes) → under p records ≡ u → store_of (with_value f (outside p records) files) ts td
          ≡ (if is_normal (counted_answer u).condition then with_file (store_of files ts td) f (outside p records) else store_of files ts td)
      by [] none =
          ap (λ n. store_of (with_value f n files) ts td) (beside_all p records none)
          ∙ ap (λ n. store_of n ts td) (with_value-same f records files rising (here f records files rising found))
      by (x ∷ xs) some = refl

-- ---- commands on temporary storage queues
test_false : (a b : ℕ) → b ≤ a → nat_lt a b ≡ false
test_false a b h = le-ltb a b h

-- a queue without an item isn't there, and any other is
pub not_there : (items : Queue) → items ≡ [] → is_there items ≡ false
not_there items e = ap is_there e

pub is_there_if : (items : Queue) → (items ≡ [] → false ≡ true) → is_there items ≡ true
is_there_if [] h = h refl
is_there_if (x ∷ xs) h = refl

-- what a write, a rewrite and a delete leave of a queue with these items
module _ (st : Store) (q d : Bytes) where
  full : (items : Queue) (b : Bool) → b ≡ false → (if is_normal (if b then Normal else Itemerr) then with_ts st q (if b then items ++ d ∷ [] else items) else st) ≡ st
  full items true e = cc
  full items false e = refl

  room : (items : Queue) (b : Bool) → b ≡ true → (if is_normal (if b then Normal else Itemerr) then with_ts st q (if b then items ++ d ∷ [] else items) else st) ≡ with_ts st q (items ++ d ∷ [])
  room items true e = refl
  room items false e = cc

  one_more : (items : Queue) → with_ts st q (items ++ d ∷ []) ≡ record { files = st.files; ts = with_value q (items ++ d ∷ []) st.ts; td = st.td }
  one_more [] = refl
  one_more (x ∷ xs) = refl

  some_items : (items : Queue) → 0 < length items → with_ts st q items ≡ record { files = st.files; ts = with_value q items st.ts; td = st.td }
  some_items [] low = absurd (omega arith)
  some_items (x ∷ xs) low = refl

  unless : (items : Queue) (n : ℕ) (b : Bool) → b ≡ false → (if is_normal (if b then Normal else if is_there items then Itemerr else Qiderr) then with_ts st q (if b then slice_set items (n - 1) d else items) else st) ≡ st
  unless items n true e = cc
  unless items n false e = elim (is_there items) as (λ b. (if is_normal (if b then Itemerr else Qiderr) then with_ts st q items else st) ≡ st) [ true ↦ refl | false ↦ refl ]

  set_item : (items : Queue) (n : ℕ) (b : Bool) → b ≡ true → (if is_normal (if b then Normal else if is_there items then Itemerr else Qiderr) then with_ts st q (if b then slice_set items (n - 1) d else items) else st) ≡ with_ts st q (slice_set items (n - 1) d)
  set_item items n true e = refl
  set_item items n false e = cc

  kept_away : (items : Queue) → is_there items ≡ false → (apply_ts_delete st q items).store ≡ st
  kept_away items e = ap (λ b. if is_normal (if b then Normal else Qiderr) then with_ts st q [] else st) e

  taken_away : (items : Queue) → is_there items ≡ true → (apply_ts_delete st q items).store ≡ with_ts st q []
  taken_away items e = ap (λ b. if is_normal (if b then Normal else Qiderr) then with_ts st q [] else st) e

module _ (files : Map (Map Bytes)) (ts : Map Queue) (td : Map (List Bytes)) (s : Store) (is : store_of files ts td ≡ s) (q d : Bytes) where
  abbrev write_after : Queue → Store
  write_after items = (apply_ts_write (store_of files ts td) q d items).store

  write_is : (items : Queue) → ts_queue (store_of files ts td) q ≡ items → write_after items ≡ (apply_ts_write s q d (ts_queue s q)).store
  write_is items e = ap write_after (sym e) ∙ ap (λ s. (apply_ts_write s q d (ts_queue s q)).store) is

  rewrite_is : (n : ℕ) (items : Queue) → ts_queue (store_of files ts td) q ≡ items → (apply_ts_rewrite (store_of files ts td) q n d items).store ≡ (apply_ts_rewrite s q n d (ts_queue s q)).store
  rewrite_is n items e = ap (λ i. (apply_ts_rewrite (store_of files ts td) q n d i).store) (sym e) ∙ ap (λ s. (apply_ts_rewrite s q n d (ts_queue s q)).store) is

  delete_is : (items : Queue) → ts_queue (store_of files ts td) q ≡ items → (apply_ts_delete (store_of files ts td) q items).store ≡ (apply_ts_delete s q (ts_queue s q)).store
  delete_is items e = ap (λ i. (apply_ts_delete (store_of files ts td) q i).store) (sym e) ∙ ap (λ s. (apply_ts_delete s q (ts_queue s q)).store) is

  module _ (missing : None ≡ lookup (is_at (bytes_cmp q)) ts) (new_ts : Map Queue) (same : new_ts ≡ ts) where
    no_queue : ts_queue (store_of files ts td) q ≡ []
    no_queue = ap (λ o. unwrap_or o []) (value_at-looked_up q ts ts None missing refl)

    pub ts_made : (made : Store) → made ≡ with_ts (store_of files new_ts td) q (d ∷ []) → made ≡ (apply_ts_write s q d (ts_queue s q)).store
    ts_made made e = e ∙ ap (λ n. with_ts (store_of files n td) q (d ∷ [])) same ∙ write_is [] no_queue

    pub ts_rewrite_nowhere : (n : ℕ) → store_of files new_ts td ≡ (apply_ts_rewrite s q n d (ts_queue s q)).store
    ts_rewrite_nowhere n = ap (λ n. store_of files n td) same ∙ sym (unless (store_of files ts td) q d [] n (has_item [] n) (no_item n)) ∙ rewrite_is n [] no_queue
      where
        no_item : (n : ℕ) → has_item [] n ≡ false
        no_item n = grind (arith, nat_tests)

    pub ts_delete_nowhere : s ≡ (apply_ts_delete s q (ts_queue s q)).store
    ts_delete_nowhere = sym is ∙ delete_is [] no_queue

  module _ (items : Queue) (rising : T (is_rising ts)) (found : Some items ≡ lookup (is_at (bytes_cmp q)) ts) where
    queue : ts_queue (store_of files ts td) q ≡ items
    queue = ap (λ o. unwrap_or o []) (here q items ts rising found)

    pub ts_delete_empty : is_there items ≡ false → s ≡ (apply_ts_delete s q (ts_queue s q)).store
    ts_delete_empty e = sym is ∙ sym (kept_away (store_of files ts td) q d items e) ∙ delete_is items queue

    pub ts_delete_there : is_there items ≡ true → (new_ts : Map Queue) → new_ts ≡ remove_entry (is_at (bytes_cmp q)) ts → store_of files new_ts td ≡ (apply_ts_delete s q (ts_queue s q)).store
    ts_delete_there e new_ts removed = ap (λ n. store_of files n td) (removed ∙ remove_entry-without q ts rising) ∙ sym (taken_away (store_of files ts td) q d items e) ∙ delete_is items queue

    module _ (new : Queue) (new_ts : Map Queue) (set : new_ts ≡ set_value (is_at (bytes_cmp q)) ts new) where
      put_queue : new_ts ≡ with_value q new ts
      put_queue = put_here q items ts rising found new new_ts set

      queue_same : new ≡ items → store_of files new_ts td ≡ store_of files ts td
      queue_same e = ap (λ n. store_of files n td) (put_queue ∙ ap (λ n. with_value q n ts) e ∙ with_value-same q items ts rising (here q items ts rising found))

      pub ts_write_full : new ≡ items → most_items ≤ length items → store_of files new_ts td ≡ (apply_ts_write s q d (ts_queue s q)).store
      ts_write_full e full_up = queue_same e ∙ sym (full (store_of files ts td) q d items (nat_lt (length items) most_items) (test_false (length items) most_items full_up)) ∙ write_is items queue

      pub ts_write_there : new ≡ items ++ d ∷ [] → length items < most_items → store_of files new_ts td ≡ (apply_ts_write s q d (ts_queue s q)).store
      ts_write_there e low =
          ap (λ n. store_of files n td) (put_queue ∙ ap (λ n. with_value q n ts) e) ∙ sym (one_more (store_of files ts td) q d items)
          ∙ sym (room (store_of files ts td) q d items (nat_lt (length items) most_items) (lt-ltb (length items) most_items low)) ∙ write_is items queue

      pub ts_rewrite_none : (n : ℕ) → new ≡ items → has_item items n ≡ false → store_of files new_ts td ≡ (apply_ts_rewrite s q n d (ts_queue s q)).store
      ts_rewrite_none n e none = queue_same e ∙ sym (unless (store_of files ts td) q d items n (has_item items n) none) ∙ rewrite_is n items queue

      pub ts_rewrite_there : (n : ℕ) → new ≡ slice_set items (n - 1) d → has_item items n ≡ true → store_of files new_ts td ≡ (apply_ts_rewrite s q n d (ts_queue s q)).store
      ts_rewrite_there n e has =
          ap (λ n. store_of files n td) (put_queue ∙ ap (λ n. with_value q n ts) e) ∙ sym (some_items (store_of files ts td) q d (slice_set items (n - 1) d) (has_some items n has))
          ∙ sym (set_item (store_of files ts td) q d items n (has_item items n) has) ∙ rewrite_is n items queue
        where
          has_some : (items : Queue) (n : ℕ) → has_item items n ≡ true → 0 < length (slice_set items (n - 1) d)
          has_some items n has = let e = length-set items (n - 1) d in grind (arith, nat_tests)

-- ---- commands on transient data queues
module _ (files : Map (Map Bytes)) (ts : Map Queue) (td new_td : Map (List Bytes)) (s : Store) (is : store_of files ts td ≡ s) (q d : Bytes) where
  module _ (missing : None ≡ lookup (is_at (bytes_cmp q)) td) (same : new_td ≡ td) where
    undefined : value_at q td ≡ None
    undefined = value_at-looked_up q td td None missing refl

    pub td_write_nowhere : store_of files ts new_td ≡ (apply_td_write s q d (value_at q s.td)).store
    td_write_nowhere = ap (store_of files ts) same ∙ ap (λ o. (apply_td_write (store_of files ts td) q d o).store) (sym undefined) ∙ ap (λ s. (apply_td_write s q d (value_at q s.td)).store) is

    pub td_read_nowhere : store_of files ts new_td ≡ (apply_td_read s q (value_at q s.td)).store
    td_read_nowhere = ap (store_of files ts) same ∙ ap (λ o. (apply_td_read (store_of files ts td) q o).store) (sym undefined) ∙ ap (λ s. (apply_td_read s q (value_at q s.td)).store) is

    pub td_delete_nowhere : store_of files ts new_td ≡ (apply_td_delete s q (value_at q s.td)).store
    td_delete_nowhere = ap (store_of files ts) same ∙ ap (λ o. (apply_td_delete (store_of files ts td) q o).store) (sym undefined) ∙ ap (λ s. (apply_td_delete s q (value_at q s.td)).store) is

  module _ (records new : List Bytes) (rising : T (is_rising td)) (found : Some records ≡ lookup (is_at (bytes_cmp q)) td) (set : new_td ≡ set_value (is_at (bytes_cmp q)) td new) where
    defined : value_at q td ≡ Some records
    defined = here q records td rising found

    put_records : (after : List Bytes) → new ≡ after → store_of files ts new_td ≡ store_of files ts (with_value q after td)
    put_records after e = ap (store_of files ts) (put_here q records td rising found new new_td set ∙ ap (λ n. with_value q n td) e)

    pub td_write_there : new ≡ records ++ d ∷ [] → store_of files ts new_td ≡ (apply_td_write s q d (value_at q s.td)).store
    td_write_there e = put_records (records ++ d ∷ []) e ∙ ap (λ o. (apply_td_write (store_of files ts td) q d o).store) (sym defined)
        ∙ ap (λ s. (apply_td_write s q d (value_at q s.td)).store) is

    -- an empty queue stays as it is
    read_of : (rs : List Bytes) → value_at q td ≡ Some rs → store_of files ts (with_value q (drop 1 rs) td) ≡ (apply_td_read (store_of files ts td) q (Some rs)).store
    read_of [] at = ap (store_of files ts) (with_value-same q [] td rising at)
    read_of (r ∷ rs) at = refl

    pub td_read_there : new ≡ drop 1 records → store_of files ts new_td ≡ (apply_td_read s q (value_at q s.td)).store
    td_read_there e = put_records (drop 1 records) e ∙ read_of records defined ∙ ap (λ o. (apply_td_read (store_of files ts td) q o).store) (sym defined)
        ∙ ap (λ s. (apply_td_read s q (value_at q s.td)).store) is

    pub td_delete_there : new ≡ [] → store_of files ts new_td ≡ (apply_td_delete s q (value_at q s.td)).store
    td_delete_there e = put_records [] e ∙ ap (λ o. (apply_td_delete (store_of files ts td) q o).store) (sym defined)
        ∙ ap (λ s. (apply_td_delete s q (value_at q s.td)).store) is
