-- What a search finds: steps led to each task, and it has come wherever steps lead.
use Rattle.std.specs.Prelude.{◌≡◌, ◌<◌, ◌≤◌, ◌||◌, ◌&&◌, ◌+◌, ℕ, zero, suc, true, false, not, cond, nat_eq, nat_lt, Option, Some, None, option_map, unwrap_or, List, [], ◌∷◌, ◌++◌, Contains, length, slice_get, slice_index_or, refl}
use Rattle.std.proofs.Common.{sym, ap, ◌∙◌, subst, eq-eqb, arith, inl, inr}
use Rattle.std.specs.List.{list_any, IsDistinct, AllByRecursion}
use Rattle.std.proofs.lemmas.Bool.{false_from_ne_true, eqb-true, lt-ltb, ltb-true, false≢true, or_parts, or_cases, or_left, or_right}
use Rattle.std.proofs.lemmas.Option.{slice_get_within, slice_get-get_or}
use Rattle.std.proofs.lemmas.List.Folds.{list_any-append}
use Rattle.std.proofs.lemmas.Map.Steps.{length-le_from_distinct_below}
use Rattle.cics_dispatch.proofs.OfMachine.Elements.{get-pushed}
use Rattle.cics_dispatch.specs.declared.deadlocks.searches.Found.{Found}
use Rattle.cics_dispatch.specs.Deadlocks.Searches.{Graph, steps, tasks, is_among, with_step, with_steps, search_on, searched, search, task_at}

-- ---- One more task

tasks_more : (fs : List Found) (f : Found) → tasks (fs ++ f ∷ []) ≡ tasks fs ++ f.task ∷ []
tasks_more [] f = refl
tasks_more (x ∷ xs) f = ap (λ l. x.task ∷ l) (tasks_more xs f)

pub tasks_many : (fs : List Found) → length (tasks fs) ≡ length fs
tasks_many [] = refl
tasks_many (x ∷ xs) = ap suc (tasks_many xs)

pub among_more : (fs : List Found) (f : Found) (b : ℕ) → is_among b (fs ++ f ∷ []) ≡ (is_among b fs || (nat_eq b f.task || false))
among_more fs f b = ap (list_any (nat_eq b)) (tasks_more fs f) ∙ list_any-append (nat_eq b) (tasks fs) (f.task ∷ [])

-- tasks stay apart with one that isn't among them
distinct_more : (xs : List ℕ) (y : ℕ) → IsDistinct nat_eq xs → list_any (nat_eq y) xs ≡ false → IsDistinct nat_eq (xs ++ y ∷ [])
unfolding IsDistinct
distinct_more [] y once none = (tt, tt)
distinct_more (x ∷ xs) y once none =
    let parts = or_parts (nat_eq y x) (list_any (nat_eq y) xs) none in
    let other : nat_eq x y ≡ false = false_from_ne_true (nat_eq x y) (λ e. false≢true (sym parts.0 ∙ eq-eqb y x (sym (eqb-true x y e)))) in
    (apart other xs once.0, distinct_more xs y once.1 parts.1)
  where
    apart : nat_eq x y ≡ false → (zs : List ℕ) → AllByRecursion (λ z. nat_eq x z ≡ false) zs → AllByRecursion (λ z. nat_eq x z ≡ false) (zs ++ y ∷ [])
    apart other [] a = (other, tt)
    apart other (z ∷ zs) a = (a.0, apart other zs a.1)

none_twice : IsDistinct nat_eq []
unfolding IsDistinct
none_twice = tt

longer_by_one : (fs : List Found) (f : Found) → length (fs ++ f ∷ []) ≡ suc (length fs)
longer_by_one [] f = refl
longer_by_one (x ∷ xs) f = ap suc (longer_by_one xs f)

-- ---- A search goes on

module _ (g : Graph) (first : ℕ) where
  abbrev pub root : Found
  root = record { task = first; from = 0 }

  -- a step led to each task from one before it, and none was found twice
  pub record IsSound (rest : List Found) : Type 0 where
    pub led : (i : ℕ) (f : Found) → slice_get rest i ≡ Some f → (f.from ≤ i) × Contains (steps g (task_at (root ∷ rest) f.from)) f.task
    pub once : IsDistinct nat_eq (tasks rest)
    pub within : (q : ℕ) → list_any (nat_eq q) (tasks rest) ≡ true → q < length g

  -- all steps from the tasks below an index were taken
  abbrev pub IsClosed : ℕ → List Found → Type 0
  IsClosed at rest = (i b : ℕ) → i < at → Contains (steps g (task_at (root ∷ rest) i)) b → b < length g → is_among b rest ≡ true

  -- more was found
  pub record IsGrown (rest more : List Found) : Type 0 where
    pub sound : IsSound more
    pub longer : length rest ≤ length more
    pub same : (j : ℕ) → j ≤ length rest → task_at (root ∷ more) j ≡ task_at (root ∷ rest) j
    pub still : (b : ℕ) → is_among b rest ≡ true → is_among b more ≡ true

  kept : (rest : List Found) (f : Found) (j : ℕ) → j ≤ length rest → slice_get (root ∷ (rest ++ f ∷ [])) j ≡ slice_get (root ∷ rest) j
  kept rest f zero le = refl
  kept rest f (suc j) le =
      get-pushed rest f j
      ∙ ap (λ b. cond b (Some f) (slice_get rest j)) (false_from_ne_true (nat_eq j (length rest)) (λ e. let same : j ≡ length rest = eqb-true j (length rest) e in omega arith))

  added : (rest : List Found) (at b : ℕ) → IsSound rest → at ≤ length rest → Contains (steps g (task_at (root ∷ rest) at)) b → b < length g → is_among b rest ≡ false →
      IsGrown rest (rest ++ record { task = b; from = at } ∷ [])
  added rest at b sound le step inside none = record {
    sound = record { led = led; once = once; within = within };
    longer = let one = longer_by_one rest new in omega (arith, one);
    same = same;
    still = λ c is. among_more rest new c ∙ or_left (is_among c rest) _ is;
  }
    where
      new : Found
      new = record { task = b; from = at }

      same : (j : ℕ) → j ≤ length rest → task_at (root ∷ (rest ++ new ∷ [])) j ≡ task_at (root ∷ rest) j
      same j less = ap (λ o. unwrap_or (option_map (λ f. f.task) o) 0) (kept rest new j less)

      led : (i : ℕ) (f : Found) → slice_get (rest ++ new ∷ []) i ≡ Some f → (f.from ≤ i) × Contains (steps g (task_at (root ∷ (rest ++ new ∷ [])) f.from)) f.task
      led i f there = elim (nat_eq i (length rest)) as (λ t. nat_eq i (length rest) ≡ t → cond t (Some new) (slice_get rest i) ≡ Some f → (f.from ≤ i) × Contains (steps g (task_at (root ∷ (rest ++ new ∷ [])) f.from)) f.task) [
        | true ↦ λ e is.
            let it : new ≡ f = cc in
            let here : i ≡ length rest = eqb-true i (length rest) e in
            subst (λ (x : Found). (x.from ≤ i) × Contains (steps g (task_at (root ∷ (rest ++ new ∷ [])) x.from)) x.task) it
            (omega arith, subst (λ a. Contains (steps g a) b) (sym (same at le)) step)
        | false ↦ λ e is.
            let before = sound.led i f is in
            let inside = slice_get_within rest i f is in
            (before.0, subst (λ a. Contains (steps g a) f.task) (sym (same f.from (let low = before.0 in omega arith))) before.1)
      ] refl (sym (get-pushed rest new i) ∙ there)

      once : IsDistinct nat_eq (tasks (rest ++ new ∷ []))
      once = subst (IsDistinct nat_eq) (sym (tasks_more rest new)) (distinct_more (tasks rest) b sound.once none)

      within : (q : ℕ) → list_any (nat_eq q) (tasks (rest ++ new ∷ [])) ≡ true → q < length g
      within q is = elim (or_cases (is_among q rest) (nat_eq q b || false) (sym (among_more rest new q) ∙ is)) [
        | inl old ↦ sound.within q old
        | inr last ↦ elim (or_cases (nat_eq q b) false last) [
          | inl one ↦ subst (λ x. x < length g) (sym (eqb-true q b one)) inside
          | inr never ↦ absurd (false≢true never)
        ]
      ]

  stays : (rest : List Found) → IsSound rest → IsGrown rest rest
  stays rest sound = record { sound = sound; longer = omega arith; same = λ j less. refl; still = λ b is. is }

  -- ---- the steps from one task

  record IsStepped (at : ℕ) (rest : List Found) (bs : List ℕ) : Type 0 where
    more : List Found
    is : with_steps (length g) at (root ∷ rest) bs ≡ root ∷ more
    grown : IsGrown rest more
    there : (b : ℕ) → Contains bs b → b < length g → is_among b more ≡ true

  record IsAdded (at : ℕ) (rest : List Found) (b : ℕ) : Type 0 where
    more : List Found
    is : with_step (length g) at (root ∷ rest) b ≡ root ∷ more
    grown : IsGrown rest more
    there : b < length g → is_among b more ≡ true

  one_step : (rest : List Found) (at b : ℕ) → IsSound rest → at ≤ length rest → Contains (steps g (task_at (root ∷ rest) at)) b → IsAdded at rest b
  one_step rest at b sound le step = elim (nat_lt b (length g)) as (λ t. nat_lt b (length g) ≡ t → IsAdded at rest b) [
    | false ↦ λ past. record {
      more = rest;
      is = ap (λ t. cond (t && not (is_among b rest)) (root ∷ (rest ++ record { task = b; from = at } ∷ [])) (root ∷ rest)) past;
      grown = stays rest sound;
      there = λ less. absurd (false≢true (sym past ∙ lt-ltb b (length g) less));
    }
    | true ↦ λ inside. elim (is_among b rest) as (λ t. is_among b rest ≡ t → IsAdded at rest b) [
      | true ↦ λ old. record {
        more = rest;
        is = (λ i. cond (inside i && not (old i)) (root ∷ (rest ++ record { task = b; from = at } ∷ [])) (root ∷ rest));
        grown = stays rest sound;
        there = λ less. old;
      }
      | false ↦ λ new. record {
        more = rest ++ record { task = b; from = at } ∷ [];
        is = (λ i. cond (inside i && not (new i)) (root ∷ (rest ++ record { task = b; from = at } ∷ [])) (root ∷ rest));
        grown = added rest at b sound le step (ltb-true b (length g) inside) new;
        there = λ less. among_more rest (record { task = b; from = at }) b ∙ or_right (is_among b rest) _ (or_left (nat_eq b b) false (eq-eqb b b refl));
      }
    ] refl
  ] refl

  all_steps : (at a : ℕ) (bs : List ℕ) (rest : List Found) → IsSound rest → at ≤ length rest → task_at (root ∷ rest) at ≡ a → ((b : ℕ) → Contains bs b → Contains (steps g a) b) → IsStepped at rest bs
  all_steps at a [] rest sound le its led = record { more = rest; is = refl; grown = stays rest sound; there = λ b has. let within : has.0 < 0 = has.1 in absurd (omega arith) }
  all_steps at a (b ∷ bs) rest sound le its led =
      let s = one_step rest at b sound le (subst (λ x. Contains (steps g x) b) (sym its) (led b (0, omega arith, refl))) in
      let longer = s.grown.longer in
      let r = all_steps at a bs s.more s.grown.sound (omega (arith, longer)) (s.grown.same at le ∙ its) (λ c has. led c (suc has.0, (let within = has.1 in omega arith), has.2)) in
      record {
        more = r.more;
        is = ap (λ l. with_steps (length g) at l bs) s.is ∙ r.is;
        grown = record {
          sound = r.grown.sound;
          longer = (let further = r.grown.longer in omega (arith, longer, further));
          same = λ j less. r.grown.same j (omega (arith, longer)) ∙ s.grown.same j less;
          still = λ c is. r.grown.still c (s.grown.still c is);
        };
        there = λ c has. on s r c has.0 has.1 has.2;
      }
    where
      on : (s : IsAdded at rest b) (r : IsStepped at s.more bs) (c k : ℕ) → k < length (b ∷ bs) → slice_index_or (b ∷ bs) k c ≡ c → c < length g → is_among c r.more ≡ true
      on s r c zero within is less = r.grown.still c (subst (λ x. is_among x s.more ≡ true) is (s.there (subst (λ x. x < length g) (sym is) less)))
      on s r c (suc k) within is less = r.there c (k, omega arith, is) less

  -- ---- to the end

  pub record IsEnded (result : List Found) : Type 0 where
    pub rest : List Found
    pub is : result ≡ root ∷ rest
    pub sound : IsSound rest
    pub closed : IsClosed (suc (length rest)) rest

  going : (n at : ℕ) (rest : List Found) → IsSound rest → at ≤ suc (length rest) → n + at ≡ length g + 1 → IsClosed at rest → IsEnded (searched g n at (root ∷ rest))
  going zero at rest sound le count closed =
      let few = length-le_from_distinct_below (tasks rest) (length g) sound.once sound.within in
      let many = tasks_many rest in
      record { rest = rest; is = refl; sound = sound; closed = λ i b less. closed i b (omega (arith, few, many)) }
  going (suc n) at rest sound le count closed = by (going n (at + 1)) (slice_get (root ∷ rest) at) refl
    where
      by : ((more : List Found) → IsSound more → at + 1 ≤ suc (length more) → n + (at + 1) ≡ length g + 1 → IsClosed (at + 1) more → IsEnded (searched g n (at + 1) (root ∷ more))) → (o : Option Found) → slice_get (root ∷ rest) at ≡ o → IsEnded (search_on (searched g n (at + 1)) g at (root ∷ rest) o)
      by on None none = record {
        rest = rest;
        is = refl;
        sound = sound;
        closed = λ i b less. closed i b (past i less);
      }
        where
          past : (i : ℕ) → i < suc (length rest) → i < at
          past i less = elim (nat_lt at (suc (length rest))) as (λ t. nat_lt at (suc (length rest)) ≡ t → i < at) [
            | true ↦ λ e.
                let inside : at < length (root ∷ rest) = ltb-true at (suc (length rest)) e in
                let wrong : None ≡ Some _ = sym none ∙ slice_get-get_or (root ∷ rest) at root inside in
                cc
            | false ↦ λ e. let not_less : at < suc (length rest) → ⊥ = λ h. false≢true (sym e ∙ lt-ltb at (suc (length rest)) h) in omega arith
          ] refl
      by on (Some f) there =
          let inside = slice_get_within (root ∷ rest) at f there in
          let its : task_at (root ∷ rest) at ≡ f.task = ap (λ o. unwrap_or (option_map (λ (x : Found). x.task) o) 0) there in
          let r = all_steps at f.task (steps g f.task) rest sound (omega (arith, inside)) its (λ b has. has) in
          let longer = r.grown.longer in
          let end = on r.more r.grown.sound (omega (arith, inside, longer)) (omega (arith, count)) (further f r its (omega (arith, inside))) in
          record { rest = end.rest; is = ap (searched g n (at + 1)) r.is ∙ end.is; sound = end.sound; closed = end.closed }
        where
          further : (f : Found) (r : IsStepped at rest (steps g f.task)) → task_at (root ∷ rest) at ≡ f.task → at ≤ length rest → IsClosed (at + 1) r.more
          further f r its inside i b less step within = elim (nat_lt i at) as (λ t. nat_lt i at ≡ t → is_among b r.more ≡ true) [
            | true ↦ λ e.
                let before : i < at = ltb-true i at e in
                r.grown.still b (closed i b before (subst (λ a. Contains (steps g a) b) (r.grown.same i (omega arith)) step) within)
            | false ↦ λ e.
                let not_less : i < at → ⊥ = λ h. false≢true (sym e ∙ lt-ltb i at h) in
                let here : i ≡ at = omega arith in
                r.there b (subst (λ a. Contains (steps g a) b) (ap (task_at (root ∷ r.more)) here ∙ r.grown.same at inside ∙ its) step) within
          ] refl

  -- what the search from the first task finds
  pub ended : IsEnded (search g first)
  ended = going (length g + 1) 0 [] (record { led = λ i f is. cc; once = none_twice; within = λ q is. absurd (false≢true is) }) (omega arith) (omega arith) (λ i b less. absurd (omega arith))
