-- A search finds a task exactly if steps lead there, and the way back is a circle.
use Rattle.std.specs.Prelude.{◌≡◌, ◌<◌, ◌≤◌, ◌+◌, ℕ, zero, suc, true, false, cond, nat_eq, Option, Some, None, option_map, unwrap_or, reverse, List, [], ◌∷◌, ◌++◌, Contains, length, slice_get, refl}
use Rattle.std.proofs.Common.{sym, ap, ◌∙◌, subst, eq-eqb, arith, inl, inr}
use Rattle.std.proofs.lemmas.Bool.{eqb-true, false≢true, or_cases}
use Rattle.std.proofs.lemmas.List.{reverse-append}
use Rattle.std.proofs.lemmas.Option.{slice_get_within, slice_get-get_or}
use Rattle.cics_dispatch.specs.declared.deadlocks.searches.Found.{Found}
use Rattle.cics_dispatch.specs.Deadlocks.Searches.{Graph, steps, is_among, has_found, search, leads, index_from, index_of, task_at, from_at, led_to, way_among}
use Rattle.cics_dispatch.specs.Deadlocks.Circles.{IsWay, Leads}
use Rattle.cics_dispatch.proofs.OfDeadlocks.Found.{root, ended}

-- ---- Ways

way_more : (g : Graph) (at : ℕ) (ks : List ℕ) (k b : ℕ) → IsWay (steps g) at ks k → Contains (steps g k) b → IsWay (steps g) at (ks ++ k ∷ []) b
way_more g at [] k b way step = (way, step)
way_more g at (l ∷ ks) k b way step = (way.0, way_more g l ks k b way.1 step)

way_joined : (g : Graph) (a : ℕ) (ks : List ℕ) (b : ℕ) (ls : List ℕ) (c : ℕ) → IsWay (steps g) a ks b → IsWay (steps g) b ls c → IsWay (steps g) a (ks ++ b ∷ ls) c
way_joined g a [] b ls c one two = (one, two)
way_joined g a (k ∷ ks) b ls c one two = (one.0, way_joined g k ks b ls c one.1 two)

-- steps lead on
pub leads_on : (g : Graph) (a b c : ℕ) → Leads (steps g) a b → Leads (steps g) b c → Leads (steps g) a c
leads_on g a b c one two = record { over = one.over ++ b ∷ two.over; way = way_joined g a one.over b two.over c one.way two.way }

-- from what is no task no step leads
step_within : (g : Graph) (a b : ℕ) → Contains (steps g a) b → a < length g
step_within g a b has = by (slice_get g a) refl
  where
    by : (o : Option (List ℕ)) → slice_get g a ≡ o → a < length g
    by None none =
        let nothing : steps g a ≡ [] = ap (λ o. unwrap_or o []) none in
        let inside : has.0 < length (steps g a) = has.1 in
        let no = ap length nothing in
        absurd (omega (arith, no, inside))
    by (Some s) there = slice_get_within g a s there

way_within : (g : Graph) (a : ℕ) (ks : List ℕ) (b : ℕ) → IsWay (steps g) a ks b → a < length g
way_within g a [] b way = step_within g a b way
way_within g a (k ∷ ks) b way = step_within g a k way.0

pub leads_within : (g : Graph) (a b : ℕ) → Leads (steps g) a b → a < length g
leads_within g a b l = way_within g a l.over b l.way

-- ---- Where a task was found

-- it was found at some index
pub found_at : (fs : List Found) (b : ℕ) → is_among b fs ≡ true → (j : ℕ) × (f : Found) × (slice_get fs j ≡ Some f) × (f.task ≡ b) × ((at : ℕ) → index_from at fs b ≡ at + j)
found_at [] b is = absurd (false≢true is)
found_at (x ∷ xs) b is = elim (nat_eq x.task b) as (λ t. nat_eq x.task b ≡ t → (j : ℕ) × (f : Found) × (slice_get (x ∷ xs) j ≡ Some f) × (f.task ≡ b) × ((at : ℕ) → index_from at (x ∷ xs) b ≡ at + j)) [
  | true ↦ λ e. (0, x, refl, eqb-true x.task b e, λ at. ap (λ t. cond t at (index_from (at + 1) xs b)) e ∙ (let zero_more : at ≡ at + 0 = omega arith in zero_more))
  | false ↦ λ e. elim (or_cases (nat_eq b x.task) (is_among b xs) is) [
    | inl here ↦ absurd (false≢true (sym e ∙ eq-eqb x.task b (sym (eqb-true b x.task here))))
    | inr later ↦
        let f = found_at xs b later in
        (suc f.0, f.1, f.2, f.3, λ at. ap (λ t. cond t at (index_from (at + 1) xs b)) e ∙ f.4 (at + 1) ∙ (let moved : (at + 1) + f.0 ≡ at + suc f.0 = omega arith in moved))
  ]
] refl

-- ---- Back along the steps that led to a task

pub nowhere : (found : List Found) (n : ℕ) → led_to found n 0 ≡ []
nowhere found zero = refl
nowhere found (suc n) = refl

pub led_step : (found : List Found) (k at : ℕ) → (at ≡ 0 → ⊥) → led_to found (suc k) at ≡ task_at found (from_at found at) ∷ led_to found k (from_at found at)
led_step found k zero other = absurd (other refl)
led_step found k (suc at) other = refl

module _ (g : Graph) (first : ℕ) where
  abbrev pub rest : List Found
  rest = (ended g first).rest

  abbrev whole : List Found
  whole = root g first ∷ rest

  -- ---- Wherever steps lead

  come : (a : ℕ) (ks : List ℕ) (b : ℕ) → IsWay (steps g) a ks b → b < length g → (i : ℕ) → i ≤ length rest → task_at whole i ≡ a → is_among b rest ≡ true
  come a [] b way inside i less its = (ended g first).closed i b (omega arith) (subst (λ x. Contains (steps g x) b) (sym its) way) inside
  come a (k ∷ ks) b way inside i less its =
      let there = (ended g first).closed i k (omega arith) (subst (λ x. Contains (steps g x) k) (sym its) way.0) (way_within g k ks b way.1) in
      let f = found_at rest k there in
      let within = slice_get_within rest f.0 f.1 f.2 in
      come k ks b way.1 inside (suc f.0) (omega (arith, within)) (ap (λ o. unwrap_or (option_map (λ (x : Found). x.task) o) 0) f.2 ∙ f.3)

  pub has_rest : (b : ℕ) → leads g first b ≡ is_among b rest
  has_rest b = ap (λ found. has_found found b) (ended g first).is

  pub found_if_led : (b : ℕ) → Leads (steps g) first b → b < length g → leads g first b ≡ true
  found_if_led b l inside = has_rest b ∙ come first l.over b l.way inside 0 (omega arith) refl

  -- ---- How a task was found

  pub record IsLed (ks : List ℕ) (b : ℕ) : Type 0 where
    pub others : List ℕ
    pub is : ks ≡ first ∷ others
    pub way : IsWay (steps g) first others b

  led : (n j : ℕ) (f : Found) → j < n → slice_get rest j ≡ Some f → IsLed (reverse (led_to whole n (suc j))) f.task
  led zero j f less there = absurd (omega arith)
  led (suc n) j f less there = by (led n) f.from refl ((ended g first).sound.led j f there)
    where
      from : from_at whole (suc j) ≡ f.from
      from = ap (λ o. unwrap_or (option_map (λ (x : Found). x.from) o) 0) there

      opened : (p : ℕ) → f.from ≡ p → led_to whole (suc n) (suc j) ≡ task_at whole p ∷ led_to whole n p
      opened p is = ap (λ q. task_at whole q ∷ led_to whole n q) (from ∙ is)

      by : ((k : ℕ) (e : Found) → k < n → slice_get rest k ≡ Some e → IsLed (reverse (led_to whole n (suc k))) e.task) → (p : ℕ) → f.from ≡ p → (f.from ≤ j) × Contains (steps g (task_at whole f.from)) f.task → IsLed (reverse (led_to whole (suc n) (suc j))) f.task
      by earlier zero is step = record {
        others = [];
        is = ap reverse (opened 0 is ∙ ap (λ l. first ∷ l) (nowhere whole n));
        way = subst (λ p. Contains (steps g (task_at whole p)) f.task) is step.1;
      }
      by earlier (suc p) is step =
          let low = step.0 in
          let inside = slice_get_within rest j f there in
          on (slice_get rest p) refl (omega (arith, low, is)) (omega (arith, low, is, inside)) (subst (λ q. Contains (steps g (task_at whole q)) f.task) is step.1) (opened (suc p) is)
        where
          on : (o : Option Found) → slice_get rest p ≡ o → p < n → p < length rest → Contains (steps g (task_at whole (suc p))) f.task → led_to whole (suc n) (suc j) ≡ task_at whole (suc p) ∷ led_to whole n (suc p) →
              IsLed (reverse (led_to whole (suc n) (suc j))) f.task
          on None none fewer within step first_step = let wrong : None ≡ Some _ = sym none ∙ slice_get-get_or rest p (root g first) within in cc
          on (Some e) at fewer within step first_step =
              let before = earlier p e fewer at in
              let task : task_at whole (suc p) ≡ e.task = ap (λ o. unwrap_or (option_map (λ (x : Found). x.task) o) 0) at in
              record {
                others = before.others ++ e.task ∷ [];
                is = ap reverse first_step ∙ reverse-append (task_at whole (suc p) ∷ []) (led_to whole n (suc p)) ∙ (λ i. before.is i ++ task i ∷ []);
                way = way_more g first before.others e.task f.task before.way (subst (λ a. Contains (steps g a) f.task) task step);
              }

  pub led_if_found : (b : ℕ) → leads g first b ≡ true → IsLed (way_among (search g first) b) b
  led_if_found b is =
      let f = found_at rest b (sym (has_rest b) ∙ is) in
      let index : index_of (search g first) b ≡ suc f.0 = ap (λ found. index_of found b) (ended g first).is ∙ f.4 1 ∙ (let one : 1 + f.0 ≡ suc f.0 = omega arith in one) in
      let way : way_among (search g first) b ≡ reverse (led_to whole (suc f.0) (suc f.0)) = (λ i. reverse (led_to ((ended g first).is i) (index i) (index i))) in
      let l = led (suc f.0) f.0 f.1 (omega arith) f.2 in
      record { others = l.others; is = way ∙ l.is; way = subst (IsWay (steps g) first l.others) f.3 l.way }

  pub leads_if_found : (b : ℕ) → leads g first b ≡ true → Leads (steps g) first b
  leads_if_found b is = let l = led_if_found b is in record { over = l.others; way = l.way }

  pub found_within : (b : ℕ) → leads g first b ≡ true → b < length g
  found_within b is = (ended g first).sound.within b (sym (has_rest b) ∙ is)
