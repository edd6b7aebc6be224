-- The deadlocks that are told are those of the region: of each one circle, and nothing else.
use Rattle.std.specs.Prelude.{◌≡◌, ◌<◌, ◌≤◌, ◌++◌, ◌↔◌, ℕ, zero, suc, Bool, true, false, cond, nat_eq, nat_lt, Option, Some, None, option_map, unwrap_or, List, [], ◌∷◌, map, All, Contains, length, slice_get, slice_index_or, refl}
use Rattle.std.proofs.Common.{sym, ap, ◌∙◌, subst, eq-eqb, arith}
use Rattle.std.specs.List.{filter_map}
use Rattle.std.proofs.lemmas.Bool.{eqb-true, lt-ltb, ltb-true, false≢true}
use Rattle.std.proofs.lemmas.Option.{slice_get_past, slice_get_within}
use Rattle.std.proofs.lemmas.List.Elements.{All-map, All-weaker}
use Rattle.cics_dispatch.specs.Machine.Machine.{Machine}
use Rattle.cics_dispatch.specs.Machine.Blockers.{blockers_of, number_of}
use Rattle.cics_dispatch.proofs.OfMachine.Elements.{get-pushed}
use Rattle.cics_dispatch.specs.Deadlocks.Searches.{Graph, steps, leads, circles, led_back_below, led_back}
use Rattle.cics_dispatch.specs.Deadlocks.Circles.{Leads, IsCircle, IsCircleOf}
use Rattle.cics_dispatch.specs.Deadlocks.Deadlocks.{blockers_at, waits_below, waits_of, labels_of, deadlocks, in_deadlock, IsDeadlock, IsTold}
use Rattle.cics_dispatch.proofs.OfDeadlocks.Reached.{found_if_led, leads_if_found, leads_within}
use Rattle.cics_dispatch.proofs.OfDeadlocks.Firsts.{HasFirst, has_first, each_below, told}

-- what is made of an element is one of what is made of them
contains_map : {X Y : Type 0} (f : X → Y) (xs : List X) (x : X) (k : ℕ) → k < length xs → slice_index_or xs k x ≡ x → Contains (map f xs) (f x)
contains_map f [] x k less is = absurd (omega arith)
contains_map f (y ∷ ys) x zero less is = (0, omega arith, ap f is)
contains_map f (y ∷ ys) x (suc k) less is =
    let rest = contains_map f ys x k (omega arith) is in
    let within : rest.0 < length (map f ys) = rest.1 in
    (suc rest.0, omega arith, rest.2)

-- one more at the end
length-pushed : {X : Type 0} (xs : List X) (x : X) → length (xs ++ x ∷ []) ≡ suc (length xs)
length-pushed [] x = refl
length-pushed (y ∷ ys) x = ap suc (length-pushed ys x)

-- what stands at an index of a list that was filled from the first index on
module _ {X : Type 0} (filled : ℕ → List X) (at : ℕ → X) (none : filled 0 ≡ []) (more : (n : ℕ) → filled (suc n) ≡ filled n ++ at n ∷ []) where
  pub filled_many : (n : ℕ) → length (filled n) ≡ n
  filled_many zero = ap length none
  filled_many (suc n) = ap length (more n) ∙ length-pushed (filled n) (at n) ∙ ap suc (filled_many n)

  pub filled_at : (n i : ℕ) → i < n → slice_get (filled n) i ≡ Some (at i)
  filled_at zero i less = absurd (omega arith)
  filled_at (suc n) i less =
      ap (λ l. slice_get l i) (more n) ∙ get-pushed (filled n) (at n) i ∙ ap (λ k. cond (nat_eq i k) (Some (at n)) (slice_get (filled n) i)) (filled_many n)
      ∙ elim (nat_eq i n) as (λ b. nat_eq i n ≡ b → cond b (Some (at n)) (slice_get (filled n) i) ≡ Some (at i)) [
        | true ↦ λ same. ap (λ k. Some (at k)) (sym (eqb-true i n same))
        | false ↦ λ other.
            let differs : i ≡ n → ⊥ = λ same. false≢true (sym other ∙ eq-eqb i n same) in
            filled_at n i (omega arith)
      ] refl

module _ (m : Machine) where
  many : length (waits_of m) ≡ length m.tasks
  many = filled_many (waits_below m) (blockers_at m) refl (λ n. refl) (length m.tasks)

  -- whom a task waits for are the tasks that block it
  pub steps_are : (i : ℕ) → steps (waits_of m) i ≡ blockers_at m i
  steps_are i = elim (nat_lt i (length m.tasks)) as (λ b. nat_lt i (length m.tasks) ≡ b → steps (waits_of m) i ≡ blockers_at m i) [
    | true ↦ λ less. ap (λ o. unwrap_or o []) (filled_at (waits_below m) (blockers_at m) refl (λ n. refl) (length m.tasks) i (ltb-true i (length m.tasks) less))
    | false ↦ λ past.
        let not_less : i < length m.tasks → ⊥ = λ less. false≢true (sym past ∙ lt-ltb i (length m.tasks) less) in
        let beyond : length m.tasks ≤ i = omega arith in
        ap (λ o. unwrap_or o []) (slice_get_past (waits_of m) i (subst (λ k. k ≤ i) (sym many) beyond))
        ∙ sym (ap (λ o. filter_map (number_of m.tasks) (unwrap_or (option_map (blockers_of m) (option_map (λ t. t.label) o)) [])) (slice_get_past m.tasks i beyond))
  ] refl

  same_steps : steps (waits_of m) ≡ blockers_at m
  same_steps j i = steps_are i j

  pub leads_here : (a b : ℕ) → Leads (steps (waits_of m)) a b → Leads (blockers_at m) a b
  leads_here a b = subst (λ f. Leads f a b) same_steps

  leads_there : (a b : ℕ) → Leads (blockers_at m) a b → Leads (steps (waits_of m)) a b
  leads_there a b = subst (λ f. Leads f a b) (sym same_steps)

  -- each that is told is one
  pub told_each : All (IsDeadlock m) (deadlocks m)
  told_each = All-map (IsDeadlock m) (labels_of m) (circles (waits_of m))
      (All-weaker (IsCircle (steps (waits_of m))) (λ c. IsDeadlock m (labels_of m c))
      (λ c is. record { numbers = c; circle = subst (λ f. IsCircle f c) same_steps is; told = refl })
      (circles (waits_of m)) (each_below (waits_of m) (length (waits_of m))))

  -- of each one is told
  pub told_all : (task : ℕ) → Leads (blockers_at m) task task → IsTold m (deadlocks m) task
  told_all task l =
      let f = has_first (waits_of m) task (leads_there task task l) in
      let t = told (waits_of m) f.first f.is in
      record {
        first = f.first;
        others = t.others;
        same = record { there = leads_here task f.first f.there; back = leads_here f.first task f.back };
        circle = contains_map (labels_of m) (circles (waits_of m)) (f.first ∷ t.others) t.circle.0 t.circle.1 t.circle.2;
      }

  -- a task is in a deadlock if it leads back to itself
  pub flag_is : (task : ℕ) → (slice_get (in_deadlock m) task ≡ Some true) ↔ Leads (blockers_at m) task task
  flag_is task = (
    λ is. leads_here task task (leads_if_found (waits_of m) task task (its (slice_get_within (in_deadlock m) task true is) is)),
    λ l.
        let inside = leads_within (waits_of m) task task (leads_there task task l) in
        flag task inside ∙ ap Some (found_if_led (waits_of m) task task (leads_there task task l) inside),
  )
    where
      flag : (task : ℕ) → task < length (waits_of m) → slice_get (in_deadlock m) task ≡ Some (leads (waits_of m) task task)
      flag task inside = filled_at (led_back_below (waits_of m)) (λ n. leads (waits_of m) n n) refl (λ n. refl) (length (waits_of m)) task inside

      flags : length (in_deadlock m) ≡ length (waits_of m)
      flags = filled_many (led_back_below (waits_of m)) (λ n. leads (waits_of m) n n) refl (λ n. refl) (length (waits_of m))

      its : task < length (in_deadlock m) → slice_get (in_deadlock m) task ≡ Some true → leads (waits_of m) task task ≡ true
      its inside is = let both : Some (leads (waits_of m) task task) ≡ Some true = sym (flag task (subst (λ n. task < n) flags inside)) ∙ is in cc
