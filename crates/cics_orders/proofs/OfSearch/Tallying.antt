-- The endings of runs, told one after the other, each with how many runs lead there.
use Rattle.std.proofs.Common.{◌≡◌, ◌≤◌, ℕ, ◌+◌, Bool, true, false, not, ◌&&◌, ◌||◌, List, [], ◌∷◌, ◌++◌, map, max, refl, ap, sym, ◌∙◌, arith, if◌then◌else◌, append-nil, append_assoc, cond, subst}
use Rattle.std.specs.List.{count_by, list_any, filter}
use Rattle.std.proofs.lemmas.List.Sums.{sum_by-append}
use Rattle.std.proofs.lemmas.List.Elements.{filter-append}
use Rattle.std.proofs.lemmas.List.{map-append}
use Rattle.std.proofs.lemmas.Bool.{true≢false}
use Rattle.cics_orders.specs.Space.Endings.{Run, Parts, are_same, firsts, kept_number, reported, report, reported_of_both, report_of_both}
use Rattle.cics_orders.specs.Space.Groups.{added, added_all}
use Rattle.cics_orders.specs.Space.Tallies.{tally_joined, ending_of}
use Rattle.cics_orders.specs.declared.space.endings.Tally.{Tally}
use Rattle.cics_orders.proofs.OfSpace.SameParts.{same_decides, same_refl}
use Rattle.cics_orders.proofs.OfSearch.Regrouping.{Each}
use Rattle.cics_orders.proofs.OfSearch.Ways.{each_filter}

-- ---- Runs that lead to the same

abbrev pub leads : Run → Run → Bool
leads r s = are_same s.ending r.ending

same_ending : (r s : Run) → leads r s ≡ true → s.ending ≡ r.ending
same_ending r s alike = (same_decides s.ending r.ending).0 alike

leads_self : (r : Run) → leads r r ≡ true
leads_self r = same_refl r.ending

flip : (r s : Run) → leads r s ≡ true → leads s r ≡ true
flip r s alike = (same_decides r.ending s.ending).1 (sym (same_ending r s alike))

leads_back : (r s : Run) → leads r s ≡ leads s r
leads_back r s = by (leads r s) (leads s r) refl refl
  where
    by : (a b : Bool) → leads r s ≡ a → leads s r ≡ b → a ≡ b
    by true true p q = refl
    by false false p q = refl
    by true false p q = sym (flip r s p) ∙ q
    by false true p q = sym p ∙ flip s r q

-- runs that lead alike lead alike to any other's ending
leads_on : (r s t : Run) → leads r s ≡ true → leads t r ≡ leads t s
leads_on r s t alike = ap (λ e. are_same e t.ending) (sym (same_ending r s alike))

-- ---- The runs that lead where none before them does

-- a run is a first one where none of these leads alike
abbrev pub if_first : List Run → Run → List Run
if_first rs r = if list_any (λ s. leads r s) rs then [] else r ∷ []

filtered : (x r : Run) (b : Bool) → filter (λ s. not (leads x s)) (if b then [] else r ∷ []) ≡ (if leads r x || b then [] else r ∷ [])
filtered x r b = by b (leads r x) refl
  where
    by : (b c : Bool) → leads r x ≡ c → filter (λ s. not (leads x s)) (if b then [] else r ∷ []) ≡ (if c || b then [] else r ∷ [])
    by true true is = refl
    by true false is = refl
    by false true is = rw (leads_back x r ∙ is) refl
    by false false is = rw (leads_back x r ∙ is) refl

pub firsts-append : (rs : List Run) (r : Run) → firsts (rs ++ r ∷ []) ≡ firsts rs ++ if_first rs r
firsts-append [] r = refl
firsts-append (x ∷ rs) r =
    ap (λ fs. x ∷ filter (λ s. not (leads x s)) fs) (firsts-append rs r)
    ∙ ap (λ fs. x ∷ fs) (filter-append (λ s. not (leads x s)) (firsts rs) (if_first rs r) ∙ ap (λ fs. filter (λ s. not (leads x s)) (firsts rs) ++ fs) (filtered x r (list_any (λ s. leads r s) rs)))

-- ---- Counts

count_more : (p : Run → Bool) (rs : List Run) (r : Run) → count_by p (rs ++ r ∷ []) ≡ count_by p rs + cond (p r) 1 0
count_more p rs r = sum_by-append (λ x. cond (p x) 1 0) rs (r ∷ []) ∙ omega arith

pub count_first : (p : Run → Bool) (r : Run) (rs : List Run) → count_by p (r ∷ rs) ≡ cond (p r) 1 0 + count_by p rs
count_first p r rs = sum_by-append (λ x. cond (p x) 1 0) (r ∷ []) rs ∙ omega arith

-- ---- Endings of runs

-- none of these leads where another does
AreApart : List Run → Type 0
AreApart [] = Unit {0}
AreApart (f ∷ fs) = (list_any (λ s. leads f s) fs ≡ false) × AreApart fs

any_filtered : (r x : Run) (fs : List Run) → leads r x ≡ false → list_any (λ s. leads r s) (filter (λ s. not (leads x s)) fs) ≡ list_any (λ s. leads r s) fs
any_filtered r x [] apart = refl
any_filtered r x (f ∷ fs) apart = by (any_filtered r x fs apart) (leads x f) (leads r f) refl refl
  where
    by : list_any (λ s. leads r s) (filter (λ s. not (leads x s)) fs) ≡ list_any (λ s. leads r s) fs → (a b : Bool) → leads x f ≡ a → leads r f ≡ b →
        list_any (λ s. leads r s) (filter (λ s. not (leads x s)) (f ∷ fs)) ≡ list_any (λ s. leads r s) (f ∷ fs)
    by rest true true p q = absurd (true≢false (sym (leads_on x f r p ∙ q) ∙ apart))
    by rest true false p q = rw (p, q) rest
    by rest false true p q = rw (p, q) refl
    by rest false false p q = rw (p, q) rest

-- the first runs lead where all do
pub any_first : (r : Run) (rs : List Run) → list_any (λ s. leads r s) (firsts rs) ≡ list_any (λ s. leads r s) rs
any_first r [] = refl
any_first r (x ∷ rs) = by (any_first r rs) (leads r x) refl
  where
    by : list_any (λ s. leads r s) (firsts rs) ≡ list_any (λ s. leads r s) rs → (b : Bool) → leads r x ≡ b →
        list_any (λ s. leads r s) (firsts (x ∷ rs)) ≡ list_any (λ s. leads r s) (x ∷ rs)
    by rest true is = rw is refl
    by rest false is = rw is (any_filtered r x (firsts rs) is ∙ rest)

none_kept : (p q : Run → Bool) (fs : List Run) → list_any q fs ≡ false → list_any q (filter p fs) ≡ false
none_kept p q [] none = refl
none_kept p q (f ∷ fs) none = by (none_kept p q fs) (p f) (q f) refl refl none
  where
    by : (list_any q fs ≡ false → list_any q (filter p fs) ≡ false) → (a b : Bool) → p f ≡ a → q f ≡ b → list_any q (f ∷ fs) ≡ false → list_any q (filter p (f ∷ fs)) ≡ false
    by rest a true is at none = absurd (true≢false (sym (rw at refl) ∙ none))
    by rest true false is at none = rw (is, at) (rest (sym (rw at refl) ∙ none))
    by rest false false is at none = rw is (rest (sym (rw at refl) ∙ none))

none_alike : (x : Run) (fs : List Run) → list_any (λ s. leads x s) (filter (λ s. not (leads x s)) fs) ≡ false
none_alike x [] = refl
none_alike x (f ∷ fs) = by (none_alike x fs) (leads x f) refl
  where
    by : list_any (λ s. leads x s) (filter (λ s. not (leads x s)) fs) ≡ false → (b : Bool) → leads x f ≡ b → list_any (λ s. leads x s) (filter (λ s. not (leads x s)) (f ∷ fs)) ≡ false
    by rest true is = rw is rest
    by rest false is = rw (is, is) rest

apart_kept : (p : Run → Bool) (fs : List Run) → AreApart fs → AreApart (filter p fs)
unfolding AreApart
apart_kept p [] apart = tt
apart_kept p (f ∷ fs) apart = by (apart_kept p fs apart.1) (p f) refl
  where
    by : AreApart (filter p fs) → (b : Bool) → p f ≡ b → AreApart (filter p (f ∷ fs))
    by rest true is = rw is (none_kept p (λ s. leads f s) fs apart.0, rest)
    by rest false is = rw is rest

firsts_apart : (rs : List Run) → AreApart (firsts rs)
unfolding AreApart
firsts_apart [] = tt
firsts_apart (r ∷ rs) = (none_alike r (firsts rs), apart_kept (λ s. not (leads r s)) (firsts rs) (firsts_apart rs))

none_counted : (p : Run → Bool) (rs : List Run) → list_any p rs ≡ false → count_by p rs ≡ 0
none_counted p [] none = refl
none_counted p (r ∷ rs) none = by (none_counted p rs) (p r) refl none
  where
    by : (list_any p rs ≡ false → count_by p rs ≡ 0) → (b : Bool) → p r ≡ b → list_any p (r ∷ rs) ≡ false → count_by p (r ∷ rs) ≡ 0
    by rest true is none = absurd (true≢false (sym (rw is refl) ∙ none))
    by rest false is none =
        let all : count_by p (r ∷ rs) ≡ cond (p r) 1 0 + count_by p rs = sum_by-append (λ x. cond (p x) 1 0) (r ∷ []) rs ∙ omega arith in
        all ∙ rw (is, rest (sym (rw is refl) ∙ none)) refl

-- ---- A run more

-- the entries of endings
abbrev pub entries : (Run → Tally) → List Run → List (Parts × Tally)
entries f rs = map (λ r. (r.ending, f r)) rs

-- a run more changes the tally of its ending
module _ (f g : Run → Tally) (r : Run) (one : Tally) (other : (s : Run) → leads s r ≡ false → g s ≡ f s)
    (alike : (s : Run) → leads s r ≡ true → g s ≡ tally_joined (f s) one) where
  -- where it leads to the ending of one, it leads to none of the others
  others_stay : (t : Run) (ts : List Run) → leads r t ≡ true → list_any (λ s. leads t s) ts ≡ false → entries f ts ≡ entries g ts
  others_stay t [] at none = refl
  others_stay t (u ∷ ts) at none = by (others_stay t ts at) (leads t u) refl none
    where
      by : (list_any (λ s. leads t s) ts ≡ false → entries f ts ≡ entries g ts) → (b : Bool) → leads t u ≡ b →
          list_any (λ s. leads t s) (u ∷ ts) ≡ false → entries f (u ∷ ts) ≡ entries g (u ∷ ts)
      by rest true is none = absurd (true≢false (sym (rw is refl) ∙ none))
      by rest false is none =
          let apart : leads u r ≡ false = leads_on r t u at ∙ leads_back u t ∙ is in
          ap (λ w. (u.ending, w) ∷ entries f ts) (sym (other u apart)) ∙ ap (λ es. (u.ending, g u) ∷ es) (rest (sym (rw is refl) ∙ none))

  told_entries : (ts : List Run) → AreApart ts →
      added are_same tally_joined (entries f ts) r.ending one ≡ entries g ts ++ (if list_any (λ s. leads r s) ts then [] else (r.ending, one) ∷ [])
  unfolding AreApart
  told_entries [] apart = refl
  told_entries (t ∷ ts) apart = by (told_entries ts apart.1) (leads t r) refl
    where
      by : added are_same tally_joined (entries f ts) r.ending one ≡ entries g ts ++ (if list_any (λ s. leads r s) ts then [] else (r.ending, one) ∷ []) →
          (b : Bool) → leads t r ≡ b →
          added are_same tally_joined (entries f (t ∷ ts)) r.ending one ≡ entries g (t ∷ ts) ++ (if list_any (λ s. leads r s) (t ∷ ts) then [] else (r.ending, one) ∷ [])
      by rest true is =
          let back : leads r t ≡ true = leads_back r t ∙ is in
          rw (is, back) (ap (λ w. (t.ending, w) ∷ entries f ts) (sym (alike t is))
          ∙ ap (λ es. (t.ending, g t) ∷ es) (others_stay t ts back apart.0 ∙ sym (append-nil (entries g ts))))
      by rest false is =
          let back : leads r t ≡ false = leads_back r t ∙ is in
          rw (is, back) (ap (λ w. (t.ending, w) ∷ added are_same tally_joined (entries f ts) r.ending one) (sym (other t is)) ∙ ap (λ es. (t.ending, g t) ∷ es) rest)

  run_told : (rs : List Run) → (list_any (λ s. leads r s) rs ≡ false → g r ≡ one) →
      added are_same tally_joined (entries f (firsts rs)) r.ending one ≡ entries g (firsts (rs ++ r ∷ []))
  run_told rs first =
      told_entries (firsts rs) (firsts_apart rs)
      ∙ ap (λ b. entries g (firsts rs) ++ (if b then [] else (r.ending, one) ∷ [])) (any_first r rs)
      ∙ ap (λ es. entries g (firsts rs) ++ es) (by (list_any (λ s. leads r s) rs) refl)
      ∙ sym (map-append (λ s. (s.ending, g s)) (firsts rs) (if_first rs r)) ∙ ap (entries g) (sym (firsts-append rs r))
    where
      by : (b : Bool) → list_any (λ s. leads r s) rs ≡ b → (if b then [] else (r.ending, one) ∷ []) ≡ entries g (if b then [] else r ∷ [])
      by true is = refl
      by false is = ap (λ w. (r.ending, w) ∷ []) (sym (first is))

-- ---- Tallies

-- the tally of an ending, of runs and of serial runs
abbrev pub tally : List Run → List Run → Run → Tally
tally rs ss r = record {
  order = r.order;
  orders = kept_number (count_by (λ s. leads r s) rs);
  serial = kept_number (count_by (λ s. leads r s) ss);
}

-- what a run tells
abbrev pub run_tells : Bool → Run → Parts × Tally
run_tells b r = (r.ending, record { order = r.order; orders = if b then 0 else 1; serial = if b then 1 else 0 })

one_more : (n : ℕ) → kept_number (n + 1) ≡ kept_number (kept_number n + 1)
one_more n = omega arith

none_more : (n : ℕ) → kept_number n ≡ kept_number (kept_number n + 0)
none_more n = omega arith

count_other : (g r : Run) (rs : List Run) → leads g r ≡ false → count_by (λ s. leads g s) (rs ++ r ∷ []) ≡ count_by (λ s. leads g s) rs
count_other g r rs apart = count_more (λ s. leads g s) rs r ∙ rw apart (omega arith)

count_alike : (g r : Run) (rs : List Run) → leads g r ≡ true → count_by (λ s. leads g s) (rs ++ r ∷ []) ≡ count_by (λ s. leads g s) rs + 1
count_alike g r rs alike = count_more (λ s. leads g s) rs r ∙ rw alike refl

count_one : (r : Run) (rs : List Run) → list_any (λ s. leads r s) rs ≡ false → count_by (λ s. leads r s) (rs ++ r ∷ []) ≡ 1
count_one r rs none = count_more (λ s. leads r s) rs r ∙ rw (none_counted (λ s. leads r s) rs none, leads_self r) refl

any_both : (p : Run → Bool) (rs ss : List Run) → list_any p (rs ++ ss) ≡ false → (list_any p rs ≡ false) × (list_any p ss ≡ false)
any_both p [] ss none = (refl, none)
any_both p (r ∷ rs) ss none = by (any_both p rs ss) (p r) refl none
  where
    by : (list_any p (rs ++ ss) ≡ false → (list_any p rs ≡ false) × (list_any p ss ≡ false)) → (b : Bool) → p r ≡ b → list_any p ((r ∷ rs) ++ ss) ≡ false →
        (list_any p (r ∷ rs) ≡ false) × (list_any p ss ≡ false)
    by rest true is none = absurd (true≢false (sym (rw is refl) ∙ none))
    by rest false is none = let both = rest (sym (rw is refl) ∙ none) in (rw is both.0, both.1)

orders_told : (us rs : List Run) →
    added_all are_same tally_joined (entries (tally rs []) (firsts rs)) (map (run_tells false) us) ≡ entries (tally (rs ++ us) []) (firsts (rs ++ us))
orders_told [] rs = ap (λ ts. entries (tally ts []) (firsts ts)) (sym (append-nil rs))
orders_told (r ∷ us) rs =
    ap (λ es. added_all are_same tally_joined es (map (run_tells false) us))
    (run_told (tally rs []) (tally (rs ++ r ∷ []) []) r (run_tells false r).1
    (λ s apart i. record { order = s.order; orders = kept_number (count_other s r rs apart i); serial = 0 })
    (λ s alike i. record { order = s.order; orders = (ap kept_number (count_alike s r rs alike) ∙ one_more (count_by (λ t. leads s t) rs)) i; serial = 0 })
    rs
    (λ none i. record { order = r.order; orders = ap kept_number (count_one r rs none) i; serial = 0 }))
    ∙ orders_told us (rs ++ r ∷ []) ∙ ap (λ ts. entries (tally ts []) (firsts ts)) (append_assoc rs (r ∷ []) us)

serial_told : (us rs ss : List Run) →
    added_all are_same tally_joined (entries (tally rs ss) (firsts (rs ++ ss))) (map (run_tells true) us) ≡ entries (tally rs (ss ++ us)) (firsts (rs ++ (ss ++ us)))
serial_told [] rs ss = ap (λ ts. entries (tally rs ts) (firsts (rs ++ ts))) (sym (append-nil ss))
serial_told (r ∷ us) rs ss =
    ap (λ es. added_all are_same tally_joined es (map (run_tells true) us))
    (run_told (tally rs ss) (tally rs (ss ++ r ∷ [])) r (run_tells true r).1
    (λ s apart i. record { order = s.order; orders = kept_number (count_by (λ t. leads s t) rs); serial = kept_number (count_other s r ss apart i) })
    (λ s alike i. record { order = s.order; orders = none_more (count_by (λ t. leads s t) rs) i; serial = (ap kept_number (count_alike s r ss alike) ∙ one_more (count_by (λ t. leads s t) ss)) i })
    (rs ++ ss)
    (λ none i. record {
      order = r.order;
      orders = ap kept_number (none_counted (λ t. leads r t) rs (any_both (λ t. leads r t) rs ss none).0) i;
      serial = ap kept_number (count_one r ss (any_both (λ t. leads r t) rs ss none).1) i;
    })
    ∙ ap (λ ts. entries (tally rs (ss ++ r ∷ [])) (firsts ts)) (append_assoc rs ss (r ∷ [])))
    ∙ serial_told us rs (ss ++ r ∷ []) ∙ ap (λ ts. entries (tally rs ts) (firsts (rs ++ ts))) (append_assoc ss (r ∷ []) us)

endings_joined : (rs ss ts : List Run) → map ending_of (entries (tally rs ss) ts) ≡ map (reported_of_both rs ss) ts
endings_joined rs ss [] = refl
endings_joined rs ss (t ∷ ts) = ap (λ es. reported_of_both rs ss t ∷ es) (endings_joined rs ss ts)

-- what runs tell, and then serial runs, are their endings
pub all_told : (rs ss : List Run) →
    map ending_of (added_all are_same tally_joined (added_all are_same tally_joined [] (map (run_tells false) rs)) (map (run_tells true) ss)) ≡ report_of_both rs ss
all_told rs ss =
    ap (λ es. map ending_of (added_all are_same tally_joined es (map (run_tells true) ss)))
    (orders_told rs [] ∙ ap (λ ts. entries (tally rs []) (firsts ts)) (sym (append-nil rs)))
    ∙ ap (map ending_of) (serial_told ss rs [])
    ∙ endings_joined rs ss (firsts (rs ++ ss))

-- ---- All runs

any_append : (p : Run → Bool) (rs ss : List Run) → list_any p rs ≡ true → list_any p (rs ++ ss) ≡ true
any_append p rs ss is = by (list_any p (rs ++ ss)) refl
  where
    by : (b : Bool) → list_any p (rs ++ ss) ≡ b → b ≡ true
    by true at = refl
    by false at = absurd (true≢false (sym is ∙ (any_both p rs ss at).0))

any_second : (p : Run → Bool) (rs ss : List Run) → list_any p ss ≡ true → list_any p (rs ++ ss) ≡ true
any_second p rs ss is = by (list_any p (rs ++ ss)) refl
  where
    by : (b : Bool) → list_any p (rs ++ ss) ≡ b → b ≡ true
    by true at = refl
    by false at = absurd (true≢false (sym is ∙ (any_both p rs ss at).1))

each_leads : (ps rs : List Run) → Each (λ r. list_any (λ s. leads r s) (ps ++ rs) ≡ true) rs
each_leads ps [] = tt
each_leads ps (r ∷ rs) =
    (any_second (λ s. leads r s) ps (r ∷ rs) here, subst (λ ts. Each (λ u. list_any (λ s. leads u s) ts ≡ true) rs) (append_assoc ps (r ∷ []) rs) (each_leads (ps ++ r ∷ []) rs))
  where
    here : list_any (λ s. leads r s) (r ∷ rs) ≡ true
    here = rw (leads_self r) refl

firsts_same : (us rs : List Run) → Each (λ r. list_any (λ s. leads r s) rs ≡ true) us → firsts (rs ++ us) ≡ firsts rs
firsts_same [] rs all = ap firsts (append-nil rs)
firsts_same (u ∷ us) rs all =
    ap firsts (sym (append_assoc rs (u ∷ []) us))
    ∙ firsts_same us (rs ++ u ∷ []) (more us all.1)
    ∙ firsts-append rs u ∙ ap (λ b. firsts rs ++ (if b then [] else u ∷ [])) all.0 ∙ append-nil (firsts rs)
  where
    more : (ts : List Run) → Each (λ r. list_any (λ s. leads r s) rs ≡ true) ts → Each (λ r. list_any (λ s. leads r s) (rs ++ u ∷ []) ≡ true) ts
    more [] is = tt
    more (t ∷ ts) is = (any_append (λ s. leads t s) rs (u ∷ []) is.0, more ts is.1)

abbrev one_if : Bool → ℕ
one_if b = cond b 1 0

pub count_filter : (p q : Run → Bool) (rs : List Run) → count_by p (filter q rs) ≡ count_by (λ s. p s && q s) rs
count_filter p q [] = refl
count_filter p q (r ∷ rs) = by (count_filter p q rs) (q r) (p r) refl refl
  where
    both : (c : Bool) → p r ≡ c → q r ≡ true → one_if (p r && q r) ≡ one_if (p r)
    both true is at = rw (is, at) refl
    both false is at = rw is refl

    neither : (c : Bool) → p r ≡ c → q r ≡ false → one_if (p r && q r) ≡ 0
    neither true is at = rw (is, at) refl
    neither false is at = rw is refl

    by : count_by p (filter q rs) ≡ count_by (λ s. p s && q s) rs → (b c : Bool) → q r ≡ b → p r ≡ c → count_by p (filter q (r ∷ rs)) ≡ count_by (λ s. p s && q s) (r ∷ rs)
    by rest true c at is =
        let left : count_by p (filter q (r ∷ rs)) ≡ one_if (p r) + count_by p (filter q rs) = rw at (count_first p r (filter q rs)) in
        let right : count_by (λ s. p s && q s) (r ∷ rs) ≡ one_if (p r && q r) + count_by (λ s. p s && q s) rs = count_first (λ s. p s && q s) r rs in
        let same : one_if (p r && q r) ≡ one_if (p r) = both c is at in
        left ∙ ap (λ n. one_if (p r) + n) rest ∙ ap (λ n. n + count_by (λ s. p s && q s) rs) (sym same) ∙ sym right
    by rest false c at is =
        let left : count_by p (filter q (r ∷ rs)) ≡ count_by p (filter q rs) = rw at refl in
        let right : count_by (λ s. p s && q s) (r ∷ rs) ≡ one_if (p r && q r) + count_by (λ s. p s && q s) rs = count_first (λ s. p s && q s) r rs in
        let none : one_if (p r && q r) ≡ 0 = neither c is at in
        omega (arith, left, right, none, rest)

pub count_fewer : (p q : Run → Bool) (rs : List Run) → count_by (λ s. p s && q s) rs ≤ count_by p rs
count_fewer p q [] = omega arith
count_fewer p q (r ∷ rs) = by (count_fewer p q rs) (p r) (q r) refl refl
  where
    by : count_by (λ s. p s && q s) rs ≤ count_by p rs → (b c : Bool) → p r ≡ b → q r ≡ c → count_by (λ s. p s && q s) (r ∷ rs) ≤ count_by p (r ∷ rs)
    by rest true true is at =
        let both : count_by (λ s. p s && q s) (r ∷ rs) ≡ 1 + count_by (λ s. p s && q s) rs = count_first (λ s. p s && q s) r rs ∙ rw (is, at) refl in
        let one : count_by p (r ∷ rs) ≡ 1 + count_by p rs = count_first p r rs ∙ rw is refl in
        omega (arith, rest, both, one)
    by rest true false is at =
        let both : count_by (λ s. p s && q s) (r ∷ rs) ≡ 0 + count_by (λ s. p s && q s) rs = count_first (λ s. p s && q s) r rs ∙ rw (is, at) refl in
        let one : count_by p (r ∷ rs) ≡ 1 + count_by p rs = count_first p r rs ∙ rw is refl in
        omega (arith, rest, both, one)
    by rest false c is at =
        let both : count_by (λ s. p s && q s) (r ∷ rs) ≡ 0 + count_by (λ s. p s && q s) rs = count_first (λ s. p s && q s) r rs ∙ rw is refl in
        let one : count_by p (r ∷ rs) ≡ 0 + count_by p rs = count_first p r rs ∙ rw is refl in
        omega (arith, rest, both, one)

greater : (m n : ℕ) → n ≤ m → max (kept_number m) (kept_number n) ≡ kept_number m
greater m n fewer = omega (arith, fewer)

joined_whole : (rs ts : List Run) → map (reported_of_both rs (filter (λ r. r.is_serial) rs)) ts ≡ map (reported rs) ts
joined_whole rs [] = refl
joined_whole rs (t ∷ ts) = λ i. record {
  order = t.order;
  ending = t.ending;
  orders = (ap (λ n. max (kept_number (count_by (λ s. leads t s) rs)) (kept_number n)) (count_filter (λ s. leads t s) (λ s. s.is_serial) rs)
      ∙ greater (count_by (λ s. leads t s) rs) (count_by (λ s. leads t s && s.is_serial) rs) (count_fewer (λ s. leads t s) (λ s. s.is_serial) rs)) i;
  serial = kept_number (count_filter (λ s. leads t s) (λ s. s.is_serial) rs i);
} ∷ joined_whole rs ts i

-- with all runs and all serial ones it is their report
pub whole_report : (rs : List Run) → report_of_both rs (filter (λ r. r.is_serial) rs) ≡ report rs
whole_report rs =
    ap (map (reported_of_both rs (filter (λ r. r.is_serial) rs)))
    (firsts_same (filter (λ r. r.is_serial) rs) rs (each_filter (λ r. list_any (λ s. leads r s) rs ≡ true) (λ r. r.is_serial) rs (each_leads [] rs)))
    ∙ joined_whole rs (firsts rs)
