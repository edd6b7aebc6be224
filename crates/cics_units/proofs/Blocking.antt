-- What a unit owns that a command uses, by the table of enqueues.
use Rattle.std.proofs.Common.{◌≡◌, ℕ, Bool, true, Option, Some, None, refl, sym, ap, subst, ◌∙◌}
use Rattle.std.specs.Bool.{IsTrue}
use Rattle.std.specs.Prelude.{◌↔◌}
use Rattle.std.specs.List.{list_any}
use Rattle.std.proofs.lemmas.Bool.{eqb-true, eq-eqb, false≢true}
use Rattle.std.proofs.lemmas.List.Folds.{Any-from_list_any, list_any-from_Any}
use Rattle.cics_names.specs.Keyed.{Bytes}
use Rattle.cics_history.specs.declared.resources.Resource.{Resource}
use Rattle.cics_history.specs.declared.resources.Resource.TheVariants.{FileKey, FilePrefix, TsQueue, TdRead, TdWrite, User}
use Rattle.cics_history.specs.Resources.{is_one}
use Rattle.cics_history.specs.ResourceLaws.{is_one-self, is_one-eq, same_test}
use Rattle.cics_history.specs.State.{UnitsState}
use Rattle.cics_history.specs.Holding.{conflicts, held_by}
use Rattle.cics_enqueue.specs.Table.{Table, holder_of}
use Rattle.cics_enqueue.specs.Under.{OwnsOver}
use Rattle.cics_units.specs.TableInPlace.{IsTableOf, is_holder}
use Rattle.cics_units.specs.Blocking.{owns_over}

-- only an end itself conflicts with it
reading_one : (q : Bytes) (s : Resource) → conflicts (TdRead q) s ≡ is_one (TdRead q) s
reading_one q (TdRead r) = refl
reading_one q (FileKey f k) = refl
reading_one q (FilePrefix f k) = refl
reading_one q (TsQueue r) = refl
reading_one q (TdWrite r) = refl
reading_one q (User v) = refl

writing_one : (q : Bytes) (s : Resource) → conflicts (TdWrite q) s ≡ is_one (TdWrite q) s
writing_one q (TdWrite r) = refl
writing_one q (FileKey f k) = refl
writing_one q (FilePrefix f k) = refl
writing_one q (TsQueue r) = refl
writing_one q (TdRead r) = refl
writing_one q (User v) = refl

module _ (s : UnitsState) (t : Table) (k : IsTableOf s t) (u : ℕ) where
  -- a unit owns an end if the table says so
  pub owns_reading_by : (q : Bytes) → owns_over s u (TdRead q) ≡ is_holder u (holder_of (TdRead q) t)
  owns_reading_by q = (λ i. list_any (λ r. reading_one q r i) (held_by s u)) ∙ k.holders (TdRead q) u

  pub owns_writing_by : (q : Bytes) → owns_over s u (TdWrite q) ≡ is_holder u (holder_of (TdWrite q) t)
  owns_writing_by q = (λ i. list_any (λ r. writing_one q r i) (held_by s u)) ∙ k.holders (TdWrite q) u

  holder_if : (o : Option ℕ) → is_holder u o ≡ true → o ≡ Some u
  holder_if None is = absurd (false≢true is)
  holder_if (Some v) is = ap Some (eqb-true v u is)

  if_holder : (o : Option ℕ) → o ≡ Some u → is_holder u o ≡ true
  if_holder None is = cc
  if_holder (Some v) is = let same : v ≡ u = cc in eq-eqb v u same

  -- it owns what conflicts with a resource if it owns such a resource in the table
  pub owns_over_by : (r : Resource) (b : Bool) → (IsTrue b ↔ OwnsOver t r u) → b ≡ owns_over s u r
  owns_over_by r b is = same_test b (owns_over s u r)
      (λ e.
      let o = is.0 e in
      let its : list_any (is_one o.owned) (held_by s u) ≡ true = k.holders o.owned u ∙ if_holder (holder_of o.owned t) o.holder in
      let (i, q, within, at, same) = Any-from_list_any (is_one o.owned) (held_by s u) its in
      list_any-from_Any (conflicts r) (held_by s u) (i, q, within, at, subst (λ x. conflicts r x ≡ true) (is_one-eq o.owned q same) o.meets))
      (λ e.
      let (i, q, within, at, meets) = Any-from_list_any (conflicts r) (held_by s u) e in
      let its : list_any (is_one q) (held_by s u) ≡ true = list_any-from_Any (is_one q) (held_by s u) (i, q, within, at, is_one-self q) in
      is.1 (record { owned = q; meets = meets; holder = holder_if (holder_of q t) (sym (k.holders q u) ∙ its) }))
