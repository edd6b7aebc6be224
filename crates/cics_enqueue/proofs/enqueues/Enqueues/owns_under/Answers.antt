use Rattle.std.proofs.Common.{◌≡◌, ◌∙◌, ◌&&◌, ap, sym, subst, None, Some, [], nat_eq}
use Rattle.std.specs.List.{list_any}
use Rattle.std.specs.Map.{lookup}
use Rattle.std.specs.Option.{option_copied}
use Rattle.std.proofs.lemmas.List.Folds.{Any-from_list_any}
use Rattle.cics_names.specs.Keyed.{is_same}
use Rattle.cics_history.specs.Resources.{bytes_of}
use Rattle.cics_history.specs.declared.resources.Resource.TheVariants.{FilePrefix}
use Rattle.cics_enqueue.specs.Kept.{has_in, is_units}
use Rattle.cics_enqueue.specs.Under.{OwnsOver, is_over}
use Rattle.cics_enqueue.proofs.OwnedUnder.{is_held_over, owns_if_key, key_if_owns}
use Rattle.cics_enqueue.proofs.enqueues.Enqueues.owns_under.Goals as goal

pub returns-in_default : goal.returns-in_default
returns-in_default c =
    let own = c.self.inside.owned.entries in
    let none : lookup (nat_eq c.args.unit) own ≡ None = sym c.get.ensures.value ∙ ap option_copied c.in_default.is in (
      λ e. cc,
      λ o. key_if_owns c.args.file (bytes_of c.args.prefix.now) c.self.inside.table.entries own c.self.invariant c.args.unit
          (subst (λ t. OwnsOver t (FilePrefix c.args.file (bytes_of c.args.prefix.now)) c.args.unit) (sym c.self.view_is) o) []
          (λ key its. sym (ap (λ keys. has_in keys key) none) ∙ c.self.invariant.owned c.args.unit key its),
    )

pub returns : goal.returns
returns c =
    let f = c.args.file in
    let p = bytes_of c.args.prefix.now in
    let u = c.args.unit in
    let es = c.self.inside.table.entries in
    let own = c.self.inside.owned.entries in
    let kept = c.self.invariant in
    let keys = c.in-Some.keys.now in
    let there : lookup (nat_eq u) own ≡ Some keys = sym c.get.ensures.value ∙ ap option_copied c.in-Some.is in
    let is : c.has_over.result ≡ list_any (is_held_over f p es own kept u) keys.items = c.has_over.ensures
    ∙ (λ i. list_any (λ key. is_over ((c.as_slice.ensures.value ∙ c.file_bytes-start.ensures.value) i) ((c.as_slice-2.ensures.value ∙ c.file_bytes-prefix.ensures.value) i) key
    && is_units u (lookup (is_same key) es)) (c.as_slice-3.ensures.value i)) in (
      λ e.
          let (k, key, within, at, passes) = Any-from_list_any (is_held_over f p es own kept u) keys.items (sym is ∙ e) in
          subst (λ t. OwnsOver t (FilePrefix f p) u) c.self.view_is (owns_if_key f p es own kept u key passes),
      λ o. is ∙ key_if_owns f p es own kept u (subst (λ t. OwnsOver t (FilePrefix f p) u) (sym c.self.view_is) o) keys.items
          (λ key its. sym (ap (λ l. has_in l key) there) ∙ kept.owned u key its),
    )
