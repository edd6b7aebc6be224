use Rattle.std.proofs.Common.{◌≡◌, ◌∙◌, ◌∷◌, ◌++◌, [], length, sym, ap, Some, None, Option, ℕ, refl}
use Rattle.std.specs.Map.{lookup}
use Rattle.cics_names.specs.Keyed.{is_same}
use Rattle.cics_enqueue.specs.Kept.{others_unit}
use Rattle.cics_enqueue.specs.Table.{first_of, resource_key}
use Rattle.cics_enqueue.proofs.Seeking.{first_cover-none}
use Rattle.cics_enqueue.proofs.conflicts.Search.key_holder.Goals as goal

-- if no prefix is owned, only the key can be
pub returns-then-not-has_prefixes : goal.returns-then-not-has_prefixes
returns-then-not-has_prefixes c =
    let es = c.args.self.now.table.now.entries in
    let asker = c.args.self.now.asker in
    let f = c.args.file in
    let k = c.args.key.now in
    let none = c.if-not-has_prefixes.ensures in
    c.other_unit-holder.ensures ∙ ap (others_unit asker) c.held-held_key.ensures ∙ ap (λ r. others_unit asker (lookup (is_same (resource_key r)) es)) c.record.ensures
    ∙ alone (others_unit asker (lookup (is_same (1 ∷ length f ∷ (f ++ k))) es))
    ∙ sym (λ i. first_of (first_cover-none asker es none k (length f ∷ (f ++ [])) i) (first_of (others_unit asker (lookup (is_same (1 ∷ length f ∷ (f ++ k))) es)) (others_unit asker (none (length f ∷ (f ++ k)) i))))
  where
    alone : (o : Option ℕ) → o ≡ first_of None (first_of o None)
    alone None = refl
    alone (Some x) = refl
