use Rattle.std.proofs.Common.{true, cond, ◌≡◌, ◌∙◌, sym, ap, subst, refl, Some, None, nat_eq, [], ◌∷◌, ◌++◌}
use Rattle.std.specs.Prelude.{IsSome}
use Rattle.std.specs.Map.{lookup}
use Rattle.std.specs.Option.{option_copied_mut}
use Rattle.std.specs.List.{list_any}
use Rattle.cics_names.specs.Keyed.{Bytes, is_same}
use Rattle.cics_enqueue.specs.Kept.{Adds}
use Rattle.cics_enqueue.proofs.Owning.{owns-same, owns-added, has_pushed, on_err_anyway}
use Rattle.cics_enqueue.proofs.owned.add.Goals as goal

pub returns-in_err-push-clause-err : goal.returns-in_err-push-clause-err
returns-in_err-push-clause-err c =
    let there : lookup (nat_eq c.args.unit) c.args.owned.now.entries ≡ Some c.in-Some.keys.now = sym c.get_mut.ensures.value ∙ ap option_copied_mut c.in-Some.is in
    on_err_anyway c.from_residual-in_err-push.result (owns-same _ _ c.args.unit c.push.new.self ((c.get_mut.follows.holds c.push.new.self).3 (subst IsSome (sym there) refl)).0 c.in-Some.keys.now there c.in_err-push.ensures.items)

pub returns-in-Some-clause-added : goal.returns-in-Some-clause-added
returns-in-Some-clause-added c =
    let there : lookup (nat_eq c.args.unit) c.args.owned.now.entries ≡ Some c.in-Some.keys.now = sym c.get_mut.ensures.value ∙ ap option_copied_mut c.in-Some.is in
    owns-added _ _ c.args.unit c.push.new.self ((c.get_mut.follows.holds c.push.new.self).3 (subst IsSome (sym there) refl)).0 (Some c.in-Some.keys.now) there c.args.key.now
    (subst (λ b. (k : Bytes) → cond (is_same b k) true (list_any (is_same k) c.in-Some.keys.now.items) ≡ true → list_any (is_same k) c.push.new.self.items ≡ true) c.in_ok-key.ensures
    (has_pushed c.in-Some.keys.now.items c.push.new.self.items c.in_ok-key.key c.in_ok-push.ensures.items))

-- the unit's first key
pub returns-clause-added : goal.returns-clause-added
returns-clause-added c =
    let same = c.get_mut.follows.holds-at-none in
    let absent : lookup (nat_eq c.args.unit) c.get_mut.follows.lender-at-none.entries ≡ None = ap (λ m. lookup (nat_eq c.args.unit) m.entries) same ∙ sym c.get_mut.ensures.value ∙ ap option_copied_mut c.in_default.is in
    subst (λ m. Adds c.args.unit c.args.key.now m.entries c.insert.new.self.entries) same (
    owns-added _ _ c.args.unit c.push-2.new.self c.in_ok-insert.ensures.updates.0 None absent c.args.key.now
    (subst (λ b. (k : Bytes) → cond (is_same b k) true (list_any (is_same k) []) ≡ true → list_any (is_same k) c.push-2.new.self.items ≡ true) c.in_ok-key.ensures
    (has_pushed [] c.push-2.new.self.items c.in_ok-key.key (c.in_ok-push-2.ensures.items ∙ ap (λ ks. ks ++ c.in_ok-key.key ∷ []) c.new-keys.ensures.items))))
