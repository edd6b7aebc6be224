use Rattle.std.proofs.Common.{◌≡◌, ◌∙◌, sym, ap, subst, refl, Some, nat_eq}
use Rattle.std.specs.Prelude.{IsSome}
use Rattle.std.specs.Map.{lookup}
use Rattle.std.specs.Option.{option_copied_mut}
use Rattle.cics_enqueue.specs.Kept.{Drops}
use Rattle.cics_enqueue.proofs.Owning.{owns-dropped}
use Rattle.cics_enqueue.proofs.owned.remove.Goals as goal

pub returns-in-Some : goal.returns-in-Some
returns-in-Some c =
    let there : lookup (nat_eq c.args.unit) c.args.owned.now.entries ≡ Some c.in-Some.keys.now = sym c.get_mut.ensures.value ∙ ap option_copied_mut c.in-Some.is in
    owns-dropped _ _ c.args.unit c.drop_last.new.keys ((c.get_mut.follows.holds c.drop_last.new.keys).3 (subst IsSome (sym there) refl)).0 c.in-Some.keys.now there c.args.key.now c.drop_last.ensures

pub returns-in_default : goal.returns-in_default
returns-in_default c = subst (λ m. Drops c.args.unit c.args.key.now c.args.owned.now.entries m.entries) (sym c.get_mut.follows.holds-at-none) (λ u k other had. had)
