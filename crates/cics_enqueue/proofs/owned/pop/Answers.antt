use Rattle.std.proofs.Common.{◌≡◌, ◌∙◌, sym, ap, subst, refl, Some, nat_eq}
use Rattle.std.specs.Prelude.{IsSome}
use Rattle.std.specs.Map.{lookup}
use Rattle.std.specs.Option.{option_copied_mut}
use Rattle.cics_enqueue.proofs.Owning.{drops_if_some, owns-popped}
use Rattle.cics_enqueue.proofs.owned.pop.Goals as goal

pub returns-clause-taken : goal.returns-clause-taken
returns-clause-taken c =
    let there : lookup (nat_eq c.args.unit) c.args.owned.now.entries ≡ Some c.in_ok-get_mut.field-0.now = sym c.get_mut.ensures.value ∙ ap option_copied_mut c.in_ok-get_mut.was in
    drops_if_some _ _ c.args.unit c.pop.new.self ((c.get_mut.follows.holds c.pop.new.self).3 (subst IsSome (sym there) refl)).0 c.in_ok-get_mut.field-0.now there c.pop.result c.pop.ensures.items

pub returns-clause-stays : goal.returns-clause-stays
returns-clause-stays c =
    let there : lookup (nat_eq c.args.unit) c.args.owned.now.entries ≡ Some c.in_ok-get_mut.field-0.now = sym c.get_mut.ensures.value ∙ ap option_copied_mut c.in_ok-get_mut.was in
    owns-popped _ _ c.args.unit c.pop.new.self ((c.get_mut.follows.holds c.pop.new.self).3 (subst IsSome (sym there) refl)).0 c.in_ok-get_mut.field-0.now there c.pop.result c.pop.ensures.items
