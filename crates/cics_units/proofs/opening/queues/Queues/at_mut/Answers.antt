use Rattle.std.proofs.Common.{◌≡◌, ◌∙◌, ap, subst, sym, refl, Some, T}
use Rattle.std.specs.Map.{lookup}
use Rattle.std.specs.BTreeMap.{is_at}
use Rattle.std.specs.Option.{option_copied_mut}
use Rattle.cics_names.specs.Keyed.{bytes_cmp, is_rising}
use Rattle.cics_units.proofs.OfOpening.Changing.{is_lent, there, changed, still_rising}
use Rattle.cics_units.proofs.opening.queues.Queues.at_mut.Goals as goal

pub unwrap-requires : goal.unwrap-requires
unwrap-requires c = is_lent c.args.name.now c.self.inside.rows.entries c.args.self.now c.get_mut.result c.get_mut.ensures.value c.self.view_is c.requires

pub invariant_of-self-lent : goal.invariant_of-self-lent
invariant_of-self-lent c = λ w. still_rising c.args.name.now w c.self.inside.rows.entries _ (c.get_mut.follows.holds w).0 c.self.invariant

pub returns : goal.returns
returns c =
    let name = c.args.name.now in
    let es = c.self.inside.rows.entries in
    let found : Some c.unwrap.result.now ≡ lookup (is_at (bytes_cmp name)) es = ap option_copied_mut (sym c.unwrap.ensures) ∙ c.get_mut.ensures.value in (
      (refl, λ w. changed name es c.args.self.now c.unwrap.result.now c.self.invariant found c.self.view_is w _ (c.get_mut.follows.holds w).0),
      record {
        writes_back = tt;
        value = there name es c.args.self.now c.unwrap.result.now c.self.invariant found c.self.view_is;
        in_order = subst (λ m. T (is_rising m)) c.self.view_is c.self.invariant;
      },
    )
