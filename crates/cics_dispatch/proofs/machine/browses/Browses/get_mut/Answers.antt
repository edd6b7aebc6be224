use Rattle.std.proofs.Common.{◌∙◌, ap, subst, sym, refl}
use Rattle.std.specs.Prelude.{T}
use Rattle.std.specs.Option.{option_copied_mut}
use Rattle.cics_names.specs.Keyed.{is_rising}
use Rattle.cics_history.proofs.Entries.{value_at-looked_up}
use Rattle.cics_dispatch.proofs.OfMachine.Browsing.{is-moved, moved-rising}
use Rattle.cics_dispatch.proofs.machine.browses.Browses.get_mut.Goals as goal

pub invariant_of-self-lent : goal.invariant_of-self-lent
invariant_of-self-lent c = λ _. (
  λ p. moved-rising c.args.file.now c.self.inside.rows.entries c.args.self.now c.self.invariant c.self.view_is (option_copied_mut c.get_mut.result) c.get_mut.ensures.value p
      _ (c.get_mut.follows.holds p).0,
  subst (λ rows. T (is_rising rows.entries)) (sym c.get_mut.follows.holds-at-none) c.self.invariant,
)

pub returns : goal.returns
returns c = (
  (
    refl,
    λ p. is-moved c.args.file.now c.self.inside.rows.entries c.args.self.now c.self.invariant c.self.view_is (option_copied_mut c.get_mut.result) c.get_mut.ensures.value p _ (c.get_mut.follows.holds p).0,
    ap (λ rows. rows.entries) c.get_mut.follows.holds-at-none ∙ c.self.view_is,
  ),
  record { writes_back = tt; browse = sym (value_at-looked_up c.args.file.now c.self.inside.rows.entries c.args.self.now (option_copied_mut c.get_mut.result) c.get_mut.ensures.value c.self.view_is) },
)
