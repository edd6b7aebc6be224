use Rattle.std.proofs.Common.{◌≡◌, ◌∙◌, ◌-◌, length, sym, ap, Some, false, true}
use Rattle.std.specs.Prelude.{slice_get}
use Rattle.std.specs.Option.{option_copied}
use Rattle.cics_names.specs.KeyedLaws.{pointwise-is_same}
use Rattle.cics_enqueue.proofs.Owning.{has_dropped}
use Rattle.cics_enqueue.proofs.owned.drop_last.Goals as goal
use Rattle.cics_enqueue.proofs.owned.drop_last.Goals.{in-Some, in-None}

pub returns-then-is_last : goal.returns-then-is_last
returns-then-is_last c = elim c.match-last.branch [
  | in-Some w ↦
      let last : slice_get c.args.keys.now.items (length c.args.keys.now.items - 1) ≡ Some w.in-Some.last.now = (λ i. slice_get (sym c.deref.ensures.value i) (length (sym c.deref.ensures.value i) - 1)) ∙ sym c.last.ensures.value ∙ ap option_copied w.in-Some.is in
      has_dropped _ _ c.pop.result c.pop.ensures.items w.in-Some.last.now last c.args.key.now (
      sym (pointwise-is_same w.in-Some.last.now c.args.key.now) ∙ sym w.eq-is_last.ensures ∙ sym w.is_last-is ∙ c.if-is_last.true)
  | in-None w ↦ let wrong : false ≡ true = sym w.is_last-is ∙ c.if-is_last.true in cc
]
