use Rattle.std.proofs.Common.{◌∙◌, ap}
use Rattle.cics_enqueue.specs.Kept.{is_units}
use Rattle.cics_enqueue.specs.Table.{given_back}
use Rattle.cics_enqueue.specs.Order.{resource_of}
use Rattle.cics_enqueue.proofs.Tables.{AreOwned-passed}
use Rattle.cics_enqueue.proofs.enqueues.Enqueues.let_go_key.Goals as goal

pub invariant_of-self : goal.invariant_of-self
invariant_of-self c =
    let kept = c.lessen.ensures.kept c.self.inside.owned.entries c.self.invariant in
    record {
      keys = kept.keys;
      in_order = kept.in_order;
      owned = AreOwned-passed c.args.key.now c.lessen.new.table.entries c.self.inside.owned.entries c.remove.new.owned.entries c.args.unit (ap (is_units c.args.unit) (c.lessen.ensures.freed c.if-lessen.true)) c.remove.ensures kept.owned;
    }

pub invariant_of-self-else-lessen : goal.invariant_of-self-else-lessen
invariant_of-self-else-lessen c = c.lessen.ensures.kept c.self.inside.owned.entries c.self.invariant

pub returns-then-lessen : goal.returns-then-lessen
returns-then-lessen c = c.lessen.ensures.given c.self.inside.owned.entries c.self.invariant ∙ ap (λ t. given_back t (resource_of c.args.key.now) c.args.unit) c.self.view_is

pub returns-else-lessen : goal.returns-else-lessen
returns-else-lessen c = c.lessen.ensures.given c.self.inside.owned.entries c.self.invariant ∙ ap (λ t. given_back t (resource_of c.args.key.now) c.args.unit) c.self.view_is
