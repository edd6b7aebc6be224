use Rattle.std.proofs.Common.{◌≡◌, ◌∙◌, sym, ap}
use Rattle.cics_enqueue.specs.Borrowed.{named}
use Rattle.cics_enqueue.specs.Kept.{table_of}
use Rattle.cics_enqueue.specs.FreedomLaws.{free_if_none, free_where_none}
use Rattle.cics_enqueue.specs.Table.{holder_of, holder_over, other_than}
use Rattle.cics_enqueue.proofs.Least.{least_if_some, none_alone}
use Rattle.cics_enqueue.proofs.Tables.{in_order}
use Rattle.cics_enqueue.proofs.Seeking.{alone-table_of, holder_over-plain}
use Rattle.cics_enqueue.proofs.enqueues.Enqueues.holder_over.Goals as goal

pub returns-in-FilePrefix-clause-free : goal.returns-in-FilePrefix-clause-free
returns-in-FilePrefix-clause-free c = free_if_none _ c.args.self.now c.args.resource.now c.args.but_not
    (c.held_with_prefix.ensures.value ∙ ap (λ k. holder_over (named k) c.args.but_not c.args.self.now) (sym c.in-FilePrefix.is)
    ∙ ap (λ r. holder_over r c.args.but_not c.args.self.now) c.resource.view_is)

pub returns-in-FileKey : goal.returns-in-FileKey
returns-in-FileKey c =
    let value : c.holder_of_key.result ≡ holder_over c.args.resource.now c.args.but_not c.args.self.now = c.holder_of_key.ensures ∙ ap (λ k. holder_over (named k) c.args.but_not c.args.self.now) (sym c.in-FileKey.is)
    ∙ ap (λ r. holder_over r c.args.but_not c.args.self.now) c.resource.view_is in
    record { value = value; free = free_if_none _ _ c.args.resource.now _ value; least = least_if_some _ _ c.args.resource.now _ (in_order c.self.view_is c.self.invariant) value }

pub returns-in_default : goal.returns-in_default
returns-in_default c =
    let value : c.other_of.result ≡ holder_over c.args.resource.now c.args.but_not c.args.self.now = c.other_of.ensures
    ∙ ap (λ r. other_than c.args.but_not (holder_of r c.args.self.now)) (sym c.resource.view_is)
    ∙ sym (holder_over-plain c.resource.inside.kind c.args.but_not _ c.in_default.not-FileKey c.in_default.not-FilePrefix)
    ∙ ap (λ r. holder_over r c.args.but_not c.args.self.now) c.resource.view_is in
    record { value = value; free = free_if_none _ _ c.args.resource.now _ value; least = least_if_some _ _ c.args.resource.now _ (in_order c.self.view_is c.self.invariant) value }

pub returns-in-FilePrefix-clause-least : goal.returns-in-FilePrefix-clause-least
returns-in-FilePrefix-clause-least c = least_if_some _ c.args.self.now c.args.resource.now c.args.but_not (in_order c.self.view_is c.self.invariant)
    (c.held_with_prefix.ensures.value ∙ ap (λ k. holder_over (named k) c.args.but_not c.args.self.now) (sym c.in-FilePrefix.is)
    ∙ ap (λ r. holder_over r c.args.but_not c.args.self.now) c.resource.view_is)

-- if no other unit owns anything, none is a blocker
pub returns-then-is_alone-clause-value : goal.returns-then-is_alone-clause-value
returns-then-is_alone-clause-value c =
    rw (← c.self.view_is) (none_alone (table_of c.self.inside.table.entries) c.args.resource.now c.args.but_not c.self.invariant.in_order
    (alone-table_of c.self.inside.table.entries c.self.inside.owned.entries c.args.but_not c.self.invariant c.if-is_alone.ensures))

pub returns-then-is_alone-clause-free : goal.returns-then-is_alone-clause-free
returns-then-is_alone-clause-free c = free_where_none c.args.self.now c.args.resource.now c.args.but_not (sym (returns-then-is_alone-clause-value c))
