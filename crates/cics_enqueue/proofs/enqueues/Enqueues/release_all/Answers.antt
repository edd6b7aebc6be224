use Rattle.std.proofs.Common.{◌∙◌, sym, ap, Some}
use Rattle.cics_enqueue.specs.Kept.{table_of}
use Rattle.cics_enqueue.specs.Table.{released}
use Rattle.cics_enqueue.proofs.Seeking.{alone-table_of}
use Rattle.cics_enqueue.proofs.TableLaws.{released-alone}
use Rattle.cics_enqueue.proofs.Tables.{released-let_go, released-nothing, IsKept-let_go, IsKept-emptied, IsKept-ended}
use Rattle.cics_enqueue.proofs.enqueues.Enqueues.release_all.Goals as goal

pub loop-key-preserved : goal.loop-key-preserved
loop-key-preserved c =
    let es = c.loop-key.self-inside.table.entries in
    let own = c.loop-key.self-inside.owned.entries in
    let kept = c.loop-key.invariant.kept in
    let key = c.in-Some.key in
    record {
      kept = IsKept-let_go key es own c.args.unit c.free_key.new.table.entries c.pop.new.owned.entries c.free_key.ensures.entries c.free_key.ensures.each c.in-Some.ensures.taken kept;
      rest = ap (λ fs. released (table_of fs) c.args.unit) c.free_key.ensures.entries ∙ released-let_go es key c.args.unit kept.keys kept.in_order ∙ c.loop-key.invariant.rest;
    }

pub invariant_of-self : goal.invariant_of-self
invariant_of-self c = IsKept-emptied c.clear.new.self.entries c.swap_remove.new.self.entries c.clear.ensures.empty

pub invariant_of-self-2 : goal.invariant_of-self-2
invariant_of-self-2 c =
    IsKept-ended c.loop-key.self-inside.table.entries c.loop-key.self-inside.owned.entries c.pop.new.owned.entries c.swap_remove-2.new.self.entries c.args.unit c.in_default.ensures.none c.in_default.ensures.stays c.swap_remove-2.ensures.updates.0
    c.loop-key.invariant.kept

pub returns : goal.returns
returns c =
    sym (released-nothing c.loop-key.self-inside.table.entries c.loop-key.self-inside.owned.entries c.args.unit c.loop-key.invariant.kept c.in_default.ensures.none) ∙ c.loop-key.invariant.rest

pub returns-then-is_alone : goal.returns-then-is_alone
returns-then-is_alone c =
    let es = c.self.inside.table.entries in
    rw (← c.self.view_is) (ap table_of c.clear.ensures.empty
    ∙ sym (released-alone (table_of es) c.args.unit c.self.invariant.in_order (alone-table_of es c.self.inside.owned.entries (Some c.args.unit) c.self.invariant c.if-is_alone.ensures)))
