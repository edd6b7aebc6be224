use Rattle.std.proofs.Common.{◌≡◌, ◌∙◌, sym, ap, subst, refl, Some, None, cond, T}
use Rattle.std.specs.Prelude.{IfNone, option_map}
use Rattle.std.specs.Map.{lookup, remove_entry}
use Rattle.cics_names.specs.Keyed.{Bytes, is_same}
use Rattle.cics_enqueue.specs.declared.enqueues.Holding.{Holding}
use Rattle.cics_enqueue.specs.Kept.{table_of, seen, AreKeys, AreOwned, PutsNew}
use Rattle.cics_enqueue.specs.Table.{held_at, taken, is_in_order}
use Rattle.cics_enqueue.specs.Order.{resource_of}
use Rattle.cics_enqueue.proofs.Owning.{none_from}
use Rattle.cics_enqueue.proofs.Tables.{ok_holds, err_holds, insert_undone, held_at-table_of, free_here, taken-new, IsKept-added}
use Rattle.cics_enqueue.proofs.enqueues.Enqueues.take_free.Goals as goal

pub returns-then-is_some-clause-held : goal.returns-then-is_some-clause-held
returns-then-is_some-clause-held c =
    let key = c.args.key.now in
    let es = c.self.inside.table.entries in
    ap (option_map seen) (c.in_ok-held.ensures.held ∙ ap (λ b. lookup (is_same b) es) c.in_ok-kept.ensures) ∙ sym (held_at-table_of (resource_of key) key (sym c.requires.key) es c.self.invariant.keys) ∙ ap (held_at (resource_of key)) c.self.view_is

-- if the unit's list has no room, the entry is removed again
pub invariant_of-self-then-is_err : goal.invariant_of-self-then-is_err
invariant_of-self-then-is_err c =
    let es = c.self.inside.table.entries in
    let h : Holding = record { unit = c.args.unit; count = 1 } in
    let none = none_from _ (sym c.is_some.ensures ∙ c.if-is_some.false) in
    let put : PutsNew c.in_ok-kept.kept h es c.put_first.new.table.entries = subst (λ o. IfNone o (PutsNew c.in_ok-kept.kept h es c.put_first.new.table.entries)) none c.in_ok-held.ensures.put in
    let stays : c.remove.new.self.entries ≡ es = c.remove.ensures.entries ∙ (λ i. remove_entry (is_same (sym c.in_ok-kept.ensures i)) (put.0 i)) ∙ insert_undone es c.in_ok-kept.kept h (sym c.in_ok-held.ensures.held ∙ none) in
    let same = err_holds c.add.result (sym c.is_err.ensures.value ∙ c.if-is_err.true) c.add.ensures.err in
    record {
      keys = subst AreKeys (sym stays) c.self.invariant.keys;
      in_order = subst (λ es. T (is_in_order (table_of es))) (sym stays) c.self.invariant.in_order;
      owned = subst (λ es. AreOwned es c.add.new.owned.entries) (sym stays) (λ u k held. same u k ∙ c.self.invariant.owned u k held);
    }

pub returns-then-is_err-clause-err : goal.returns-then-is_err-clause-err
returns-then-is_err-clause-err c =
    let es = c.self.inside.table.entries in
    let h : Holding = record { unit = c.args.unit; count = 1 } in
    let none = none_from _ (sym c.is_some.ensures ∙ c.if-is_some.false) in
    let put : PutsNew c.in_ok-kept.kept h es c.put_first.new.table.entries = subst (λ o. IfNone o (PutsNew c.in_ok-kept.kept h es c.put_first.new.table.entries)) none c.in_ok-held.ensures.put in
    let stays : c.remove.new.self.entries ≡ es = c.remove.ensures.entries ∙ (λ i. remove_entry (is_same (sym c.in_ok-kept.ensures i)) (put.0 i)) ∙ insert_undone es c.in_ok-kept.kept h (sym c.in_ok-held.ensures.held ∙ none) in
    ap table_of stays ∙ c.self.view_is

pub invariant_of-self-else-is_err : goal.invariant_of-self-else-is_err
invariant_of-self-else-is_err c =
    let key = c.args.key.now in
    let es = c.self.inside.table.entries in
    let h : Holding = record { unit = c.args.unit; count = 1 } in
    let none = none_from _ (sym c.is_some.ensures ∙ c.if-is_some.false) in
    let put : PutsNew c.in_ok-kept.kept h es c.put_first.new.table.entries = subst (λ o. IfNone o (PutsNew c.in_ok-kept.kept h es c.put_first.new.table.entries)) none c.in_ok-held.ensures.put in
    IsKept-added (resource_of key) key (sym c.requires.key) es c.self.invariant.keys c.self.inside.owned.entries c.self.invariant c.in_ok-kept.kept h c.put_first.new.table.entries c.add.new.owned.entries c.in_ok-kept.ensures
    put.0 (subst (λ b. (k : Bytes) → lookup (is_same k) c.put_first.new.table.entries ≡ cond (is_same b k) (Some h) (lookup (is_same k) es)) c.in_ok-kept.ensures put.1)
    (ok_holds c.add.result (sym c.is_err.ensures.value ∙ c.if-is_err.false) c.add.ensures.added)

pub returns-clause-held : goal.returns-clause-held
returns-clause-held c =
    let key = c.args.key.now in
    let es = c.self.inside.table.entries in
    let none = none_from _ (sym c.is_some.ensures ∙ c.if-is_some.false) in
    let absent : lookup (is_same key) es ≡ None = ap (λ b. lookup (is_same b) es) (sym c.in_ok-kept.ensures) ∙ sym c.in_ok-held.ensures.held ∙ none in
    sym (ap (held_at (resource_of key)) (sym c.self.view_is) ∙ free_here (resource_of key) key (sym c.requires.key) es c.self.invariant.keys absent)

pub returns-clause-table : goal.returns-clause-table
returns-clause-table c =
    let key = c.args.key.now in
    let r = resource_of key in
    let es = c.self.inside.table.entries in
    let h : Holding = record { unit = c.args.unit; count = 1 } in
    let none = none_from _ (sym c.is_some.ensures ∙ c.if-is_some.false) in
    let put : PutsNew c.in_ok-kept.kept h es c.put_first.new.table.entries = subst (λ o. IfNone o (PutsNew c.in_ok-kept.kept h es c.put_first.new.table.entries)) none c.in_ok-held.ensures.put in
    let absent : lookup (is_same key) es ≡ None = ap (λ b. lookup (is_same b) es) (sym c.in_ok-kept.ensures) ∙ sym c.in_ok-held.ensures.held ∙ none in
    ap table_of put.0 ∙ taken-new r key (sym c.requires.key) es c.self.invariant.keys absent c.in_ok-kept.kept h c.in_ok-kept.ensures refl ∙ ap (λ t. taken t r c.args.unit) c.self.view_is
