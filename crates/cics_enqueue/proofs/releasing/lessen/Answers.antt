use Rattle.std.proofs.Common.{◌≡◌, ◌∙◌, ◌-◌, ◌==◌, sym, ap, subst, refl, true, false, Some, None, arith}
use Rattle.std.specs.Prelude.{IsSome, nat_lt}
use Rattle.std.specs.Option.{option_copied, option_copied_mut}
use Rattle.std.specs.Map.{lookup}
use Rattle.std.proofs.lemmas.Bool.{not-true, not-false, lt-ltb, le-ltb, eqb-true}
use Rattle.cics_enqueue.specs.declared.enqueues.Holding.{Holding}
use Rattle.cics_names.specs.Keyed.{is_same}
use Rattle.cics_enqueue.specs.Kept.{table_of}
use Rattle.cics_enqueue.specs.Table.{with_holder}
use Rattle.cics_enqueue.specs.Order.{resource_of}
use Rattle.cics_enqueue.proofs.Tables.{table_of-written, table_of-removed, given_back-free, given_back-foreign, given_back-once, given_back-last, IsKept-written, IsKept-removed}
use Rattle.cics_enqueue.proofs.releasing.lessen.Goals as goal

pub returns-in_default-clause-given : goal.returns-in_default-clause-given
returns-in_default-clause-given c = λ own kept.
    let key = c.args.key.now in
    let absent : lookup (is_same key) c.args.table.now.entries ≡ None = sym c.get.ensures.value ∙ ap option_copied c.in_default.is in
    sym (given_back-free (resource_of key) key (sym c.requires.key) c.args.table.now.entries kept.keys absent c.args.unit)

pub returns-then-ne-clause-given : goal.returns-then-ne-clause-given
returns-then-ne-clause-given c = λ own kept.
    let key = c.args.key.now in
    let found : lookup (is_same key) c.args.table.now.entries ≡ Some c.in-Some.holding.now = sym c.get.ensures.value ∙ ap option_copied c.in-Some.is in
    sym (given_back-foreign (resource_of key) key (sym c.requires.key) c.args.table.now.entries kept.keys c.in-Some.holding.now found c.args.unit (not-true _ (sym c.ne.ensures ∙ c.if-ne.true)))

pub returns-then-holding-gt1-clause-kept : goal.returns-then-holding-gt1-clause-kept
returns-then-holding-gt1-clause-kept c = λ own kept.
    let key = c.args.key.now in
    let es = c.args.table.now.entries in
    let v = c.in-Some-get_mut.holding.now in
    let w : Holding = record { unit = v.unit; count = v.count - 1 } in
    let found : lookup (is_same key) es ≡ Some v = sym c.get_mut.ensures.value ∙ ap option_copied_mut c.in-Some-get_mut.is in
    IsKept-written (resource_of key) key (sym c.requires.key) es kept.keys own kept v w (c.get_mut.follows.lender w).entries (c.get_mut.follows.holds w).0 found refl ((c.get_mut.follows.holds w).3 (subst IsSome (sym found) refl)).0

pub returns-then-holding-gt1-clause-given : goal.returns-then-holding-gt1-clause-given
returns-then-holding-gt1-clause-given c = λ own kept.
    let es = c.args.table.now.entries in
    let r = resource_of c.args.key.now in
    let key = c.args.key.now in
    let is = sym c.requires.key in
    let v = c.in-Some-get_mut.holding.now in
    let w : Holding = record { unit = v.unit; count = v.count - 1 } in
    let found : lookup (is_same key) es ≡ Some v = sym c.get_mut.ensures.value ∙ ap option_copied_mut c.in-Some-get_mut.is in
    let full : lookup (is_same key) es ≡ Some c.in-Some.holding.now = sym c.get.ensures.value ∙ ap option_copied c.in-Some.is in
    let some : Some v ≡ Some c.in-Some.holding.now = sym found ∙ full in
    let one : v ≡ c.in-Some.holding.now = cc in
    let mine : (v.unit == c.args.unit) ≡ true = ap (λ x. x.unit == c.args.unit) one ∙ not-false _ (sym c.ne.ensures ∙ c.if-ne.false) in
    let more : nat_lt 1 v.count ≡ true = lt-ltb 1 v.count (let count : v.count ≡ c.in-Some.holding.now.count = ap (λ x. x.count) one in omega (arith, c.if-holding-gt1.true)) in
    (ap table_of (c.get_mut.follows.holds w).0 ∙ table_of-written r key is v w es kept.keys kept.in_order found
    ∙ ap (λ u. with_holder (table_of es) r u (v.count - 1)) (eqb-true v.unit c.args.unit mine) ∙ sym (given_back-once r key is es kept.keys v found c.args.unit mine more))

pub returns-clause-kept : goal.returns-clause-kept
returns-clause-kept c = λ own kept.
    IsKept-removed (resource_of c.args.key.now) c.args.key.now (sym c.requires.key) c.args.table.now.entries kept.keys own kept c.args.unit c.remove.new.self.entries own c.remove.ensures.entries c.remove.ensures.updates.0 (λ u k other had. had)

pub returns-clause-given : goal.returns-clause-given
returns-clause-given c = λ own kept.
    let es = c.args.table.now.entries in
    let r = resource_of c.args.key.now in
    let key = c.args.key.now in
    let is = sym c.requires.key in
    let v = c.in-Some.holding.now in
    let found : lookup (is_same key) es ≡ Some v = sym c.get.ensures.value ∙ ap option_copied c.in-Some.is in
    let mine : (v.unit == c.args.unit) ≡ true = not-false _ (sym c.ne.ensures ∙ c.if-ne.false) in
    let last : nat_lt 1 v.count ≡ false = le-ltb 1 v.count (omega (arith, c.if-holding-gt1.false)) in
    (ap table_of c.remove.ensures.entries ∙ table_of-removed r key is es kept.keys kept.in_order ∙ sym (given_back-last r key is es kept.keys v found c.args.unit mine last))

-- what was found is found again
