use Rattle.std.proofs.Common.{◌≡◌, ◌∙◌, ◌+◌, Option, Some, None, cond, refl, sym, ap, subst, arith}
use Rattle.std.specs.Prelude.{IsSome, is_some, option_map, if◌then◌else◌}
use Rattle.std.specs.Map.{lookup}
use Rattle.std.specs.Option.{option_copied_mut}
use Rattle.std.proofs.lemmas.Bool.{not-false, eqb-true}
use Rattle.cics_names.specs.Keyed.{is_same}
use Rattle.cics_enqueue.specs.declared.enqueues.Holding.{Holding}
use Rattle.cics_enqueue.specs.Kept.{seen, table_of}
use Rattle.cics_enqueue.specs.Table.{held_at, taken}
use Rattle.cics_enqueue.specs.Order.{resource_of}
use Rattle.cics_enqueue.proofs.Tables.{held_at-table_of, taken-raised, IsKept-written}
use Rattle.cics_enqueue.proofs.enqueues.Enqueues.enq_key.Goals as goal
use Rattle.cics_enqueue.proofs.enqueues.Enqueues.enq_key.Goals.{After-get_mut}

pub take_free-requires : goal.take_free-requires
take_free-requires c = record { key = c.requires.key }

-- the table is as it was
view : (c : After-get_mut) → table_of c.self.inside.table.entries ≡ c.args.self.now
view c = c.self.view_is ∙ c.in_ok-held.ensures.table ∙ ap (λ o. if is_some o then c.args.self.now else taken c.args.self.now (resource_of c.args.key.now) c.args.unit) c.in-Some.is

-- what is found is what was found before
same : (c : After-get_mut) (o : Option Holding) → lookup (is_same c.args.key.now) c.self.inside.table.entries ≡ o → option_map seen o ≡ Some (seen c.in-Some.held)
same c o found =
    let r = resource_of c.args.key.now in
    ap (option_map seen) (sym found) ∙ sym (held_at-table_of r c.args.key.now (sym c.requires.key) c.self.inside.table.entries c.self.invariant.keys)
    ∙ ap (held_at r) (view c) ∙ sym c.in_ok-held.ensures.held ∙ ap (option_map seen) c.in-Some.is

found : (c : After-get_mut) (o : Option Holding) → option_copied_mut c.get_mut.result ≡ o → lookup (is_same c.args.key.now) c.self.inside.table.entries ≡ o
found c o is = sym c.get_mut.ensures.value ∙ is

pub unreachable-requires : goal.unreachable-requires
unreachable-requires c =
    let here = (goal.at.unreachable-requires c).After-get_mut in
    let wrong : option_map seen None ≡ Some (seen c.in-Some.held) = same here None (found here None (ap option_copied_mut c.in_default-get_mut.is)) in cc

pub overflow_add-holding : goal.overflow_add-holding
overflow_add-holding c =
    let here = (goal.at.overflow_add-holding c).After-get_mut in
    let v = c.in-Some-get_mut.holding.now in
    let some : option_map seen (Some v) ≡ Some (seen c.in-Some.held) = same here (Some v) (found here (Some v) (ap option_copied_mut c.in-Some-get_mut.is)) in
    let one : seen v ≡ seen c.in-Some.held = cc in
    let count : v.count ≡ c.in-Some.held.count = ap (λ h. h.count) one in
    omega (arith, count, c.if-held.false)

pub invariant_of-self : goal.invariant_of-self
invariant_of-self c =
    let here = (goal.at.invariant_of-self c).After-get_mut in
    let key = c.args.key.now in
    let v = c.in-Some-get_mut.holding.now in
    let w : Holding = record { unit = v.unit; count = v.count + 1 } in
    let at = found here (Some v) (ap option_copied_mut c.in-Some-get_mut.is) in
    IsKept-written (resource_of key) key (sym c.requires.key) c.self.inside.table.entries c.self.invariant.keys c.self.inside.owned.entries c.self.invariant
    v w (c.get_mut.follows.lender w).entries (c.get_mut.follows.holds w).0 at refl ((c.get_mut.follows.holds w).3 (subst IsSome (sym at) refl)).0

pub returns-clause-taken : goal.returns-clause-taken
returns-clause-taken c =
    let here = (goal.at.returns-clause-taken c).After-get_mut in
    let key = c.args.key.now in
    let r = resource_of key in
    let v = c.in-Some-get_mut.holding.now in
    let w : Holding = record { unit = v.unit; count = v.count + 1 } in
    let at = found here (Some v) (ap option_copied_mut c.in-Some-get_mut.is) in
    let some : option_map seen (Some v) ≡ Some (seen c.in-Some.held) = same here (Some v) at in
    let one : seen v ≡ seen c.in-Some.held = cc in
    let mine : v.unit ≡ c.args.unit = ap (λ h. h.unit) one ∙ eqb-true c.in-Some.held.unit c.args.unit (not-false _ (sym c.ne.ensures ∙ c.if-ne.false)) in
    ap table_of (c.get_mut.follows.holds w).0
    ∙ taken-raised r key (sym c.requires.key) c.self.inside.table.entries c.self.invariant.keys v at c.args.unit w c.self.invariant.in_order refl mine (ap (λ b. cond b (v.count + 1) v.count) (sym c.requires.user))
    ∙ ap (λ t. taken t r c.args.unit) (view here)
