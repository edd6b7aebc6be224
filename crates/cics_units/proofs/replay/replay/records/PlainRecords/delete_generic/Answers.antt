use Rattle.std.proofs.Common.{◌≡◌, [], ◌+◌, true, Option, Some, IfSome, IfNone, length, sym, ap, subst, ◌∙◌, arith}
use Rattle.std.specs.Prelude.{if◌then◌else◌, is_some}
use Rattle.cics_names.specs.Keyed.{Bytes, Map, has_key}
use Rattle.cics_ksds.specs.Prefixes.{has_prefix, under, outside}
use Rattle.cics_units.proofs.OfReplay.Plain.{remove_entry-without, removed-rising, beside_all}
use Rattle.cics_units.proofs.OfReplay.Under.{looked_up_there, outside_without}
use Rattle.cics_units.proofs.replay.replay.records.PlainRecords.delete_generic.Goals as goal

-- a key that is found begins with the prefix, and has a record
under_and_there : (p : Bytes) (m : Map Bytes) → {o : Option Bytes} → {key : Bytes} → o ≡ Some key →
    IfSome o (λ k. (has_prefix p k ≡ true) × (has_key k m ≡ true)) → (has_prefix p key ≡ true) × (has_key key m ≡ true)
under_and_there p m is found = subst (λ (o : Option Bytes). IfSome o (λ k. (has_prefix p k ≡ true) × (has_key k m ≡ true))) is found

pub invariant_of-self : goal.invariant_of-self
invariant_of-self c = removed-rising c.in-Some.key c.self.inside.rows.entries c.remove.new.self.entries c.self.invariant c.remove.ensures.entries

pub loop-key-smaller : goal.loop-key-smaller
loop-key-smaller c =
    let es = c.self.inside.rows.entries in
    let found = under_and_there c.args.prefix.now c.loop-key.self c.in-Some.is c.in_ok-key.ensures.found in
    let there : is_some c.remove.result ≡ true = ap is_some c.remove.ensures.value ∙ looked_up_there c.in-Some.key es c.loop-key.self c.self.view_is found.1 in
    let fewer : length c.remove.new.self.entries + 1 ≡ length c.loop-key.self =
    ap (λ b. length c.remove.new.self.entries + (if b then 1 else 0)) (sym there) ∙ c.remove.ensures.len ∙ ap length c.self.view_is in
    omega (arith, fewer)

pub loop-key-preserved : goal.loop-key-preserved
loop-key-preserved c =
    let p = c.args.prefix.now in
    let es = c.self.inside.rows.entries in
    let found = under_and_there p c.loop-key.self c.in-Some.is c.in_ok-key.ensures.found in
    ap (outside p) (c.remove.ensures.entries ∙ remove_entry-without c.in-Some.key es c.self.invariant)
    ∙ outside_without p c.in-Some.key found.0 es
    ∙ ap (outside p) c.self.view_is
    ∙ c.loop-key.invariant

pub returns : goal.returns
returns c =
    let none : under c.args.prefix.now c.loop-key.self ≡ [] = subst (λ (o : Option Bytes). IfNone o (under c.args.prefix.now c.loop-key.self ≡ [])) c.in_default.is c.in_ok-key.ensures.none in
    sym (beside_all c.args.prefix.now c.loop-key.self none) ∙ c.loop-key.invariant
