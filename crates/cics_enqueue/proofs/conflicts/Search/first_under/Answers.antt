use Rattle.std.proofs.Common.{[], ◌∷◌, ◌≡◌, ◌∙◌, ◌&&◌, refl, sym, ap, subst, true, false, Some}
use Rattle.std.specs.Option.{option_map}
use Rattle.std.specs.Ordering.{is_lt, is_some_and}
use Rattle.std.specs.Cmp.Lexicographic.{lists_agrees}
use Rattle.cics_names.specs.Keyed.{Bytes, bytes_cmp}
use Rattle.cics_enqueue.specs.declared.enqueues.Holding.{Holding}
use Rattle.cics_enqueue.specs.Kept.{Entries, first_entry, first_shown, is_others_under, bytes_and_unit}
use Rattle.std.specs.Prelude.{length, Result, Ok, Err, OnOk, OnErr}
use Rattle.cics_ksds.specs.Prefixes.{has_prefix}
use Rattle.cics_history.specs.Holding.{is_other}
use Rattle.cics_history.specs.ResourceLaws.{has_prefix-self}
use Rattle.cics_enqueue.proofs.Seeking.{Rises, rises_sorted, Rises-filter, first_entry-filter, first_entry-here, first_entry-past, first_entry-passed, before_bound, never}
use Rattle.cics_enqueue.proofs.conflicts.Search.first_under.Goals as goal

-- the look-up begins at the bytes, or where there are none
bound_at : {X E : Type 0} (r : Result X E) (b start : Bytes) → OnOk r (b ≡ start) → OnErr r (b ≡ []) → has_prefix b start ≡ true
bound_at (Ok x) b start is err = ap (λ k. has_prefix k start) is ∙ has_prefix-self start
bound_at (Err e) b start ok none = ap (λ k. has_prefix k start) none

pub loop-key-init : goal.loop-key-init
loop-key-init c =
    let es = c.args.self.now.table.now.entries in
    let it = c.into_iter-key-iterator.ensures.into_iter_gives ∙ c.range-key-items.ensures.between tt in
    record {
      can = tt;
      finite = tt;
      rises = subst Rises (sym it) (Rises-filter _ es (rises_sorted es c.range-key-items.ensures.ordered));
      rest = ap (first_entry (is_others_under c.args.start.now c.args.self.now.asker)) it
          ∙ first_entry-filter _ (is_others_under c.args.start.now c.args.self.now.asker) (before_bound c.set.new.self c.args.start.now c.args.self.now.asker (bound_at c.set.result c.set.new.self c.args.start.now c.set.ensures.set c.set.ensures.err)) es;
    }

pub returns-then-is_another : goal.returns-then-is_another
returns-then-is_another c =
    let start = c.args.start.now in
    let e : Bytes × Holding = (c.in-Some.key.now, c.in-Some.holding.now) in
    let test = is_others_under start c.args.self.now.asker in
    let begins : has_prefix start c.as_slice-key.result.now ≡ true = sym c.starts_with.ensures.value ∙ c.if-starts_with.true in
    let passes : test e ≡ true = (λ i. has_prefix start (sym c.as_slice-key.ensures i) && is_other c.args.self.now.asker e.1.unit) ∙ (λ i. begins i && (sym c.is_another-is_another.ensures ∙ c.if-is_another.true) i) in
    ap (λ b. Some (b, e.1.unit)) c.as_slice-key.ensures
    ∙ sym (ap (option_map bytes_and_unit) (sym c.loop-key.invariant.rest ∙ ap (first_entry test) c.in-Some.ensures.steps ∙ first_entry-here test e c.next.new.self passes))

pub loop-key-preserved-else-is_another : goal.loop-key-preserved-else-is_another
loop-key-preserved-else-is_another c =
    let start = c.args.start.now in
    let e : Bytes × Holding = (c.in-Some.key.now, c.in-Some.holding.now) in
    let test = is_others_under start c.args.self.now.asker in
    let fails : test e ≡ false = ap (λ b. has_prefix start e.0 && b) (sym c.is_another-is_another.ensures ∙ c.if-is_another.false) ∙ never (has_prefix start e.0) in
    record {
      can = tt;
      finite = tt;
      rises = (subst Rises c.in-Some.ensures.steps c.loop-key.invariant.rises).1;
      rest = sym (first_entry-past test e c.next.new.self fails) ∙ sym (ap (first_entry test) c.in-Some.ensures.steps) ∙ c.loop-key.invariant.rest;
    }

pub returns-then-lt : goal.returns-then-lt
returns-then-lt c =
    let start = c.args.start.now in
    let e : Bytes × Holding = (c.in-Some.key.now, c.in-Some.holding.now) in
    let test = is_others_under start c.args.self.now.asker in
    let begins : has_prefix start e.0 ≡ false = ap (has_prefix start) (sym c.as_slice-key.ensures) ∙ sym c.starts_with.ensures.value ∙ c.if-starts_with.false in
    let fails : test e ≡ false = ap (λ b. b && is_other c.args.self.now.asker e.1.unit) begins in
    let above : is_lt (bytes_cmp start e.0) ≡ true = ap (λ b. is_lt (bytes_cmp start b)) (sym c.as_slice-key.ensures) ∙ sym (ap (is_some_and is_lt) (lists_agrees (λ x y. refl) start c.as_slice-key.result.now)) ∙ sym c.lt.ensures ∙ c.if-lt.true in
    sym (ap (option_map bytes_and_unit) (sym c.loop-key.invariant.rest ∙ ap (first_entry test) c.in-Some.ensures.steps ∙ first_entry-past test e c.next.new.self fails
    ∙ first_entry-passed start e.0 c.args.self.now.asker c.next.new.self above begins (subst Rises c.in-Some.ensures.steps c.loop-key.invariant.rises).0))

pub loop-key-preserved : goal.loop-key-preserved
loop-key-preserved c =
    let start = c.args.start.now in
    let e : Bytes × Holding = (c.in-Some.key.now, c.in-Some.holding.now) in
    let test = is_others_under start c.args.self.now.asker in
    let begins : has_prefix start e.0 ≡ false = ap (has_prefix start) (sym c.as_slice-key.ensures) ∙ sym c.starts_with.ensures.value ∙ c.if-starts_with.false in
    let fails : test e ≡ false = ap (λ b. b && is_other c.args.self.now.asker e.1.unit) begins in
    record {
      can = tt;
      finite = tt;
      rises = (subst Rises c.in-Some.ensures.steps c.loop-key.invariant.rises).1;
      rest = sym (first_entry-past test e c.next.new.self fails) ∙ sym (ap (first_entry test) c.in-Some.ensures.steps) ∙ c.loop-key.invariant.rest;
    }

pub returns : goal.returns
returns c = sym (ap (option_map bytes_and_unit) (sym c.loop-key.invariant.rest ∙ ap (first_entry (is_others_under c.args.start.now c.args.self.now.asker)) c.in-None.ensures.steps.0))

pub returns-then-is_empty : goal.returns-then-is_empty
returns-then-is_empty c = sym (ap (λ es. first_shown c.args.start.now c.args.self.now.asker es) (none c.args.self.now.table.now.entries (c.is_empty.ensures.0 c.if-is_empty.true)))
  where
    none : (es : Entries) → length es ≡ 0 → es ≡ []
    none [] is = refl
    none (e ∷ es) is = cc
