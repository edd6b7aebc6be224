use Rattle.std.proofs.Common.{◌≡◌, ◌<◌, ◌+◌, ◌-◌, ◌∙◌, refl, sym, ap, suc, length, arith, Some, None}
use Rattle.std.specs.Prelude.{slice_get}
use Rattle.std.proofs.lemmas.Bool.{ltb-true}
use Rattle.std.proofs.lemmas.Option.{slice_get_past, slice_get_read}
use Rattle.cics_dispatch.specs.Deadlocks.Searches.{has_found, with_steps}
use Rattle.cics_dispatch.proofs.OfDeadlocks.Marked.{stopped, advanced}
use Rattle.cics_dispatch.proofs.deadlocks.searches.search.Goals as goal

pub returns-in_default-clause-found : goal.returns-in_default-clause-found
returns-in_default-clause-found c =
    let g = c.args.graph.now in
    let n = (length g + 1) - c.loop-at.at in
    let none : slice_get c.loop-at.found.items c.loop-at.at ≡ None = ap (λ l. slice_get l c.loop-at.at) (sym c.deref.ensures.value) ∙ slice_get_past c.deref.result.now c.loop-at.at c.in_default.ensures.lookup.3 in
    sym (stopped g n c.loop-at.at c.loop-at.found.items none) ∙ c.loop-at.invariant.rest

pub returns-in_default-clause-back : goal.returns-in_default-clause-back
returns-in_default-clause-back c =
    let inside : c.args.first < length c.loop-at.marks = omega arith in
    c.loop-at.invariant.marks.same c.args.first inside ∙ ap (λ found. has_found found c.args.first) (returns-in_default-clause-found c)

pub loop-at-preserved : goal.loop-at-preserved
loop-at-preserved c =
    let g = c.args.graph.now in
    let at = c.loop-at.at in
    let f = c.in-Some.reached.now in
    let more : (length g + 1) - at ≡ suc ((length g + 1) - (at + 1)) = omega arith in
    let there : slice_get c.loop-at.found.items at ≡ Some f = ap (λ l. slice_get l at) (sym c.deref.ensures.value)
    ∙ slice_get_read c.deref.result.now (length c.deref.result.now) at f refl (ltb-true at (length c.deref.result.now) (sym c.in-Some.ensures.lookup.0)) c.in-Some.ensures.lookup.1 in
    let same : length c.loop-at.marks ≡ length g = omega arith in
    record {
      rest = advanced g ((length g + 1) - at) ((length g + 1) - (at + 1)) at c.loop-at.found.items c.add_steps.new.found.items f more there
          (c.in_ok-add_steps.ensures.found ∙ (λ i. with_steps (same i) at c.loop-at.found.items (c.steps.ensures i)))
          ∙ c.loop-at.invariant.rest;
      marks = c.in_ok-add_steps.ensures.marks;
    }
