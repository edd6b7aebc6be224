use Rattle.std.proofs.Common.{◌≡◌, ◌∙◌, ◌++◌, sym, ap, subst, append-nil}
use Rattle.std.specs.Prelude.{All, map}
use Rattle.std.proofs.lemmas.List.{at_drop_all}
use Rattle.cics_dispatch.specs.Deadlocks.Searches.{circles as found}
use Rattle.cics_dispatch.specs.Deadlocks.Deadlocks.{labels_of, deadlocks, IsDeadlock, IsTold}
use Rattle.cics_dispatch.proofs.OfDeadlocks.Told.{told_each, told_all}
use Rattle.cics_dispatch.proofs.deadlocks.waiting.deadlocks.Goals as goal

pub returns : goal.returns
returns c =
    let m = c.args.region.now.machine in
    let all = c.loop-circle.all in
    let circles = c.as_slice-circle-items.result.now in
    let are : all ≡ deadlocks m =
    sym (append-nil all) ∙ ap (λ rest. all ++ rest) (sym (at_drop_all (map (labels_of m)) circles c.loop-circle.circle-index c.loop-circle-test.false))
    ∙ c.loop-circle.invariant ∙ ap (map (labels_of m)) (c.as_slice-circle-items.ensures ∙ c.in_ok-circles.ensures ∙ ap found (c.as_slice.ensures ∙ c.in_ok-waits.ensures)) in
    record {
      deadlocks = are;
      each = subst (All (IsDeadlock m)) (sym are) (told_each m);
      all = λ task l. subst (λ labels. IsTold m labels task) (sym are) (told_all m task l);
    }
