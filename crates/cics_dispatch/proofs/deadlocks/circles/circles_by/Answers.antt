use Rattle.std.proofs.Common.{◌≡◌, ◌∙◌, ◌&&◌, ◌++◌, ◌∷◌, [], cond, sym, ap, length, arith}
use Rattle.cics_dispatch.specs.Deadlocks.Searches.{is_first, circles_below, way_back, way_among}
use Rattle.cics_dispatch.specs.Deadlocks.Marks.{is_least_by}
use Rattle.cics_dispatch.proofs.OfDeadlocks.Marked.{sizes_many, more_sizes}
use Rattle.cics_dispatch.proofs.OfDeadlocks.Firsts.{first_by_sizes, more_circles}
use Rattle.cics_dispatch.proofs.deadlocks.circles.circles_by.Goals as goal
use Rattle.cics_dispatch.proofs.deadlocks.circles.circles_by.Goals.{then-is_first+in_ok-way_back+in_ok-push, else-is_first}

pub is_first-requires : goal.is_first-requires
is_first-requires c =
    let many = sizes_many c.args.graph.now c.loop-first.first in
    let same = ap length (c.as_slice-in-loop-first.ensures.value ∙ c.loop-first.invariant.sizes) in
    omega (arith, many, same)

pub loop-first-preserved : goal.loop-first-preserved
loop-first-preserved c =
    let g = c.args.graph.now in
    let first = c.loop-first.first in
    let told : c.is_first.result ≡ is_first g first = c.is_first.ensures
    ∙ (λ i. c.in_ok-is_back.ensures.back i && is_least_by ((c.as_slice-in-loop-first.ensures.value ∙ c.loop-first.invariant.sizes) i) first ((c.as_slice.ensures.value ∙ c.in_ok-is_back.ensures.found) i))
    ∙ first_by_sizes g first in
    record {
      circles = elim c.if-is_first.branch [
        | then-is_first+in_ok-way_back+in_ok-push w ↦ w.all-is ∙ w.in_ok-push.ensures.ok
            ∙ (λ i. c.loop-first.invariant.circles i ++ (w.in_ok-way_back.ensures ∙ ap (λ found. way_among found first) (w.as_slice-then-is_first.ensures.value ∙ c.in_ok-is_back.ensures.found)) i ∷ [])
            ∙ sym (more_circles g first ∙ ap (λ t. cond t (circles_below g first ++ way_back g first ∷ []) (circles_below g first)) (sym told ∙ w.if-is_first.true))
        | else-is_first w ↦ w.all-is ∙ c.loop-first.invariant.circles
            ∙ sym (more_circles g first ∙ ap (λ t. cond t (circles_below g first ++ way_back g first ∷ []) (circles_below g first)) (sym told ∙ w.if-is_first.false))
      ];
      sizes = c.in_ok-push-2.ensures.items ∙ (λ i. c.loop-first.invariant.sizes i ++ (c.len.ensures ∙ sym c.as_slice.ensures.len ∙ ap length (c.as_slice.ensures.value ∙ c.in_ok-is_back.ensures.found)) i ∷ []) ∙ sym (more_sizes g first);
      len = omega arith;
      most = c.in_ok-is_back.ensures.most;
    }
