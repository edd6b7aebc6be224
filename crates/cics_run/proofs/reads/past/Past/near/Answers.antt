use Rattle.std.proofs.Common.{◌≡◌, ℕ, Option, ap, sym, subst, reverse, ◌∙◌}
use Rattle.std.specs.List.{find}
use Rattle.std.specs.Map.{lookup}
use Rattle.std.specs.BTreeMap.{is_at}
use Rattle.cics_run.specs.Reads.Touches.{touched_cmp, points_of, spans_of, numbers_at, covers_at, newer, there, IsNumbered}
use Rattle.cics_run.proofs.OfReads.Touching.{touched_ordered, near_known}
use Rattle.cics_run.proofs.reads.past.Past.near.Goals as goal

pub returns-in-Some : goal.returns-in-Some
returns-in-Some c =
    let now = c.args.self.now in
    let t = c.args.at.now in
    let point : c.copied-point.result ≡ lookup (is_at (touched_cmp t)) (points_of now) =
    c.copied-point.ensures ∙ c.get.ensures.value ∙ (λ i. lookup (is_at (touched_ordered i t)) ((c.self.invariant.by_point ∙ ap points_of c.self.view_is) i)) in
    c.step.ensures ∙ ap (there (reverse now)) (sym c.in-Some.is ∙ c.newer.ensures ∙ (λ i. newer (point i) (c.span.ensures i)))
    ∙ near_known t now (subst IsNumbered c.self.view_is c.self.invariant.numbered)

pub returns-in-None : goal.returns-in-None
returns-in-None c =
    let now = c.args.self.now in
    let t = c.args.at.now in
    let point : c.copied-point.result ≡ lookup (is_at (touched_cmp t)) (points_of now) =
    c.copied-point.ensures ∙ c.get.ensures.value ∙ (λ i. lookup (is_at (touched_ordered i t)) ((c.self.invariant.by_point ∙ ap points_of c.self.view_is) i)) in
    ap (there (reverse now)) (sym c.in-None.is ∙ c.newer.ensures ∙ (λ i. newer (point i) (c.span.ensures i)))
    ∙ near_known t now (subst IsNumbered c.self.view_is c.self.invariant.numbered)
