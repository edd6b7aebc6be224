use Rattle.std.proofs.Common.{◌≡◌, List, [], get_or, ap, sym, map, ◌++◌, append-nil, ◌∙◌}
use Rattle.std.specs.List.{fold, flat_map, AllByRecursion}
use Rattle.std.specs.declared.ops.Bound.TheVariants.{Included}
use Rattle.std.specs.Map.{lookup}
use Rattle.std.specs.Map.Iter.{deref_pair}
use Rattle.std.specs.BTreeMap.{is_at}
use Rattle.std.specs.BTreeMap.Range.{entries_between}
use Rattle.std.proofs.lemmas.List.Elements.{recursion_from_All}
use Rattle.std.specs.Ordering.{is_gt}
use Rattle.cics_run.specs.declared.reads.found.Seen.{Seen}
use Rattle.cics_run.specs.Reads.Past.{cell_cmp, marks_of}
use Rattle.cics_run.specs.Reads.Findings.{with_seen}
use Rattle.cics_run.specs.Reads.Seeing.{shown}
use Rattle.cics_run.proofs.OfReads.Keeping.{cells_ordered}
use Rattle.cics_run.proofs.OfReads.Seeing.{IsKept, seen_between, none_seen, given}
use Rattle.cics_run.proofs.reads.past.Past.see.Goals as goal

pub returns-then-is_gt : goal.returns-then-is_gt
returns-then-is_gt c =
    c.new-found.ensures.empty
    ∙ sym (ap (fold with_seen []) (none_seen c.args.self.now c.args.look.now c.args.low.now c.args.high.now c.requires (sym (c.is_gt.ensures ∙ ap is_gt (c.cmp.ensures ∙ (λ i. cells_ordered i c.args.low.now c.args.high.now))) ∙ c.if-is_gt.true)))

pub returns : goal.returns
returns c =
    let now = c.args.self.now in
    let r = c.range-cell-items.result in
    let passed : map deref_pair c.loop-cell.yielded ≡ r =
    sym (sym c.into_iter-cell-iterator.ensures.into_iter_gives ∙ given deref_pair _ c.loop-cell.yielded c.loop-cell.cell-iterator c.loop-cell.yielded_by
    ∙ ap (λ t. map deref_pair c.loop-cell.yielded ++ t) c.in-None.ensures.steps.0 ∙ append-nil (map deref_pair c.loop-cell.yielded)) in
    let same : c.self.inside.kept.marks.entries ≡ marks_of now = c.self.invariant.by_cell ∙ ap marks_of c.self.view_is in
    let there : r ≡ entries_between cell_cmp (Included c.args.low.now) (Included c.args.high.now) (marks_of now) =
    c.range-cell-items.ensures.between tt ∙ (λ i. entries_between (cells_ordered i) (Included (c.new.ensures.start i).now) (Included (c.new.ensures.end i).now) (same i)) in
    let kept : AllByRecursion (IsKept now) r =
    recursion_from_All (IsKept now) r (λ k d h. sym (λ i. lookup (is_at (cells_ordered i (get_or r k d).0)) (same i)) ∙ ((c.range-cell-items.ensures.in_range tt).0 k d h).1) in
    c.loop-cell.invariant ∙ ap (λ (l : List Seen). fold with_seen [] l) (ap (flat_map (shown now c.args.look.now)) passed ∙ seen_between now c.args.look.now c.args.low.now c.args.high.now c.requires r there kept)
