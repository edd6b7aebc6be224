use Rattle.std.proofs.Common.{◌≡◌, map, rules, ◌∙◌, ap, [], ◌∷◌}
use Rattle.std.proofs.lemmas.List.{map-append}
use Rattle.std.specs.Map.Iter.{deref_pair}
use Rattle.std.proofs.lemmas.Map.Iter.{iter_end}
use Rattle.cics_units.specs.Opening.RegionFiles.{refilled}
use Rattle.cics_units.proofs.OfOpening.Refilled.{refilled-rising, refilled-more}
use Rattle.cics_units.proofs.opening.queues.Queues.copy.Goals as goal

pub loop-name-preserved : goal.loop-name-preserved
loop-name-preserved c =
    rw (map-append deref_pair c.loop-name.yielded ((c.in-Some.name, c.in-Some.original) ∷ []))
    (refilled-more _ _ (map deref_pair c.loop-name.yielded) _ _ _ c.in_ok-insert.ensures.queues c.in_ok-copy.ensures c.loop-name.invariant)

pub returns : goal.returns
returns c =
    let all : map deref_pair c.loop-name.yielded ≡ c.self.inside.rows.entries = search (rules, iter_end) in
    c.loop-name.invariant ∙ ap refilled all ∙ refilled-rising c.self.inside.rows.entries c.self.invariant ∙ c.self.view_is
