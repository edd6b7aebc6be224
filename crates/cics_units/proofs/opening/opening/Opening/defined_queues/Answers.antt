use Rattle.std.proofs.Common.{◌≡◌, ◌∙◌, ap, refl, rules, List, [], ◌∷◌, map}
use Rattle.std.specs.Map.Iter.{deref_pair}
use Rattle.std.proofs.lemmas.Map.Iter.{iter_end}
use Rattle.cics_names.specs.Keyed.{Bytes, Map}
use Rattle.cics_transdata.specs.Trans.{TransState, queue_of}
use Rattle.cics_transdata.specs.declared.queues.Recovery.{Recovery}
use Rattle.cics_history.specs.State.{QueueOpening}
use Rattle.cics_units.specs.Opening.RegionQueues.{opened_queues}
use Rattle.cics_units.proofs.opening.opening.Opening.defined_queues.Goals as goal

-- queues as they are listed
abbrev listed : Map TransState → List (Bytes × Recovery × List Bytes)
listed queues = map (λ e. (e.0, e.1.kind, queue_of e.1)) queues

-- the queues that an opening gives are listed as it defines them
listed-opened : (queues : Map QueueOpening) → listed (opened_queues queues) ≡ map (λ e. (e.0, e.1.recovery, e.1.records)) queues
listed-opened [] = refl
listed-opened (e ∷ queues) = ap (λ rest. (e.0, e.1.recovery, e.1.records) ∷ rest) (listed-opened queues)

pub returns : goal.returns
returns c =
    let all : map deref_pair c.loop-name.yielded ≡ c.queues.result.now = search (rules, iter_end) in
    c.loop-name.invariant ∙ ap listed (all ∙ c.queues.ensures) ∙ listed-opened c.args.self.now.queues
