use Rattle.std.proofs.Common.{arith, ◌≡◌, ◌≤◌, ◌∙◌, length, sym, subst}
use Rattle.std.specs.Vec.{vec_capacity}
use Rattle.cics_units.specs.Cores.{core_value}
use Rattle.cics_units.specs.KeptUnits.{state_shown, opened_store, AreValid}
use Rattle.cics_units.specs.Opening.StoreMatching.{StoreValue}
use Rattle.cics_units.proofs.KeptUnits.{kept_headline, kept_serializable, kept_begins}
use Rattle.cics_units.proofs.ShownUnits.{begun_shown}
use Rattle.cics_units.proofs.units.Units.start.Goals as goal
use Rattle.cics_units.proofs.units.Units.start.Goals.{After-new-5}

-- the units that an opening begins
begun : (c : After-new-5) → AreValid (state_shown c.args.opening c.new-3.result.items c.new-4.result.items c.new-5.result.items (core_value c.new-2.result)) (core_value c.new-2.result).stores c.new-2.result.locks
begun c =
    let store : StoreValue = record { files = c.in-Ok.files; temp_storage = c.new.result; trans_data = c.in-Ok-copy.trans_data } in
    let opened : store ≡ opened_store c.args.opening = λ i. record {
      files = (c.in-Ok.ensures ∙ c.files.ensures.files) i;
      temp_storage = c.new.ensures i;
      trans_data = (c.in-Ok-copy.ensures ∙ c.queues.ensures) i;
    } in
    begun_shown c.args.opening c.new-3.result.items c.new-4.result.items c.new-5.result.items (core_value c.new-2.result) store c.new-2.ensures c.new-3.ensures.items c.new-4.ensures.items c.new-5.ensures.items
    (kept_begins c.args.opening c.files.ensures.in_order c.files.ensures.lawful_keys store opened)

pub invariant_of-result : goal.invariant_of-result
invariant_of-result c = (
  begun (goal.at.invariant_of-result c).After-new-5,
  subst (λ l. length l ≤ vec_capacity c.new-5.result) (sym c.new-4.ensures.items) (omega arith),
)

pub returns-clause-headline : goal.returns-clause-headline
returns-clause-headline c = kept_headline _ _ _ (begun (goal.at.returns-clause-headline c).After-new-5)

pub returns-clause-serializable : goal.returns-clause-serializable
returns-clause-serializable c = kept_serializable _ _ _ (begun (goal.at.returns-clause-serializable c).After-new-5)
