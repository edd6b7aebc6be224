use Rattle.std.proofs.Common.{◌≡◌, ◌↔◌, Bool, true, false, Option, Some, None, [], ◌∷◌, List, Bor, not, is_some, slice_get, refl}
use Rattle.std.specs.Option.{option_copied}
use Rattle.cics_transdata.proofs.queues.TransQueue.committed_empty.Goals as goal

-- no first record is found exactly if there is none
none_first : {T : Type 0} (o : Option (Bor T)) (b : Bool) (xs : List T) → is_some o ≡ not b → option_copied o ≡ slice_get xs 0 → ((b ≡ true) ↔ (xs ≡ []))
none_first None true [] some first = (λ e. refl, λ e. refl)
none_first None true (x ∷ xs) some first = cc
none_first None false xs some first = cc
none_first (Some r) true xs some first = cc
none_first (Some r) false [] some first = cc
none_first (Some r) false (x ∷ xs) some first = (λ e. cc, λ e. cc)

pub returns-clause-committed : goal.returns-clause-committed
returns-clause-committed c = none_first c.first.result c.is_none.result _ c.is_none.ensures (c.first.ensures.committed refl)
