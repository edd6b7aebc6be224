-- Endings with the same parts are equal.
use Rattle.std.specs.Prelude.{◌≡◌, true, refl}
use Rattle.std.proofs.lemmas.Slice.Eq.{slice_eq-Decides, bytes_eq-Decides}
use Rattle.cics_orders.specs.Space.Endings.{Parts, are_same}

-- lists of parts that are told the same are equal
pub same_parts : (ps qs : Parts) → are_same ps qs ≡ true → ps ≡ qs
same_parts ps qs = (slice_eq-Decides bytes_eq-Decides ps qs (are_same ps qs) refl).0
