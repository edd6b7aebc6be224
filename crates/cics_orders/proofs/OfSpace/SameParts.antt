-- Parts that are the same.
use Rattle.std.proofs.Common.{◌≡◌, true, refl}
use Rattle.std.specs.Bool.{Decides}
use Rattle.std.proofs.lemmas.Slice.Eq.{slice_eq-Decides, bytes_eq-Decides}
use Rattle.cics_orders.specs.Space.Endings.{Parts, are_same}

pub same_decides : (ps qs : Parts) → Decides (are_same ps qs) (ps ≡ qs)
same_decides ps qs = slice_eq-Decides bytes_eq-Decides ps qs (are_same ps qs) refl

pub same_refl : (ps : Parts) → are_same ps ps ≡ true
same_refl ps = (same_decides ps ps).1 refl
