-- Recovery, transient data: the before images of a queue, as images of its marks.
use Rattle.std.specs.Prelude.{◌≡◌, ◌≤◌, Option, Some, None, List, [], ◌∷◌, ◌++◌}
use Rattle.cics_names.specs.Keyed.{Bytes}
use Rattle.cics_transdata.specs.declared.images.TdImage.{TdImage}
use Rattle.cics_transdata.specs.declared.images.TdImage.TheVariants.{Taken, Written}
use Rattle.cics_history.specs.MarkImages.{MarkImage, OfReading, OfWriting}

-- a queue's image is this image of its marks. A read's or delete's image has the number of records
-- marked as read before. A write's has its kind alone, since the record that was marked is the last
abbrev pub Carries : TdImage → MarkImage → Type 0
Carries (Taken n) (OfReading q before made) = (n ≡ before) × (before ≤ made)
Carries Written (OfWriting q before made) = (d : Bytes) × (made ≡ before ++ d ∷ [])
Carries _ _ = ⊥

-- a queue makes an image exactly if its marks do
abbrev pub CarriesIfAny : Option TdImage → List MarkImage → Type 0
CarriesIfAny None [] = Unit {0}
CarriesIfAny (Some i) (m ∷ []) = Carries i m
CarriesIfAny _ _ = ⊥
