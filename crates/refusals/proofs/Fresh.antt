-- What calls on values that were just made need.
use Rattle.std.proofs.Common.{◌≡◌, List, [], ◌∷◌, sym, subst}
use Rattle.cics_images.specs.Cells.{AreReadyInTurn}
use Rattle.cics_ksds.specs.Files.{FileValue}
use Rattle.cics_ksds.specs.Undo.{ImageValue, IsReadyImage, undone}

-- the only image of a list is ready in turn if it is ready
pub ready_alone : (file : FileValue) (image : ImageValue) (images : List ImageValue) → images ≡ image ∷ [] →
    IsReadyImage file image → AreReadyInTurn IsReadyImage undone file images
ready_alone file image images alone ready =
    subst (λ (is : List ImageValue). AreReadyInTurn IsReadyImage undone file is) (sym alone) (ready, tt)
