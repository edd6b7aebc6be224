-- The images of an executed command, each of a change of a cell of the store in place, before those
-- that were kept.
use Rattle.std.proofs.Common.{◌≡◌, ℕ, true, false, List, [], ◌∷◌, ◌++◌, refl, sym, subst, ◌∙◌}
use Rattle.std.proofs.lemmas.Bool.{true≢false}
use Rattle.cics_names.specs.Keyed.{Bytes}
use Rattle.cics_images.specs.Cells.{AreOf}
use Rattle.cics_images.specs.Turns.{IsImageOf}
use Rattle.cics_images.specs.declared.stores.StoreImage.TheVariants.{File, TempStorage, TransData}
use Rattle.cics_history.specs.declared.ops.Op.{Op}
use Rattle.cics_history.specs.declared.ops.Op.TheVariants.{TdWrite, TdRead, TdDelete}
use Rattle.cics_history.specs.Cells.{Td, touches}
use Rattle.cics_history.specs.Undo.{Image}
use Rattle.cics_history.specs.Marks.{Queues}
use Rattle.cics_history.specs.MarkImages.{MarkImage, mark_images}
use Rattle.cics_history.proofs.Joining.{same_cell-refl}
use Rattle.cics_units.specs.Opening.StoreMatching.{StoreValue, AnyImage, cell_of_any, AnyLeads, any_content, IsAnyReady, any_undone, AnyKeep, AreImagesOf}

-- a command that acts on no transient data queue marks nothing
pub no_mark : (op : Op) → ((q : Bytes) → touches op (Td q) ≡ false) → (queues : Queues) → mark_images op queues ≡ []
no_mark (TdWrite q d) none queues = absurd (true≢false (sym (same_cell-refl (Td q)) ∙ none q))
no_mark (TdRead q) none queues = absurd (true≢false (sym (same_cell-refl (Td q)) ∙ none q))
no_mark (TdDelete q) none queues = absurd (true≢false (sym (same_cell-refl (Td q)) ∙ none q))
no_mark _ none queues = refl

-- every image is of some cell
pub all_of : (is : List AnyImage) → AreOf cell_of_any (λ c. true) is
all_of [] = tt
all_of (i ∷ is) = (refl, all_of is)

-- two lists of images for two lists of changes and of marks are one for both
pub kept_joined : (cs : List Image) (ms : List MarkImage) (is : List AnyImage) → AreImagesOf cs ms is → (ds : List Image) (ns : List MarkImage) (js : List AnyImage) →
    AreImagesOf ds ns js → AreImagesOf (cs ++ ds) (ms ++ ns) (is ++ js)
kept_joined cs ms [] kept ds ns js more = subst (λ l. AreImagesOf (l ++ ds) (ms ++ ns) js) (sym kept.0) (subst (λ l. AreImagesOf ds (l ++ ns) js) (sym kept.1) more)
kept_joined [] ms (File i ∷ is) kept ds ns js more = absurd kept
kept_joined (c ∷ cs) ms (File i ∷ is) kept ds ns js more = (kept.0, kept_joined cs ms is kept.1 ds ns js more)
kept_joined [] ms (TempStorage i ∷ is) kept ds ns js more = absurd kept
kept_joined (c ∷ cs) ms (TempStorage i ∷ is) kept ds ns js more = (kept.0, kept_joined cs ms is kept.1 ds ns js more)
kept_joined cs [] (TransData i ∷ is) kept ds ns js more = absurd kept
kept_joined cs (m ∷ ms) (TransData i ∷ is) kept ds ns js more = (kept.0, kept_joined cs ms is kept.1 ds ns js more)

-- an image of a change of a cell of the store in place
abbrev pub IsAnyImage : StoreValue → StoreValue → List ℕ → AnyImage → Type 0
IsAnyImage old new c image = IsImageOf any_content cell_of_any AnyLeads IsAnyReady any_undone AnyKeep old new c image
