-- The texts before an event, and then what its notes tell, are the texts behind it.
use Rattle.std.proofs.Common.{◌≡◌, true, false, Option, Some, None, option_map, if◌then◌else◌, List, [], ◌++◌, refl, ap, sym, ◌∙◌}
use Rattle.std.specs.declared.cmp.Ordering.{Ordering}
use Rattle.std.specs.Cmp.{IsTotalOrder}
use Rattle.std.specs.Cmp.Lexicographic.{same_text}
use Rattle.std.specs.List.{filter_map}
use Rattle.std.specs.List.Sorted.{IsStrictlySortedBy}
use Rattle.std.specs.Map.{keys_of}
use Rattle.std.specs.Str.{bytes_eq}
use Rattle.cics_names.specs.Keyed.{Bytes}
use Rattle.cics_picture.specs.declared.page.notes.Cell.{Cell}
use Rattle.cics_picture.specs.declared.page.notes.Change.TheVariants.{Becomes}
use Rattle.cics_picture.specs.Page.Tracked.{Tracked, IsSameBefore, noted_or, at, shown, all_assigned}
use Rattle.cics_picture.specs.Page.Views.{text_behind, change_of, text_change}
use Rattle.cics_picture.proofs.OfViews.Tracking.{at-same}
use Rattle.cics_picture.proofs.OfViews.Telling.{IsTelling, told-gives}

-- of a cell it is told what stands there, unless it stood there before
pub tells : (cell : Cell) (before after : Option Bytes) → IsTelling cell before after (option_map (λ change. (cell, text_behind change)) (change_of before after))
tells cell None None = refl
tells cell None (Some after) = refl
tells cell (Some before) None = refl
tells cell (Some before) (Some after) =
    elim (bytes_eq before after) as (λ same. bytes_eq before after ≡ same → IsTelling cell (Some before) (Some after) (option_map (λ change. (cell, text_behind change)) (if same then None else Some (Becomes before after)))) [
      | true ↦ λ same. ap Some (same_text before after (sym same))
      | false ↦ λ same. refl
    ] refl

-- what is told of all cells that were set gives what they show
pub behind : {cmp : Cell → Cell → Ordering} → IsTotalOrder cmp → (old mid new : Tracked Cell Bytes) (silent told : List (Cell × Option Bytes)) → old.olds ≡ [] → IsSameBefore cmp old mid → IsStrictlySortedBy cmp (keys_of mid.olds) → silent ≡ [] → told ≡ silent ++ filter_map (text_change (shown cmp mid)) mid.olds → new.entries ≡ mid.entries → (c : Cell) → all_assigned cmp (shown cmp old) told c ≡ shown cmp new c
behind {cmp = cmp} o old mid new silent told none same sorted nothing tell entries c =
    ap (λ ts. all_assigned cmp (shown cmp old) ts c) (tell ∙ ap (λ s. s ++ filter_map (text_change (shown cmp mid)) mid.olds) nothing)
    ∙ told-gives o (shown cmp mid) (λ k q. at-same o k q mid.entries) (text_change (shown cmp mid)) (λ e. tells e.0 e.1 (shown cmp mid e.0)) mid.olds sorted (shown cmp old) (λ q. sym (same q ∙ ap (λ olds. noted_or (at cmp olds q) (shown cmp old q)) none)) c
    ∙ ap (λ es. at cmp es c) (sym entries)
