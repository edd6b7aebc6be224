-- Notes that tell of no text, and of another owner.
use Rattle.std.proofs.Common.{◌≡◌, ℕ, Bool, false, Option, Some, None, option_map, List, [], ◌∷◌, ◌++◌, take, drop, ap, sym, ◌∙◌}
use Rattle.std.specs.List.{filter_map, cons_option, insert}
use Rattle.std.proofs.lemmas.List.{append-nil, take-append-drop}
use Rattle.std.proofs.lemmas.List.Elements.{filter_map-append}
use Rattle.cics_picture.specs.declared.page.notes.Held.{Held}
use Rattle.cics_picture.specs.declared.page.notes.Note.{Note}
use Rattle.cics_picture.specs.declared.page.owners.Owner.{Owner}
use Rattle.cics_picture.specs.Page.Views.{text_told, texts_told, owner_told, is_same_owner, owner_change}

-- one more at the end
pub untold : (notes : List Note) (note : Note) → text_told note ≡ None → texts_told (notes ++ note ∷ []) ≡ texts_told notes
untold notes note none = filter_map-append text_told notes (note ∷ []) ∙ ap (λ told. filter_map text_told notes ++ cons_option told []) none ∙ append-nil (filter_map text_told notes)

-- one more among them
pub untold-insert : (notes : List Note) (place : ℕ) (note : Note) → text_told note ≡ None → texts_told (insert notes place note) ≡ texts_told notes
untold-insert notes place note none =
    filter_map-append text_told (take place notes) (note ∷ drop place notes)
    ∙ ap (λ told. filter_map text_told (take place notes) ++ cons_option told (filter_map text_told (drop place notes))) none
    ∙ sym (filter_map-append text_told (take place notes) (drop place notes))
    ∙ ap texts_told (take-append-drop place notes)

-- the note of another owner tells what changed
pub other-owner : (held : Held) (before after : Option Owner) (same : Bool) → same ≡ is_same_owner before after → same ≡ false → (note : Note) → owner_told note ≡ Some (held, option_map (λ owner. owner.count) after) → owner_told note ≡ owner_change (λ _. after) (held, before)
other-owner held before after same e other note told = rw (sym e ∙ other) told
