-- What the notes of an event tell of texts.
use Rattle.std.proofs.Common.{◌≡◌, Option, List, [], ◌++◌, ap, sym, ◌∙◌, append_assoc}
use Rattle.std.proofs.lemmas.List.Elements.{filter_map-append}
use Rattle.std.specs.declared.cmp.Ordering.{Ordering}
use Rattle.std.specs.Cmp.{IsTotalOrder}
use Rattle.std.specs.List.{filter_map}
use Rattle.std.specs.List.Sorted.{IsStrictlySortedBy}
use Rattle.std.specs.Map.{keys_of}
use Rattle.cics_names.specs.Keyed.{Bytes}
use Rattle.cics_picture.specs.declared.page.notes.Cell.{Cell}
use Rattle.cics_picture.specs.declared.page.notes.Note.{Note}
use Rattle.cics_picture.specs.Page.Tracked.{Tracked, IsSameBefore, shown, all_assigned}
use Rattle.cics_picture.specs.Page.Views.{Texts, IsTold, text_in, text_change, texts_told, texts_behind}
use Rattle.cics_picture.proofs.OfViews.Behind.{behind}

-- one step keeps what was shown before, and then another
pub same-then : (cmp : Cell → Cell → Ordering) (old mid new : Tracked Cell Bytes) → IsSameBefore cmp old mid → IsSameBefore cmp mid new → IsSameBefore cmp old new
same-then cmp old mid new first second = λ k. second k ∙ first k

-- what an event changed is told
pub told-all : {cmp : Cell → Cell → Ordering} → IsTotalOrder cmp → (old mid new : Tracked Cell Bytes) (silent notes : List Note) → old.olds ≡ [] → IsSameBefore cmp old mid → texts_told silent ≡ [] → IsStrictlySortedBy cmp (keys_of mid.olds) → texts_told notes ≡ texts_told silent ++ filter_map (text_change (shown cmp mid)) mid.olds → new.entries ≡ mid.entries → IsTold cmp old.entries notes new.entries
told-all o old mid new silent notes none same nothing sorted tell entries =
    behind o old mid new (texts_told silent) (texts_told notes) none same sorted nothing tell entries

-- nothing is told if nothing is other
pub told-none : (cmp : Cell → Cell → Ordering) (before after : Texts) (notes : List Note) → texts_told notes ≡ [] → after ≡ before → IsTold cmp before notes after
told-none cmp before after notes nothing same = λ cell. ap (λ told. all_assigned cmp (text_in cmp before) told cell) nothing ∙ ap (λ texts. text_in cmp texts cell) (sym same)

-- the texts before are the same as others
pub told-from : (cmp : Cell → Cell → Ordering) (old before after : Texts) (notes : List Note) → before ≡ old → IsTold cmp before notes after → IsTold cmp old notes after
told-from cmp old before after notes same told = λ cell. ap (λ texts. texts_behind cmp (text_in cmp texts) notes cell) (sym same) ∙ told cell

-- one more is told
pub told_more : {X Y : Type 0} (f : X → Option Y) (init : List Y) (seen one : List X) (before after : List Y) → before ≡ init ++ filter_map f seen → after ≡ before ++ filter_map f one → after ≡ init ++ filter_map f (seen ++ one)
told_more f init seen one before after first second =
    second ∙ ap (λ told. told ++ filter_map f one) first ∙ append_assoc init (filter_map f seen) (filter_map f one) ∙ ap (λ told. init ++ told) (sym (filter_map-append f seen one))
