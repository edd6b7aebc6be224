-- The empty places of files, through a command: an empty place more is that of an image that the
-- unit keeps.
use Rattle.std.specs.Prelude.{◌≡◌, Bool, true, false, not, ◌&&◌, ◌||◌, if◌then◌else◌, Option, Some, None, is_some, option_map, IfSome, [], ◌∷◌, refl}
use Rattle.std.proofs.Common.{sym, ap, ◌∙◌}
use Rattle.std.proofs.lemmas.Bool.{true≢false}
use Rattle.cics_names.specs.Keyed.{Bytes, is_same, value_at, has_key, is_key_in}
use Rattle.cics_names.specs.KeyedLaws.{is_same-eq}
use Rattle.cics_names.specs.RisingLaws.{is_key_in-with_key, is_key_in-without_key}
use Rattle.cics_images.specs.Cells.{is_other, is_unnamed}
use Rattle.cics_ksds.specs.Files.{FileValue, key_of, filled, emptied, dropped, written, rewritten, deleted}
use Rattle.cics_ksds.specs.Undo.{ImageValue, deleted_image}
use Rattle.cics_units.specs.Opening.FilesImages.{FilesImage, cell_of, cell_of_image}
use Rattle.cics_units.specs.FilesImagesLaws.{same_bytes-eq}
use Rattle.cics_ksds.specs.declared.images.Before.TheVariants.{Removed}
use Rattle.cics_units.specs.Parts.{image_if}

first : (a b : Bool) → (a && b) ≡ true → a ≡ true
first true b h = refl
first false b h = let wrong : false ≡ true = h in cc

second : (a b : Bool) → (a && b) ≡ true → b ≡ true
second true b h = h
second false b h = let wrong : false ≡ true = h in cc

-- a file that is filled holds back no more
module _ (f : FileValue) (k : Bytes) where
  filled_held : (key r : Bytes) → is_key_in k (filled f key r).empties ≡ true → is_key_in k f.empties ≡ true
  filled_held key r has = second (not (is_same k key)) (is_key_in k f.empties) (sym (is_key_in-without_key k key f.empties) ∙ has)

  pub written_held : (r : Bytes) → is_key_in k (written f r).empties ≡ true → is_key_in k f.empties ≡ true
  written_held r has = by (has_key (key_of f.definition r) f.records) has
    where
      by : (b : Bool) → is_key_in k (if b then f else filled f (key_of f.definition r) r).empties ≡ true → is_key_in k f.empties ≡ true
      by true has = has
      by false has = filled_held (key_of f.definition r) r has

  pub rewritten_held : (r : Bytes) → is_key_in k (rewritten f r).empties ≡ true → is_key_in k f.empties ≡ true
  rewritten_held r has = by (has_key (key_of f.definition r) f.records) has
    where
      by : (b : Bool) → is_key_in k (if b then filled f (key_of f.definition r) r else f).empties ≡ true → is_key_in k f.empties ≡ true
      by true has = filled_held (key_of f.definition r) r has
      by false has = has

-- a delete holds the place of its own key back, for its image
module _ (name : Bytes) (f : FileValue) (key k : Bytes) where
  own_named : (i : FilesImage) → cell_of_image i ≡ cell_of name key → is_unnamed cell_of_image (i ∷ []) (cell_of name k) ≡ true → k ≡ key → is_key_in k f.empties ≡ true
  own_named i named unnamed same =
      let none : is_other (cell_of_image i) (cell_of name k) ≡ false = ap not (same_bytes-eq (cell_of name k) (cell_of_image i) (ap (cell_of name) same ∙ sym named)) in
      absurd (true≢false (sym (first (is_other (cell_of_image i) (cell_of name k)) true unnamed) ∙ none))

  step : (keep : Bool) (o : Option Bytes) (image : Option ImageValue) → image ≡ (if keep then option_map (λ old. record { definition = f.definition; before = Removed old }) o else None) →
      IfSome image (λ i. cell_of_image (record { name = name; image = i }) ≡ cell_of name key) → is_unnamed cell_of_image (image_if name image) (cell_of name k) ≡ true →
      is_key_in k (if is_some o then if keep then emptied f key else dropped f key else f).empties ≡ true → is_key_in k f.empties ≡ true
  step keep None image is named unnamed has = has
  step false (Some r) image is named unnamed has = second (not (is_same k key)) (is_key_in k f.empties) (sym (is_key_in-without_key k key f.empties) ∙ has)
  step true (Some r) None is named unnamed has = cc
  step true (Some r) (Some i) is named unnamed has = by (is_same k key) refl (sym (is_key_in-with_key k key f.empties) ∙ has)
    where
      by : (b : Bool) → is_same k key ≡ b → (b || is_key_in k f.empties) ≡ true → is_key_in k f.empties ≡ true
      by true same has = own_named (record { name = name; image = i }) named unnamed (is_same-eq k key same)
      by false apart has = has

  pub deleted_held : (keep : Bool) (image : Option ImageValue) → image ≡ deleted_image keep f key →
      IfSome image (λ i. cell_of_image (record { name = name; image = i }) ≡ cell_of name key) → is_unnamed cell_of_image (image_if name image) (cell_of name k) ≡ true →
      is_key_in k (deleted keep f key).empties ≡ true → is_key_in k f.empties ≡ true
  deleted_held keep image = step keep (value_at key f.records) image
