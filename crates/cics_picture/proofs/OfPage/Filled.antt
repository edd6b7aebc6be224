-- A start tag, markup, an end tag, and more markup.
use Rattle.std.proofs.Common.{◌≡◌, ℕ, List, [], ◌++◌, refl, ap, sym, ◌∙◌, append_assoc, append-nil}
use Rattle.cics_picture.specs.declared.xml.names.Tag.{Tag}
use Rattle.cics_picture.specs.Xml.Documents.{Attribute, start_text, end_text}
use Rattle.cics_picture.proofs.Markup.{IsMarkup, nothing, behind, within}

-- what stands behind a start tag
pub record IsFilled (tag : Tag) (text : List ℕ) : Type 0 where
  pub inside : List ℕ
  pub after : List ℕ
  pub inside_markup : IsMarkup inside
  pub after_markup : IsMarkup after
  pub is : text ≡ inside ++ (end_text tag ++ after)

pub ended : (tag : Tag) (after : List ℕ) → IsMarkup after → IsFilled tag (end_text tag ++ after)
ended tag after p = record { inside = []; after = after; inside_markup = nothing; after_markup = p; is = refl }

pub closed : (tag : Tag) → IsFilled tag (end_text tag)
closed tag = record { inside = []; after = []; inside_markup = nothing; after_markup = nothing; is = sym (append-nil (end_text tag)) }

pub more : (tag : Tag) (a text : List ℕ) → IsMarkup a → IsFilled tag text → IsFilled tag (a ++ text)
more tag a text p f =
    record {
      inside = a ++ f.inside;
      after = f.after;
      inside_markup = behind a f.inside p f.inside_markup;
      after_markup = f.after_markup;
      is = ap (λ t. a ++ t) f.is ∙ sym (append_assoc a f.inside (end_text tag ++ f.after));
    }

pub element-of : (tag : Tag) (attributes : List Attribute) (text : List ℕ) → IsFilled tag text → IsMarkup (start_text tag attributes ++ text)
element-of tag attributes text f =
    let start = start_text tag attributes in
    let end = end_text tag in
    let q = behind (start ++ (f.inside ++ end)) f.after (within tag attributes f.inside f.inside_markup) f.after_markup in
    let same : start ++ text ≡ (start ++ (f.inside ++ end)) ++ f.after =
    ap (λ t. start ++ t) (f.is ∙ sym (append_assoc f.inside end f.after)) ∙ sym (append_assoc start (f.inside ++ end) f.after) in
    (q.0, same ∙ q.1)
