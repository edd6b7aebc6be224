-- The page of a script: what it is put together of, and how it is read back.
use Rattle.std.proofs.Common.{◌≡◌, ℕ, Bool, List, [], ◌++◌, refl, ap, sym, ◌∙◌, subst, append_assoc}
use Rattle.cics_run.specs.Session.Lines.{all_lines}
use Rattle.cics_run.specs.Session.Running.{play, is_faulty}
use Rattle.cics_run.specs.declared.stage.stage.Stage.{Stage}
use Rattle.cics_picture.specs.Draw.Pictures.{outcomes_of}
use Rattle.cics_picture.specs.Draw.Titles.{title_of}
use Rattle.cics_picture.specs.declared.xml.names.Tag.TheVariants as tag
use Rattle.cics_picture.specs.declared.page.lines.Sheet.{Sheet}
use Rattle.cics_picture.specs.Elements.{cut}
use Rattle.cics_picture.specs.Xml.Reading.{document_of}
use Rattle.cics_picture.specs.Page.Lines.{lines_text, title_text, heading, listing_text, content_text, between, head, tail, front_text, back_text, page_text}
use Rattle.cics_picture.specs.Page.Pages.{IsPage, HasDocuments, HasLines, PutsPage, listing_unless, last_listing}
use Rattle.cics_picture.proofs.OfXml.ReadBack.{read_back}
use Rattle.cics_picture.proofs.OfPage.Notes.{spoken-read}
use Rattle.cics_picture.proofs.OfPage.Lines.{content-read}
use lib.Chars.{codes}

-- the parts of a page, with the heading at the start of the content
parted : (a b c d e f g h : List ℕ) → (a ++ (b ++ (c ++ d))) ++ (e ++ (f ++ (g ++ h))) ≡ a ++ (b ++ (c ++ ((d ++ (e ++ (f ++ g))) ++ h)))
parted a b c d e f g h = simp (append_assoc) refl

pub page-read : (script text : List ℕ) → IsPage script text → HasDocuments text
page-read script text p =
    let outcomes = outcomes_of script in
    let name = title_of script in
    let listing = last_listing (play (all_lines script)) in
    let t = spoken-read tag.Title (cut 96 name) in
    let c = content-read outcomes name p.lines listing in
    record {
      title = title_text name;
      content = content_text outcomes name p.lines listing;
      is = p.is ∙ parted head (title_text name) between (heading name) (lines_text outcomes 1 p.lines) (codes "</ol>\n") (listing_text listing) tail;
      title_read = (t.0, ap document_of t.1 ∙ read_back t.0);
      content_read = (c.0, ap document_of c.1 ∙ read_back c.0);
    }

-- what is put in two parts is the page
pub put-page :
    (script : List ℕ) (sheet : Sheet) (stage : Stage) (fault : Bool) (o front all : List ℕ) → HasLines script sheet →
    stage ≡ (play (all_lines script)).stage → is_faulty script ≡ fault → front ≡ o ++ front_text (title_of script) →
    all ≡ front ++ (sheet.text.items ++ back_text (listing_unless fault stage)) → PutsPage script o all
put-page script sheet stage fault o front all has at faulty e1 e2 =
    let outcomes = outcomes_of script in
    let name = title_of script in
    let listing = last_listing (play (all_lines script)) in
    let same : listing_unless fault stage ≡ listing = (λ i. listing_unless (sym faulty i) (at i)) in
    let back = lines_text outcomes 1 has.lines ++ back_text listing in (
      page_text outcomes name has.lines listing,
      record { lines = has.lines; plain_ones = has.plain_ones; is = refl },
      e2 ∙ (λ i. e1 i ++ (has.has i ++ back_text (same i))) ∙ append_assoc o (front_text name) back,
    )

-- at the end of nothing the page is all
pub all-of-it : (script old new : List ℕ) → old ≡ [] → PutsPage script old new → IsPage script new
all-of-it script old new none (text, page, is) = subst (IsPage script) (sym (is ∙ ap (λ o. o ++ text) none)) page
