use Rattle.std.proofs.Common.{◌≡◌, [], ◌++◌, ap, ◌∙◌, append_assoc}
use Rattle.std.proofs.lemmas.List.{append-nil}
use Rattle.std.proofs.lemmas.Result.{on_ok_weaker}
use Rattle.cics_picture.specs.declared.xml.names.Tag.TheVariants as tag
use Rattle.cics_picture.specs.Elements.{spoken, cut}
use Rattle.cics_picture.specs.Page.Lines.{head, between}
use Rattle.cics_picture.proofs.page.pages.push_front.Goals as goal
use lib.Chars.{codes}

pub returns : goal.returns
returns c =
    let o = c.args.out.now.items in
    let front = c.cut.result.0.now in
    let dots = c.cut.result.1.now in
    let end = codes "\n<ol>\n" in
    let text : c.push_parts.new.out.items ≡ cut 96 c.args.title.now =
    c.in_ok-push_parts.ensures ∙ ap (λ t. t ++ (front ++ (dots ++ []))) c.new-text.ensures.items ∙ ap (λ t. front ++ t) (append-nil dots) ∙ c.cut.ensures in
    let first = c.deref.ensures.value ∙ text in
    let second = c.deref-2.ensures.value ∙ text in
    let behind = spoken tag.Title c.deref.result.now ++ (between ++ (spoken tag.H1 c.deref-2.result.now ++ end)) in
    on_ok_weaker c.push_pieces.result
    (λ put. put ∙ ap (λ t. t ++ behind) c.in_ok-push_head.ensures ∙ append_assoc o head behind
    ∙ (λ i. o ++ (head ++ (spoken tag.Title (first i) ++ (between ++ (spoken tag.H1 (second i) ++ end)))))) c.push_pieces.ensures
