use Rattle.std.proofs.Common.{◌≡◌, ℕ, [], ◌++◌, refl, ap, sym, subst, ◌∙◌, append_assoc}
use Rattle.std.specs.Prelude.{OnOk}
use Rattle.std.specs.Fmt.{decimal}
use Rattle.std.proofs.lemmas.Result.{on_ok_weaker}
use Rattle.cics_names.specs.declared.records.Record.{Record}
use Rattle.cics_picture.specs.declared.xml.names.Tag.TheVariants.{I}
use Rattle.cics_picture.specs.declared.page.notes.Held.{Held}
use Rattle.cics_picture.specs.declared.page.notes.Held.TheVariants.{Keys, Queue, End, Value}
use Rattle.cics_picture.specs.Page.Texts.{resource_text, count_text}
use Rattle.cics_picture.specs.Elements.{spoken}
use Rattle.cics_picture.proofs.page.texts.push_holds.Goals as goal
use lib.Chars.{codes}

-- only a value is counted
uncounted : (h : Held) (n : ℕ) → ((x : Record) → h ≡ Value x → ⊥) → count_text h n ≡ []
uncounted (Keys file bytes is_prefix) n other = refl
uncounted (Queue queue) n other = refl
uncounted (End queue is_writing) n other = refl
uncounted (Value value) n other = absurd (other value refl)

pub returns-in-Value : goal.returns-in-Value
returns-in-Value c =
    let o = c.args.out.now.items in
    let r = resource_text (codes "<p class=\"own ") (codes "\">holds ") c.args.held.now in
    let n = spoken I (decimal c.args.count) in
    let end = codes "</p>" in
    let same = ap (λ t. t ++ (codes " &#215;" ++ (n ++ end))) c.in_ok-push_resource.ensures ∙ append_assoc o r (codes " &#215;" ++ (n ++ end)) in
    subst (λ h. OnOk c.push_pieces.result (c.push_pieces.new.out.items ≡ o ++ (r ++ (count_text h c.args.count ++ end)))) (sym c.in-Value.is)
    (on_ok_weaker c.push_pieces.result (λ put. put ∙ same) c.push_pieces.ensures)

pub returns-in_default : goal.returns-in_default
returns-in_default c =
    let o = c.args.out.now.items in
    let r = resource_text (codes "<p class=\"own ") (codes "\">holds ") c.args.held.now in
    let end = codes "</p>" in
    let same = ap (λ t. t ++ end) c.in_ok-push_resource.ensures ∙ append_assoc o r end in
    on_ok_weaker c.push_str.result
    (λ put. put ∙ same ∙ ap (λ k. o ++ (r ++ (k ++ end))) (sym (uncounted c.args.held.now c.args.count c.in_default.not-Value))) c.push_str.ensures
