use Rattle.std.proofs.Common.{rules, ap, ◌∙◌, ◌++◌}
use Rattle.cics_script.proofs.OfSpelling.PlainTexts.{put-plain}
use Rattle.cics_script.proofs.spelling.texts.push_plain.Goals as goal

pub returns-clause-text : goal.returns-clause-text
returns-clause-text c =
    let one = c.in_ok-push.ensures.items in
    let items = c.in_ok-extend_from_slice.ensures.items ∙ ap (λ front. front ++ c.args.bytes.now) one in
    c.in_ok-push-2.ensures.items
    ∙ put-plain c.args.out.now.items c.args.bytes.now c.extend_from_slice.new.self.items c.put_characters-all.new.text c.len-start.result c.extend_from_slice.new.self.len
    (rw (← one) (search rules)) items (rw c.deref_mut.ensures.value at c.put_characters-all.ensures.text) (search rules)
