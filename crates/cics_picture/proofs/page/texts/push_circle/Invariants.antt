use Rattle.std.proofs.Common.{◌≡◌, ◌++◌, drop}
use Rattle.cics_picture.specs.Page.Texts.{ring_text}
use Rattle.cics_picture.proofs.page.texts.push_circle.Given as goal

-- the tasks so far, and the text of those that are left
abbrev pub invariant-loop-next : goal.invariant-loop-next
invariant-loop-next l = l.out.items ++ ring_text l.first l.label (drop l.next-index l.others) ≡ l.fn.out.items ++ ring_text l.first l.first l.others
