use Rattle.std.proofs.Common.{◌≡◌, ◌∙◌, ◌++◌, ◌∷◌, ◌+◌, suc, drop, drop-cons, append_assoc, sym, ap, codes, arith}
use Rattle.cics_run.specs.Messages.Deadlocked.{wait_text, link_text, waits_text}
use Rattle.cics_run.proofs.OfMessages.Put.{put-put}
use Rattle.cics_run.proofs.messages.deadlocked.push_waits.Goals as goal

pub loop-next-preserved : goal.loop-next-preserved
loop-next-preserved c =
    let m = c.args.region.now.machine in
    let first = c.args.first.now in
    let others = c.args.others.now in
    let index = c.loop-next.next-index in
    let next = c.next-item.result in
    let at = c.loop-next.at in
    let out = c.loop-next.out.items in
    let link : c.push_str.new.out.items ≡ out ++ link_text m at next =
    put-put out c.push_wait.new.out.items c.push_str.new.out.items (wait_text m at next) (codes ", ") c.in_ok-push_wait.ensures c.in_ok-push_str.ensures in
    let step : suc index ≡ index + 1 = omega arith in
    let rest : drop index others ≡ next ∷ drop (index + 1) others = drop-cons others index next c.loop-next-test.true ∙ (λ i. sym c.next-item.is i ∷ drop (step i) others) in
    ap (λ l. l ++ waits_text m next (drop (index + 1) others) first) link
    ∙ append_assoc out (link_text m at next) (waits_text m next (drop (index + 1) others) first)
    ∙ ap (λ l. out ++ waits_text m at l first) (sym rest)
    ∙ c.loop-next.invariant
