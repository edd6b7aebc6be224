use Rattle.std.proofs.Common.{◌≡◌, rules, IfOk, subst}
use Rattle.cics_browse.proofs.Prev.{prev_reply}
use Rattle.cics_browse.proofs.browses.Browse.prev.Goals as goal

pub returns-clause-reply : goal.returns-clause-reply
returns-clause-reply g c =
    subst (λ b. IfOk c.give.result (λ reply. reply ≡ b)) (prev_reply (g.F.Ordered.file_records c.args.file.now) c.args.self.now c.none_before-none.result _ (search rules) (search rules) (search rules)) c.give.ensures.reply
