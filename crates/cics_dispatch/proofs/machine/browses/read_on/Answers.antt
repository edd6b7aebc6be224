use Rattle.std.proofs.Common.{◌≡◌, sym, subst}
use Rattle.std.specs.Prelude.{IfOk, OnOk}
use Rattle.cics_browse.specs.declared.browses.Browsed.{Browsed}
use Rattle.cics_dispatch.specs.Machine.Browses.{read_on, after_read_on}
use Rattle.cics_dispatch.proofs.machine.browses.read_on.Goals as goal

pub returns-in-Forward-clause-reply : goal.returns-in-Forward-clause-reply
returns-in-Forward-clause-reply c =
    subst (λ d. IfOk c.next.result (λ (reply : Browsed). reply ≡ read_on d c.args.file.now.records c.args.browse.now)) (sym c.in-Forward.is) c.next.ensures.reply

pub returns-in-Forward-clause-position : goal.returns-in-Forward-clause-position
returns-in-Forward-clause-position c =
    subst (λ d. OnOk c.next.result (c.next.new.self ≡ after_read_on d c.args.file.now.records c.args.browse.now)) (sym c.in-Forward.is) c.next.ensures.position

pub returns-in-Back-clause-reply : goal.returns-in-Back-clause-reply
returns-in-Back-clause-reply c =
    subst (λ d. IfOk c.prev.result (λ (reply : Browsed). reply ≡ read_on d c.args.file.now.records c.args.browse.now)) (sym c.in-Back.is) c.prev.ensures.reply

pub returns-in-Back-clause-position : goal.returns-in-Back-clause-position
returns-in-Back-clause-position c =
    subst (λ d. OnOk c.prev.result (c.prev.new.self ≡ after_read_on d c.args.file.now.records c.args.browse.now)) (sym c.in-Back.is) c.prev.ensures.position
