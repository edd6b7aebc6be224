use Rattle.std.specs.Prelude.{◌≡◌, ◌++◌, None, OnOk}
use Rattle.std.proofs.Common.{subst}
use Rattle.cics_script.specs.Advice.Advice.{IsColumnOf, message_line}
use Rattle.cics_script.proofs.OfAdvice.Told.{told_long, told_marked}
use Rattle.cics_script.proofs.advice.messages.push_advice.Goals as goal

pub returns-in_default : goal.returns-in_default
returns-in_default c =
    told_long c.args.origin c.args.line.now c.args.cause c.args.out.now.items _ _ (subst (IsColumnOf c.args.line.now c.args.cause) c.in_default.is c.in_ok-column.ensures)
    (subst (λ message. OnOk c.push_message.result (c.push_message.new.out.items ≡ c.args.out.now.items ++ message_line c.args.origin None message)) c.as_bytes.ensures.value c.push_message.ensures)

pub returns : goal.returns
returns c =
    told_marked c.args.origin c.args.line.now c.args.cause c.args.out.now.items c.in-Some.column _ _ _ _ (subst (IsColumnOf c.args.line.now c.args.cause) c.in-Some.is c.in_ok-column.ensures)
    c.in_ok-push_message.ensures c.push_marked.ensures
