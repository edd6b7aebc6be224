use Rattle.std.proofs.Common.{◌++◌, ap, subst, sym, ◌∙◌}
use Rattle.cics_run.specs.Messages.Remarks.{remark_lines}
use Rattle.cics_run.specs.Messages.Messages.{IsToldOf, TellsFault}
use Rattle.cics_run.proofs.messages.messages.told_of.Goals as goal

pub returns : goal.returns
returns c =
    let s = c.args.session.now in
    let told = subst (λ before. TellsFault (record { file = c.args.file; line = s.number }) s.line.items c.in-Some.fault before c.push_told.new.out.items) (c.in_ok-push_remarks.ensures ∙ ap (λ l. l ++ remark_lines c.args.file s.journal.told) c.new-text.ensures.items) (rw c.deref.ensures.value at c.in_ok-push_told.ensures) in
    record { told = subst (λ fault. IsToldOf c.args.file s fault c.push_told.new.out.items) (sym c.in-Some.is) told }
