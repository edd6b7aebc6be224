use Rattle.std.proofs.Common.{◌∙◌, sym, ap}
use Rattle.cics_history.specs.Execution.{read_at}
use Rattle.cics_units.specs.OpenReads.{is_read_key, is_read_under}
use Rattle.cics_units.proofs.PartChanges.{covered-key, covered-under, uncovered_any}
use Rattle.cics_units.proofs.units_core.UnitsCore.covers.Goals as goal

pub returns-in-Rewrite : goal.returns-in-Rewrite
returns-in-Rewrite c =
    let reads = c.args.self.now.reads in
    rw c.in-Rewrite.is
    (c.is_of_key.ensures ∙ ap (is_read_key (read_at reads c.args.unit c.in-Rewrite.file)) c.bytes.ensures
    ∙ sym (covered-key c.args.unit c.in-Rewrite.file c.in-Rewrite.key reads c.requires.once))

pub returns-in-Delete : goal.returns-in-Delete
returns-in-Delete c =
    let reads = c.args.self.now.reads in
    rw c.in-Delete.is
    (c.is_of_key-in-Delete.ensures ∙ ap (is_read_key (read_at reads c.args.unit c.in-Delete.file)) c.bytes-in-Delete.ensures
    ∙ sym (covered-key c.args.unit c.in-Delete.file c.in-Delete.key reads c.requires.once))

pub returns-in-DeleteGeneric : goal.returns-in-DeleteGeneric
returns-in-DeleteGeneric c =
    let reads = c.args.self.now.reads in
    rw c.in-DeleteGeneric.is
    (c.is_under.ensures ∙ ap (is_read_under (read_at reads c.args.unit c.in-DeleteGeneric.file)) c.bytes-in-DeleteGeneric.ensures
    ∙ sym (covered-under c.args.unit c.in-DeleteGeneric.file c.in-DeleteGeneric.prefix reads c.requires.once))

pub returns-in_default : goal.returns-in_default
returns-in_default c =
    sym (uncovered_any c.args.unit c.args.op.now c.args.self.now.reads (λ f k r is. c.in_default.not-Rewrite f k r is)
    (λ f k is. c.in_default.not-Delete f k is)
    (λ f p is. c.in_default.not-DeleteGeneric f p is))
