use Rattle.std.proofs.Common.{◌≡◌, ◌∙◌, true, false, None, sym, ap, is_some, not, filter}
use Rattle.std.specs.Prelude.{if◌then◌else◌}
use Rattle.std.specs.List.{list_any}
use Rattle.std.proofs.lemmas.Bool.{true≢false}
use Rattle.cics_history.specs.Execution.{covers, read_at, is_read_of}
use Rattle.cics_history.specs.Records.{file_of}
use Rattle.cics_units.specs.TableInPlace.{table_given_back}
use Rattle.cics_units.proofs.DoneCommands.{queue_uncovered}
use Rattle.cics_units.proofs.HeldReads.{filter_none}
use Rattle.cics_units.proofs.PartChanges.{covered_rest}
use Rattle.cics_units.proofs.ShownUnits.{read_short}
use Rattle.cics_units.proofs.units_core.UnitsCore.end_covered.Goals as goal

pub returns-then-not-covers : goal.returns-then-not-covers
returns-then-not-covers c =
    let self = c.args.self.now in
    let op = c.args.op.now in
    let none : list_any (covers c.args.unit op) self.reads ≡ false = sym c.covers.ensures ∙ c.if-not-covers.true in
    λ i. record self {
      locks = table_given_back c.args.recoverable c.args.unit (file_of op) (if sym none i then read_at self.reads c.args.unit (file_of op) else None) self.locks;
      reads = sym (filter_none (covers c.args.unit op) self.reads none) i;
    }

pub end_read-requires : goal.end_read-requires
end_read-requires c = record { short = read_short c.args.self.now.reads c.args.unit _ c.requires.short }

pub returns-in-Some : goal.returns-in-Some
returns-in-Some c =
    let self = c.args.self.now in
    let op = c.args.op.now in
    let some : list_any (covers c.args.unit op) self.reads ≡ true = sym c.covers.ensures ∙ c.if-not-covers.false in
    let file : c.in-Some.file.now ≡ file_of op = c.in-Some.ensures.file in
    c.end_read.ensures ∙ (λ i. record self {
      locks = table_given_back c.args.recoverable c.args.unit (file i) (read_at self.reads c.args.unit (file i)) self.locks;
      reads = filter (λ r. not (is_read_of c.args.unit (file i) r)) self.reads;
    }) ∙ (λ i. record self {
      locks = table_given_back c.args.recoverable c.args.unit (file_of op) (if sym some i then read_at self.reads c.args.unit (file_of op) else None) self.locks;
      reads = covered_rest c.args.unit op self.reads c.requires.once some i;
    })

-- a command on a queue covers no read
pub returns-in_default : goal.returns-in_default
returns-in_default c =
    let op = c.args.op.now in
    absurd (true≢false (sym (sym c.covers.ensures ∙ c.if-not-covers.false)
    ∙ queue_uncovered c.args.unit op c.args.self.now.reads (sym c.record.ensures.there ∙ ap is_some c.in_default.is)))
