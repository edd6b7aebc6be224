use Rattle.std.proofs.Common.{arith, ◌≡◌, ◌∷◌, [], ◌++◌, ◌+◌, ap, refl, sym, ◌∙◌}
use Rattle.std.specs.List.{fold}
use Rattle.cics_run.specs.Session.Lines.{all_lines}
use Rattle.cics_run.specs.Reading.Checks.{unchecked, checked}
use Rattle.cics_run.proofs.OfSession.Known.{appends-nothing}
use Rattle.cics_run.proofs.OfSession.Printing.{behind-pending, prints-prints}
use Rattle.cics_run.proofs.OfSession.Counting.{rises-nothing, rises-first}
use Rattle.cics_run.proofs.OfReading.Checking.{all-checked, told-more}
use Rattle.cics_run.proofs.reading.checking.check_lines.Goals as goal

pub lines-init : goal.lines-init
lines-init g c = (
  unchecked,
  [],
  record { stage = c.new.ensures; like = refl; number = refl; faulty = refl; sure = refl; remarks = c.new-3.ensures },
  omega arith,
  omega arith,
  refl,
  rises-nothing _,
  ([], sym c.new-2.ensures.items, appends-nothing _),
  λ more told. told,
)

pub returns-in_default-clause-told : goal.returns-in_default-clause-told
returns-in_default-clause-told g c =
    let (k, told, at, few, faulty, all, counted, prints, tells) = c.lines.invariant in
    all-checked c.args.file c.args.script.now c.lines.rest.now told _ (g.K.Sink.contents c.lines.sink) _ c.lines.checker k c.finish.result at c.in_default.ensures.none all prints tells
    c.finish.ensures.told c.finish.ensures.status

pub lines-preserved : goal.lines-preserved
lines-preserved g c =
    let (k, told, at, few, faulty, all, counted, prints, tells) = c.lines.invariant in
    let line = c.in-Some.line.now in
    let cut : all_lines c.lines.rest.now ≡ line ∷ all_lines c.in-Some.after.now = c.in-Some.ensures.some in
    let behind = c.in_ok-check_line.ensures.behind k at in
    let (first, next, put) = c.in_ok-check_line.ensures.tells k at in
    let number : c.check_line.new.self.number ≡ k.number + 1 = behind.number in (
      checked k line,
      told ++ first,
      record { stage = behind.stage; like = behind.like; number = behind.number; faulty = behind.faulty; sure = behind.sure; remarks = behind.remarks },
      omega (arith, number, at.number, c.in-Some.ensures.less, few),
      c.in_ok-check_line.ensures.faulty,
      sym (ap (fold checked k) cut) ∙ all,
      rises-first _ _ _ 0 counted c.in_ok-write_printed.ensures.failed,
      prints-prints _ _ _ [] _ _ told first prints (behind-pending _ _ _ _ _ first put c.in_ok-write_printed.ensures.printed),
      told-more c.args.file k line told first (all_lines c.args.script.now) (all_lines c.lines.rest.now) (all_lines c.in-Some.after.now) cut next tells,
    )
