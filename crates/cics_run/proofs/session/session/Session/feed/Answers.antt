use Rattle.std.proofs.Common.{arith, [], ◌∷◌, ◌++◌, ◌+◌, ◌≤◌, length, subst, sym, ◌∙◌, refl}
use Rattle.cics_run.specs.Session.Running.{journal}
use Rattle.cics_run.specs.Session.Printing.{AppendsFront}
use Rattle.cics_run.specs.Session.Standing.{Stands, Stopped}
use Rattle.cics_run.proofs.OfSession.Steps.{cut-line, stands-bytes, stands-line, stopped-line, ran-cut, prints-cut, front-cut, front-line, front-here, all-came, line-came, some-came, behind-line}
use Rattle.cics_run.proofs.OfSession.Counting.{rises-first}
use Rattle.cics_run.proofs.session.session.Session.feed.Goals as goal

pub returns-in-Err-clause-feeds : goal.returns-in-Err-clause-feeds
returns-in-Err-clause-feeds g c form bytes before at =
    let (done, whole, bound, counted, stands) = c.lines.invariant in
    subst (λ b. AppendsFront before (g.K.Sink.contents c.lines.sink) (journal form b)) (some-came bytes done [] _ c.lines.rest.now c.args.chunk.now refl whole)
    (front-here form (bytes ++ done) c.lines.rest.now before _ _ (stands form bytes before at))

pub returns-in-Ok-write-clause-feeds : goal.returns-in-Ok-write-clause-feeds
returns-in-Ok-write-clause-feeds g c form bytes before at =
    let cut = cut-line c.lines.rest.now c.split_at.result.0.now c.split_at.result.1.now _ c.line_len.ensures.value c.split_at.ensures.front c.split_at.ensures.back in
    let (done, whole, bound, counted, stands) = c.lines.invariant in
    let came = stands-bytes form (bytes ++ done) c.split_at.result.0.now before (g.K.Sink.contents c.lines.sink) c.lines.self (record c.lines.self { line = c.extend_from_slice.new.self }) cut.in_line (stands form bytes before at) refl refl c.in-Ok.ensures.items refl refl in
    let all = all-came bytes done c.split_at.result.0.now c.split_at.result.1.now c.lines.rest.now c.args.chunk.now cut.whole whole c.in_default.ensures.cases in
    let there = subst (λ x. Stands form x before (g.K.Sink.contents c.lines.sink) (record c.lines.self { line = c.extend_from_slice.new.self })) all came in
    (c.in-Ok-write.ensures.writes form (bytes ++ c.args.chunk.now) before there).0

pub returns-in-Err-write-clause-feeds : goal.returns-in-Err-write-clause-feeds
returns-in-Err-write-clause-feeds g c form bytes before at =
    let cut = cut-line c.lines.rest.now c.split_at.result.0.now c.split_at.result.1.now _ c.line_len.ensures.value c.split_at.ensures.front c.split_at.ensures.back in
    let (done, whole, bound, counted, stands) = c.lines.invariant in
    let came = stands-bytes form (bytes ++ done) c.split_at.result.0.now before (g.K.Sink.contents c.lines.sink) c.lines.self (record c.lines.self { line = c.extend_from_slice.new.self }) cut.in_line (stands form bytes before at) refl refl c.in-Ok.ensures.items refl refl in
    let all = all-came bytes done c.split_at.result.0.now c.split_at.result.1.now c.lines.rest.now c.args.chunk.now cut.whole whole c.in_default.ensures.cases in
    let there = subst (λ x. Stands form x before (g.K.Sink.contents c.lines.sink) (record c.lines.self { line = c.extend_from_slice.new.self })) all came in
    c.in-Err-write.ensures.writes form (bytes ++ c.args.chunk.now) before there

pub returns-in-Ok-true-clause-feeds : goal.returns-in-Ok-true-clause-feeds
returns-in-Ok-true-clause-feeds g c form bytes before at =
    let cut = cut-line c.lines.rest.now c.split_at.result.0.now c.split_at.result.1.now _ c.line_len.ensures.value c.split_at.ensures.front c.split_at.ensures.back in
    let (done, whole, bound, counted, stands) = c.lines.invariant in
    let first = c.in-Some.ensures.cases.0 in
    let came = stands-bytes form (bytes ++ done) c.split_at.result.0.now before (g.K.Sink.contents c.lines.sink) c.lines.self (record c.lines.self { line = c.extend_from_slice.new.self }) cut.in_line (stands form bytes before at) refl refl c.in-Ok.ensures.items refl refl in
    let e = line-came bytes done c.split_at.result.0.now c.split_at.result.1.now c.in-Some.after.now c.lines.rest.now c.args.chunk.now c.in-Some.field-0-0.now cut.whole whole first (cut.lf _ _ first) in
    let s = record c.lines.self { line = c.extend_from_slice.new.self } in
    let t = c.run_kept.new.self in
    let line = c.drop_cr.new.line in
    subst (λ b. Stopped form b before (g.K.Sink.contents c.run_kept.new.sink) t) e
    (stopped-line form ((bytes ++ done) ++ c.split_at.result.0.now) c.in-Some.after.now before _ _ s t came (ran-cut s line c.drop_cr.ensures t c.in-Ok-true.ensures.ran) ((rw c.in-Ok-true.field-0-test at c.in-Ok-true.ensures.line) ∙ c.drop_cr.ensures)
    (prints-cut s line c.drop_cr.ensures t _ _ _ c.in-Ok-true.ensures.printed) (c.in-Ok-true.ensures.left c.in-Ok-true.field-0-test) (sym c.in-Ok-true.field-0-test ∙ c.in-Ok-true.ensures.fault))

pub lines-preserved : goal.lines-preserved
lines-preserved g c =
    let cut = cut-line c.lines.rest.now c.split_at.result.0.now c.split_at.result.1.now _ c.line_len.ensures.value c.split_at.ensures.front c.split_at.ensures.back in
    let (done, whole, bound, counted, stands) = c.lines.invariant in
    let first = c.in-Some.ensures.cases.0 in
    let fewer = c.in-Some.ensures.cases.1 in
    let number = c.in-Ok-false.ensures.ran.number in
    let within : c.run_kept.new.self.number + length c.in-Some.after.now ≤ c.args.self.now.number + length c.args.chunk.now = omega (arith, number, fewer, bound, c.split_at.ensures.back_len) in (
      (done ++ c.split_at.result.0.now) ++ 10 ∷ [],
      line-came [] done c.split_at.result.0.now c.split_at.result.1.now c.in-Some.after.now c.lines.rest.now c.args.chunk.now c.in-Some.field-0-0.now cut.whole whole first (cut.lf _ _ first),
      within,
      rises-first _ _ _ 0 counted c.in-Ok-false.ensures.failed,
      λ form bytes before at.
          let s = record c.lines.self { line = c.extend_from_slice.new.self } in
          let t = c.run_kept.new.self in
          let line = c.drop_cr.new.line in
          let came = stands-bytes form (bytes ++ done) c.split_at.result.0.now before (g.K.Sink.contents c.lines.sink) c.lines.self (record c.lines.self { line = c.extend_from_slice.new.self }) cut.in_line (stands form bytes before at) refl refl c.in-Ok.ensures.items refl refl in
          rw (behind-line bytes done c.split_at.result.0.now (10 ∷ []))
          (stands-line form _ _ _ _ s t came (ran-cut s line c.drop_cr.ensures t c.in-Ok-false.ensures.ran) (rw c.in-Ok-false.field-0-test at c.in-Ok-false.ensures.line)
          (prints-cut s line c.drop_cr.ensures t _ _ _ c.in-Ok-false.ensures.printed) (sym c.in-Ok-false.field-0-test ∙ c.in-Ok-false.ensures.fault)),
    )

pub returns-in-Err-run_kept-clause-feeds : goal.returns-in-Err-run_kept-clause-feeds
returns-in-Err-run_kept-clause-feeds g c form bytes before at =
    let cut = cut-line c.lines.rest.now c.split_at.result.0.now c.split_at.result.1.now _ c.line_len.ensures.value c.split_at.ensures.front c.split_at.ensures.back in
    let (done, whole, bound, counted, stands) = c.lines.invariant in
    let first = c.in-Some.ensures.cases.0 in
    let came = stands-bytes form (bytes ++ done) c.split_at.result.0.now before (g.K.Sink.contents c.lines.sink) c.lines.self (record c.lines.self { line = c.extend_from_slice.new.self }) cut.in_line (stands form bytes before at) refl refl c.in-Ok.ensures.items refl refl in
    let e = line-came bytes done c.split_at.result.0.now c.split_at.result.1.now c.in-Some.after.now c.lines.rest.now c.args.chunk.now c.in-Some.field-0-0.now cut.whole whole first (cut.lf _ _ first) in
    let s = record c.lines.self { line = c.extend_from_slice.new.self } in
    subst (λ b. AppendsFront before (g.K.Sink.contents c.run_kept.new.sink) (journal form b)) e
    (front-line form ((bytes ++ done) ++ c.split_at.result.0.now) c.in-Some.after.now before _ _ s came
    (front-cut s c.drop_cr.new.line c.drop_cr.ensures c.run_kept.new.self _ _ c.in-Err-run_kept.ensures.err))
