use Rattle.std.proofs.Common.{arith, refl, ◌≡◌, Bool, false, [], ◌++◌, ◌+◌, ◌<◌, ◌≤◌, length, take, drop, length-append, subst, sym, length-take-le, length-take, length-drop}
use Rattle.std.specs.Io.KnownBytes.{Appends}
use Rattle.cics_run.specs.Session.Running.{journal, is_stopped}
use Rattle.cics_run.specs.declared.session.running.TheConstants.{MOST_SCRIPT_BYTES}
use Rattle.cics_run.specs.Session.Wanted.{form_of}
use Rattle.cics_run.proofs.OfSession.Known.{consumes-append, consumes-nothing}
use Rattle.cics_run.proofs.OfSession.Counting.{rises-first, rises-rises, rises-nothing}
use Rattle.cics_run.proofs.OfSession.RunCounts.{asked-within, stop-reads, stop-writes, ended-reads, ended-writes}
use Rattle.cics_run.proofs.OfSession.Reading.{number-bound, front-of, chunk-length, within-chunk, reads-going, reads-chunk, stopped-output, stopped-keeps, ended-keeps, stands-new, all-written, read_more, read_nothing, one_more, runs-stop, runs-ended}
use Rattle.cics_run.proofs.session.running.run_over.Goals as goal

pub finish-requires : goal.finish-requires
finish-requires g c =
    let (bytes, read, at, none, counts, room, whole) = c.reads.invariant in
    omega (arith, number-bound (form_of c.args.wanted) bytes _ _ _ at, room)

pub feed-requires : goal.feed-requires
feed-requires g c =
    let (bytes, read, at, none, counts, room, whole) = c.reads.invariant in
    let n = c.in-Ok.field-0 in
    let got = c.read.new.buffer in
    let fits : n ≤ length got = c.in-Ok.ensures.bound.0 in
    rw (front-of n got (drop c.max-size.result c.reads.buffer) fits) (omega (arith, number-bound (form_of c.args.wanted) bytes _ _ _ at, room, length-take-le n got fits, fits, c.read.auto.buffer, length-take c.max-size.result c.reads.buffer, c.max-size.ensures, c.min.ensures))

pub returns-in-Ok-eq0-clause-whole_run : goal.returns-in-Ok-eq0-clause-whole_run
returns-in-Ok-eq0-clause-whole_run g c =
    let (bytes, read, at, none, counts, room, whole) = c.reads.invariant in
    let zero = c.in-Ok-eq0.field-0-test in
    let some : 0 < length c.read.new.buffer = omega (arith, c.read.auto.buffer, length-take c.max-size.result c.reads.buffer, c.max-size.ensures, whole) in
    rw c.ended.ensures (runs-ended (form_of c.args.wanted) bytes _ _ _ _ _ c.finish.new.self c.finish.result
    (read_nothing _ _ _ bytes c.read.new.buffer c.in-Ok-eq0.field-0 zero read c.in-Ok-eq0.ensures.bytes.0) (omega (arith, room))
    (reads-going bytes _ at.going (rw zero at c.in-Ok-eq0.ensures.last))
    (c.in-Ok-eq0.ensures.bytes.1 zero some) (c.finish.ensures.finishes bytes (g.K.Sink.contents c.args.sink.now) at))

pub returns-in-Ok-eq0-clause-kept : goal.returns-in-Ok-eq0-clause-kept
returns-in-Ok-eq0-clause-kept g c =
    let (bytes, read, at, none, counts, room, whole) = c.reads.invariant in
    rw c.ended.ensures (ended-keeps (form_of c.args.wanted) bytes _ _ _ _ c.finish.new.self c.finish.result
    (read_nothing _ _ _ bytes c.read.new.buffer c.in-Ok-eq0.field-0 c.in-Ok-eq0.field-0-test read c.in-Ok-eq0.ensures.bytes.0)
    (c.finish.ensures.finishes bytes (g.K.Sink.contents c.args.sink.now) at))

pub returns-in-Ok-true-clause-kept : goal.returns-in-Ok-true-clause-kept
returns-in-Ok-true-clause-kept g c =
    let (bytes, read, at, none, counts, room, whole) = c.reads.invariant in
    let n = c.in-Ok.field-0 in
    let got = c.read.new.buffer in
    let rest = drop c.max-size.result c.reads.buffer in
    let fits : n ≤ length got = c.in-Ok.ensures.bound.0 in
    let now = bytes ++ take n (got ++ rest) in
    stopped-keeps (form_of c.args.wanted) now _ _ _ _ c.feed.new.self (read_more _ _ _ bytes got rest n fits read c.in-Ok.ensures.bytes.0)
    (rw c.in-Ok-true.field-0-test at (c.in-Ok-true.ensures.feeds (form_of c.args.wanted) bytes (g.K.Sink.contents c.args.sink.now) at))

pub returns-in-Ok-clause-whole_run : goal.returns-in-Ok-clause-whole_run
returns-in-Ok-clause-whole_run g c =
    let (bytes, read, at, none, counts, room, whole) = c.reads.invariant in
    let n = c.in-Ok.field-0 in
    let got = c.read.new.buffer in
    let fits : n ≤ length got = c.in-Ok.ensures.bound.0 in
    let full : length bytes ≡ MOST_SCRIPT_BYTES = omega (arith, room, c.if-room-eq0.true) in
    let one : n ≡ 1 = omega (arith, fits, c.in-Ok.field-0-test.1, c.read.auto.buffer, length-take c.max-size.result c.reads.buffer, c.max-size.ensures, c.min.ensures, c.if-room-eq0.true) in
    let (over, front) = one_more bytes got n MOST_SCRIPT_BYTES full one fits in (
      bytes ++ take n got,
      consumes-append _ _ _ bytes _ read c.in-Ok.ensures.bytes.0,
      omega (arith, over),
      reads-chunk bytes (take n got) _ at.going (omega (arith, one, length-take-le n got fits)) c.in-Ok.ensures.last,
      (
        over,
        subst (λ b. is_stopped b ≡ false) (sym front) at.going,
        subst (λ b. Appends (g.K.Sink.contents c.args.sink.now) (g.K.Sink.contents c.reads.sink) (journal (form_of c.args.wanted) b)) (sym front) (all-written (form_of c.args.wanted) bytes _ _ _ at none),
      ),
    )

pub returns-in-Ok-true-clause-whole_run : goal.returns-in-Ok-true-clause-whole_run
returns-in-Ok-true-clause-whole_run g c =
    let (bytes, read, at, none, counts, room, whole) = c.reads.invariant in
    let n = c.in-Ok.field-0 in
    let got = c.read.new.buffer in
    let rest = drop c.max-size.result c.reads.buffer in
    let fits : n ≤ length got = c.in-Ok.ensures.bound.0 in
    let count = chunk-length n got rest fits in
    let size : (n ≤ c.reads.room) × (n ≤ 65536) = (omega (arith, fits, c.read.auto.buffer, length-take c.max-size.result c.reads.buffer, c.max-size.ensures, c.min.ensures, c.if-room-eq0.false), omega (arith, fits, c.read.auto.buffer, length-take c.max-size.result c.reads.buffer, whole)) in
    let now = bytes ++ take n (got ++ rest) in (
      now,
      read_more _ _ _ bytes got rest n fits read c.in-Ok.ensures.bytes.0,
      within-chunk bytes (take n (got ++ rest)) n c.reads.room count size.0 room,
      reads-chunk bytes (take n (got ++ rest)) _ at.going (omega (arith, count, size.1)) (rw (front-of n got rest fits) c.in-Ok.ensures.last),
      stopped-output (form_of c.args.wanted) now (g.S.Source.remaining c.read.new.self) _ _ c.feed.new.self (rw c.in-Ok-true.field-0-test at (c.in-Ok-true.ensures.feeds (form_of c.args.wanted) bytes (g.K.Sink.contents c.args.sink.now) at)),
    )

pub returns-in-Err-feed-clause-whole_run : goal.returns-in-Err-feed-clause-whole_run
returns-in-Err-feed-clause-whole_run g c =
    let (bytes, read, at, none, counts, room, whole) = c.reads.invariant in
    let n = c.in-Ok.field-0 in
    let got = c.read.new.buffer in
    let rest = drop c.max-size.result c.reads.buffer in
    let fits : n ≤ length got = c.in-Ok.ensures.bound.0 in
    let count = chunk-length n got rest fits in
    let size : (n ≤ c.reads.room) × (n ≤ 65536) = (omega (arith, fits, c.read.auto.buffer, length-take c.max-size.result c.reads.buffer, c.max-size.ensures, c.min.ensures, c.if-room-eq0.false), omega (arith, fits, c.read.auto.buffer, length-take c.max-size.result c.reads.buffer, whole)) in
    rw c.fault_of.ensures (runs-stop (form_of c.args.wanted) (bytes ++ take n (got ++ rest)) _ _ _ _ _ c.in-Err-feed.stop (read_more _ _ _ bytes got rest n fits read c.in-Ok.ensures.bytes.0)
    (within-chunk bytes (take n (got ++ rest)) n c.reads.room count size.0 room)
    (reads-chunk bytes (take n (got ++ rest)) _ at.going (omega (arith, count, size.1)) (rw (front-of n got rest fits) c.in-Ok.ensures.last))
    (c.in-Err-feed.ensures.feeds (form_of c.args.wanted) bytes (g.K.Sink.contents c.args.sink.now) at))

pub reads-preserved : goal.reads-preserved
reads-preserved g c =
    let (bytes, read, at, none, ((reads, asked, few), failed, written), room, whole) = c.reads.invariant in
    let n = c.in-Ok.field-0 in
    let got = c.read.new.buffer in
    let rest = drop c.max-size.result c.reads.buffer in
    let fits : n ≤ length got = c.in-Ok.ensures.bound.0 in
    let count : length (take n (got ++ rest)) ≡ n = chunk-length n got rest fits in
    let fit : n ≤ c.reads.room = omega (arith, fits, c.read.auto.buffer, length-take c.max-size.result c.reads.buffer, c.max-size.ensures, c.min.ensures, c.if-room-eq0.false) in (
      bytes ++ take n (got ++ rest),
      read_more _ _ _ bytes got rest n fits read c.in-Ok.ensures.bytes.0,
      rw c.in-Ok-false.field-0-test at (c.in-Ok-false.ensures.feeds (form_of c.args.wanted) bytes (g.K.Sink.contents c.args.sink.now) at),
      c.in-Ok-false.ensures.left c.in-Ok-false.field-0-test,
      (
        (reads + 1, rises-rises _ _ _ reads 1 asked c.in-Ok.ensures.asked, rw length-append (omega (arith, few, count, c.in-Ok.field-0-test.1))),
        rises-first _ _ _ 0 failed c.in-Ok.ensures.failed,
        rises-first _ _ _ 0 written c.in-Ok-false.ensures.failed,
      ),
      rw length-append (omega (arith, room, count, fit)),
      rw length-append (omega (arith, whole, c.read.auto.buffer, length-take c.max-size.result c.reads.buffer, length-drop c.max-size.result c.reads.buffer)),
    )

pub reads-init : goal.reads-init
reads-init g c = (
  [],
  consumes-nothing _,
  stands-new (form_of c.args.wanted) _ _ _ _ c.scope-session.ensures c.watcher.ensures c.requires.new,
  c.requires.new.pending,
  ((0, rises-nothing _, omega arith), rises-nothing _, rises-nothing _),
  refl,
  refl,
)

pub returns-in-Ok-eq0-clause-read_faults : goal.returns-in-Ok-eq0-clause-read_faults
returns-in-Ok-eq0-clause-read_faults g c =
    let (bytes, read, at, none, ((reads, asked, few), failed, written), room, whole) = c.reads.invariant in
    rw c.ended.ensures (ended-reads _ _ _ c.finish.result failed c.in-Ok-eq0.ensures.failed)

pub returns-in-Ok-eq0-clause-write_faults : goal.returns-in-Ok-eq0-clause-write_faults
returns-in-Ok-eq0-clause-write_faults g c =
    let (bytes, read, at, none, ((reads, asked, few), failed, written), room, whole) = c.reads.invariant in
    rw c.ended.ensures (ended-writes _ _ _ c.finish.result written c.finish.ensures.failed)

pub returns-in-Ok-clause-read_faults : goal.returns-in-Ok-clause-read_faults
returns-in-Ok-clause-read_faults g c =
    let (bytes, read, at, none, ((reads, asked, few), failed, written), room, whole) = c.reads.invariant in
    rises-first _ _ _ 0 failed c.in-Ok.ensures.failed

pub returns-in-Ok-clause-write_faults : goal.returns-in-Ok-clause-write_faults
returns-in-Ok-clause-write_faults g c =
    let (bytes, read, at, none, ((reads, asked, few), failed, written), room, whole) = c.reads.invariant in
    written

pub returns-in-Ok-clause-kept : goal.returns-in-Ok-clause-kept
returns-in-Ok-clause-kept g c = tt

pub returns-in-Ok-true-clause-read_faults : goal.returns-in-Ok-true-clause-read_faults
returns-in-Ok-true-clause-read_faults g c =
    let (bytes, read, at, none, ((reads, asked, few), failed, written), room, whole) = c.reads.invariant in
    rises-first _ _ _ 0 failed c.in-Ok.ensures.failed

pub returns-in-Ok-true-clause-write_faults : goal.returns-in-Ok-true-clause-write_faults
returns-in-Ok-true-clause-write_faults g c =
    let (bytes, read, at, none, ((reads, asked, few), failed, written), room, whole) = c.reads.invariant in
    rises-first _ _ _ 0 written c.in-Ok-true.ensures.failed

pub returns-in-Err-feed-clause-read_faults : goal.returns-in-Err-feed-clause-read_faults
returns-in-Err-feed-clause-read_faults g c =
    let (bytes, read, at, none, ((reads, asked, few), failed, written), room, whole) = c.reads.invariant in
    rw c.fault_of.ensures (stop-reads _ _ _ c.in-Err-feed.stop failed c.in-Ok.ensures.failed)

pub returns-in-Err-feed-clause-write_faults : goal.returns-in-Err-feed-clause-write_faults
returns-in-Err-feed-clause-write_faults g c =
    let (bytes, read, at, none, ((reads, asked, few), failed, written), room, whole) = c.reads.invariant in
    rw c.fault_of.ensures (stop-writes Bool _ _ _ c.in-Err-feed.stop written c.in-Err-feed.ensures.failed)

pub returns-in-Err-feed-clause-kept : goal.returns-in-Err-feed-clause-kept
returns-in-Err-feed-clause-kept g c = tt

pub returns-in-Err-clause-read_faults : goal.returns-in-Err-clause-read_faults
returns-in-Err-clause-read_faults g c =
    let (bytes, read, at, none, ((reads, asked, few), failed, written), room, whole) = c.reads.invariant in
    rises-first _ _ _ 1 failed c.in-Err.ensures.failed

pub returns-in-Err-clause-write_faults : goal.returns-in-Err-clause-write_faults
returns-in-Err-clause-write_faults g c =
    let (bytes, read, at, none, ((reads, asked, few), failed, written), room, whole) = c.reads.invariant in
    written

pub returns-in-Err-clause-kept : goal.returns-in-Err-clause-kept
returns-in-Err-clause-kept g c = tt

pub returns-in-Ok-eq0-clause-asked : goal.returns-in-Ok-eq0-clause-asked
returns-in-Ok-eq0-clause-asked g c =
    let (bytes, read, at, none, ((reads, asked, few), failed, written), room, whole) = c.reads.invariant in
    asked-within _ _ _ reads _ _ asked few room c.in-Ok-eq0.ensures.asked

pub returns-in-Ok-clause-asked : goal.returns-in-Ok-clause-asked
returns-in-Ok-clause-asked g c =
    let (bytes, read, at, none, ((reads, asked, few), failed, written), room, whole) = c.reads.invariant in
    asked-within _ _ _ reads _ _ asked few room c.in-Ok.ensures.asked

pub returns-in-Ok-true-clause-asked : goal.returns-in-Ok-true-clause-asked
returns-in-Ok-true-clause-asked g c =
    let (bytes, read, at, none, ((reads, asked, few), failed, written), room, whole) = c.reads.invariant in
    asked-within _ _ _ reads _ _ asked few room c.in-Ok.ensures.asked

pub returns-in-Err-feed-clause-asked : goal.returns-in-Err-feed-clause-asked
returns-in-Err-feed-clause-asked g c =
    let (bytes, read, at, none, ((reads, asked, few), failed, written), room, whole) = c.reads.invariant in
    asked-within _ _ _ reads _ _ asked few room c.in-Ok.ensures.asked

pub returns-in-Err-clause-asked : goal.returns-in-Err-clause-asked
returns-in-Err-clause-asked g c =
    let (bytes, read, at, none, ((reads, asked, few), failed, written), room, whole) = c.reads.invariant in
    asked-within _ _ _ reads _ _ asked few room c.in-Err.ensures.asked
