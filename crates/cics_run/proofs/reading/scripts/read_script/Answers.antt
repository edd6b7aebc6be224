use Rattle.std.proofs.Common.{arith, ◌≡◌, ◌≤◌, ◌++◌, length, take, drop, length-append, length-take}
use Rattle.cics_run.specs.declared.session.running.TheConstants.{MOST_SCRIPT_BYTES}
use Rattle.cics_run.proofs.OfSession.Known.{consumes-append}
use Rattle.cics_run.proofs.OfSession.Reading.{chunk-length, read_more, one_more}
use Rattle.cics_run.proofs.reading.scripts.read_script.Goals as goal

pub returns-in-Ok-clause-reads : goal.returns-in-Ok-clause-reads
returns-in-Ok-clause-reads g c =
    let (read, room, whole, asked, failed) = c.reads.invariant in
    let bytes = c.reads.script.items in
    let n = c.in-Ok.field-0 in
    let got = c.read.new.buffer in
    let fits : n ≤ length got = c.in-Ok.ensures.bound.0 in
    let full : length bytes ≡ MOST_SCRIPT_BYTES = omega (arith, room, c.if-room-eq0.true) in
    let one : n ≡ 1 = omega (arith, fits, c.in-Ok.field-0-test.1, c.read.auto.buffer, length-take c.max-size.result c.reads.buffer, c.max-size.ensures, c.min.ensures, c.if-room-eq0.true) in
    (bytes ++ take n got, consumes-append _ _ _ bytes _ read c.in-Ok.ensures.bytes.0, (one_more bytes got n MOST_SCRIPT_BYTES full one fits).0)

pub returns-in-Err-extend_from_slice-clause-reads : goal.returns-in-Err-extend_from_slice-clause-reads
returns-in-Err-extend_from_slice-clause-reads g c =
    let (read, room, whole, asked, failed) = c.reads.invariant in
    let bytes = c.reads.script.items in
    let n = c.in-Ok.field-0 in
    let got = c.read.new.buffer in
    let rest = drop c.max-size.result c.reads.buffer in
    let fits : n ≤ length got = c.in-Ok.ensures.bound.0 in
    let count = chunk-length n got rest fits in
    let fit : n ≤ c.reads.room = omega (arith, fits, c.read.auto.buffer, length-take c.max-size.result c.reads.buffer, c.max-size.ensures, c.min.ensures, c.if-room-eq0.false) in
    (bytes ++ take n (got ++ rest), read_more _ _ _ bytes got rest n fits read c.in-Ok.ensures.bytes.0, rw length-append (omega (arith, count, room, fit)))
