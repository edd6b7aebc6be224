use Rattle.std.proofs.Common.{◌∙◌, ◌<◌, ◌∷◌, ◌++◌, [], ap, Some, length, refl, arith}
use Rattle.std.proofs.lemmas.Option.{slice_get_read}
use Rattle.std.proofs.lemmas.Result.{on_ok_weaker}
use Rattle.cics_units.specs.OpenReads.{reads_from}
use Rattle.cics_units.proofs.OpenReads.{one_more_row, read_now, opened_now}
use Rattle.cics_units.proofs.open_reads.OpenReads.open.Goals as goal

pub loop-self-preserved : goal.loop-self-preserved
loop-self-preserved c =
    ap (reads_from 0) (c.in_ok-push.ensures.items ∙ ap (λ row. c.loop-self.self-inside.rows.items ++ row ∷ []) c.new.ensures)
    ∙ one_more_row 0 c.loop-self.self-inside.rows.items ∙ c.loop-self.invariant

pub open-requires : goal.open-requires
open-requires c =
    let rows = c.loop-self.self-inside.rows.items in
    let inside : c.number-at.result < length rows = omega (arith, c.loop-self-test.false, c.len.ensures) in
    read_now c.number-at.result c.args.unit c.args.file rows c.args.self.now c.number-at.ensures c.loop-self.invariant (Some c.index_mut.result.now)
    (slice_get_read rows (length rows) c.number-at.result c.index_mut.result.now refl inside c.index_mut.ensures.value)
    ∙ c.requires

pub returns-clause-reads : goal.returns-clause-reads
returns-clause-reads c =
    let rows = c.loop-self.self-inside.rows.items in
    let inside : c.number-at.result < length rows = omega (arith, c.loop-self-test.false, c.len.ensures) in
    let there = slice_get_read rows (length rows) c.number-at.result c.index_mut.result.now refl inside c.index_mut.ensures.value in
    let absent = read_now c.number-at.result c.args.unit c.args.file rows c.args.self.now c.number-at.ensures c.loop-self.invariant (Some c.index_mut.result.now) there ∙ c.requires in
    on_ok_weaker c.open.result
    (opened_now c.number-at.result c.args.unit c.args.file rows c.args.self.now c.number-at.ensures c.loop-self.invariant c.args.key c.index_mut.result.now c.open.new.self there absent) c.open.ensures.reads
