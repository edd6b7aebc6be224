use Rattle.std.proofs.Common.{◌∙◌, ap, length, refl}
use Rattle.std.proofs.lemmas.Option.{slice_get_read, slice_get_past}
use Rattle.cics_units.specs.OpenReads.{reads_from}
use Rattle.cics_units.proofs.OpenReads.{ended_now, ended_without}
use Rattle.cics_units.proofs.open_reads.OpenReads.end.Goals as goal
use Rattle.cics_units.proofs.open_reads.OpenReads.end.Goals.{in-Some, in_default}

pub returns : goal.returns
returns c =
    let rows = c.self.inside.rows.items in
    elim c.match-get_mut.branch [
      | in-Some w ↦
          ap (λ s. reads_from 0 s.rows.items) w.self-inside-is
          ∙ ended_now c.number-at.result c.args.unit rows c.args.self.now c.number-at.ensures c.self.view_is w.in-Some.reads.now w.new.result
          (slice_get_read rows (length rows) c.number-at.result w.in-Some.reads.now refl w.in-Some.ensures.item.3.0 w.in-Some.ensures.item.1) w.new.ensures
      | in_default w ↦
          ap (λ s. reads_from 0 s.rows.items) w.self-inside-is
          ∙ ended_without c.number-at.result c.args.unit rows c.args.self.now c.number-at.ensures c.self.view_is
          (slice_get_past rows c.number-at.result w.in_default.ensures.item.3)
    ]
