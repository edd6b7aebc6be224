use Rattle.std.proofs.Common.{◌≡◌, ◌∙◌, ap, sym, subst, rules}
use Rattle.cics_images.specs.Cells.{is_other}
use Rattle.cics_tempstor.specs.Queues.{queues_of, places_of, ts_swept}
use Rattle.cics_tempstor.specs.Shown.{queues_of-swept, places_of-swept}
use Rattle.cics_tempstor.specs.Undo.{KeepsQueues}
use Rattle.cics_tempstor.specs.UndoLaws.{without_keeps}
use Rattle.cics_tempstor.proofs.stores.TempStore.sweep.Goals as goal

pub returns-clause-others : goal.returns-clause-others
returns-clause-others c =
    let old = c.args.self.now in
    let q = c.args.name.now in
    subst (KeepsQueues (is_other q) old) (sym c.remove.ensures) (without_keeps old q)

pub returns-clause-queues : goal.returns-clause-queues
returns-clause-queues c =
    let old = c.args.self.now in
    let q = c.args.name.now in
    let swept : c.remove.new.self ≡ ts_swept old q = search rules in
    ap queues_of swept ∙ queues_of-swept old c.is_there.ensures.rising q

pub returns-clause-places : goal.returns-clause-places
returns-clause-places c =
    let old = c.args.self.now in
    let q = c.args.name.now in
    let swept : c.remove.new.self ≡ ts_swept old q = search rules in
    ap places_of swept ∙ places_of-swept old c.is_there.ensures.rising q
