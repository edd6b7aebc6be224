use Rattle.std.proofs.Common.{◌∙◌, sym, ap}
use Rattle.cics_names.specs.Keyed.{value_at}
use Rattle.cics_history.specs.declared.ops.Answer.{Answer}
use Rattle.cics_units.proofs.OfOpening.Changing.{IfOk-more}
use Rattle.cics_units.proofs.FileChanges.{read_answer}
use Rattle.cics_units.proofs.units_core.UnitsCore.given_record.Goals as goal

pub returns-in-ReadUpdate : goal.returns-in-ReadUpdate
returns-in-ReadUpdate c =
    let f = c.in-ReadUpdate.file in
    let k = c.in-ReadUpdate.key in
    let file = c.at.result.now in
    rw c.in-ReadUpdate.is (IfOk-more c.copied.result _ _ (λ copy is.
    is ∙ c.read.ensures ∙ ap (λ k. value_at k file.records) c.bytes.ensures
    ∙ sym (ap (λ (a : Answer). a.content) (read_answer c.args.self.now.store f file c.at.ensures.value k))) c.copied.ensures)
