use Rattle.std.proofs.Common.{◌≡◌, None, ◌∙◌, ap, sym, refl, ◌∷◌, [], ◌++◌, ◌+◌, ◌-◌, length}
use Rattle.std.specs.Map.{values_of}
use Rattle.std.proofs.lemmas.Map.Entries.{length-values_of}
use Rattle.indexmap.proofs.CallerLemmas.{insert_entry-new}
use Rattle.cics_names.specs.KeyedLaws.{pointwise-is_same}
use Rattle.cics_dispatch.specs.Machine.Machine.{task_at}
use Rattle.cics_dispatch.specs.Machine.Steps.{new_task}
use Rattle.cics_dispatch.proofs.OfMachine.TaskTable.{task_at-lookup, attached-values, attached-kept}
use Rattle.cics_dispatch.proofs.OfMachine.TaskOwners.{owners_attached, room_made}
use Rattle.cics_dispatch.proofs.machine.tasks.Tasks.attach.Goals as goal

pub invariant_of-self-2 : goal.invariant_of-self-2
invariant_of-self-2 c =
    let es = c.self.inside.rows.entries in
    let t = new_task c.args.label c.args.dtimout in
    let none : task_at (values_of es) c.args.label ≡ None = ap (λ l. task_at l c.args.label) c.self.view_is ∙ c.requires in
    let entered = c.in_ok-insert.ensures.entries ∙ insert_entry-new _ c.self.inside.rows c.args.label c.new-task.result (sym (task_at-lookup _ pointwise-is_same c.args.label es c.self.invariant.0.labelled) ∙ none) in
    let added = entered ∙ ap (λ t. es ++ (c.args.label, t) ∷ []) c.new-task.ensures in
    let values = attached-values es c.insert.new.self.entries t c.self.invariant.0 none refl added in
    let many : c.len-tasks.result ≡ length (values_of es) = c.len-tasks.ensures.len ∙ sym (length-values_of es) in
    let room = room_made (values_of es) (values_of c.insert.new.self.entries) t c.self.inside.owners c.reserve.new.self c.len-tasks.result many values c.reserve.ensures.entries
    (c.saturating_sub-room.ensures ∙ ap (λ n. c.len-tasks.result + c.len-tasks.result + 1 - n) c.len.ensures.len) c.in_ok-reserve.ensures.ok in (
      attached-kept es c.insert.new.self.entries t c.self.invariant.0 none refl added,
      owners_attached (values_of es) (values_of c.insert.new.self.entries) t c.self.inside.owners c.reserve.new.self c.self.invariant.1 refl values c.reserve.ensures.entries room,
    )

pub returns-clause-ok : goal.returns-clause-ok
returns-clause-ok c =
    let es = c.self.inside.rows.entries in
    let none : task_at (values_of es) c.args.label ≡ None = ap (λ l. task_at l c.args.label) c.self.view_is ∙ c.requires in
    let added = c.in_ok-insert.ensures.entries ∙ insert_entry-new _ c.self.inside.rows c.args.label c.new-task.result (sym (task_at-lookup _ pointwise-is_same c.args.label es c.self.invariant.0.labelled) ∙ none) in
    attached-values es c.insert.new.self.entries (new_task c.args.label c.args.dtimout) c.self.invariant.0 none refl (added ∙ ap (λ t. es ++ (c.args.label, t) ∷ []) c.new-task.ensures)
    ∙ ap (λ l. l ++ new_task c.args.label c.args.dtimout ∷ []) c.self.view_is
