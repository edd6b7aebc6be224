use Rattle.std.proofs.Common.{rules, arith, ◌≡◌, ◌≤◌, ◌∙◌, sym, subst, length, None}
use Rattle.std.specs.Prelude.{slice_get, All}
use Rattle.cics_dispatch.specs.Notes.Firsts.{IsFirstBelow}
use Rattle.cics_dispatch.specs.Machine.Machine.{task_at}
use Rattle.cics_dispatch.specs.Machine.Waits.{AreApart}
use Rattle.cics_dispatch.specs.Notes.Notes.{count}
use Rattle.cics_dispatch.specs.Notes.Notes.{never}
use Rattle.cics_dispatch.proofs.OfMachine.Deadlines.{IsLateAt, late_at, none_late_at_all, late_unnoted, late_has_task, late_first, late_place}
use Rattle.cics_dispatch.proofs.dispatcher.Dispatcher.first_late.Goals as goal
use Rattle.cics_dispatch.proofs.dispatcher.Dispatcher.first_late.Goals.{After-first_late, In_default, In-Some}

in_range : (c : After-first_late) → c.args.self.now.machine.clock ≤ never
in_range c =
    let fits : c.self.inside.clock ≤ never = search (rules, arith) in
    subst (λ r. r.machine.clock ≤ never) c.self.view_is fits

-- no deadline has come
none_come : (c : In_default) → All (λ k. c.args.self.now.machine.clock ≤ k) c.args.notes.now.deadlines
none_come c = subst (λ r. All (λ k. r.machine.clock ≤ k) c.args.notes.now.deadlines) c.self.view_is c.in_default.ensures

-- the first deadline that has come
late : (c : In-Some) → c.args.self.now.machine.clock ≤ never → IsLateAt c.args.self.now.machine c.args.notes.now.rows c.args.self.now.machine.waiting c.in-Some.place
late c clock =
    let v = c.args.notes.now in
    let first = subst (λ r. IsFirstBelow v.deadlines r.machine.clock c.in-Some.place) c.self.view_is c.in-Some.ensures in
    late_at c.args.self.now.machine clock v.rows c.args.self.now.machine.waiting v.deadlines c.in-Some.place c.requires.noted.due first

pub returns-then-are_all_noted-clause-none : goal.returns-then-are_all_noted-clause-none
returns-then-are_all_noted-clause-none c =
    let at = goal.at.returns-then-are_all_noted-clause-none c in
    let m = c.args.self.now.machine in
    let v = c.args.notes.now in
    let all : count v.rows ≡ length m.waiting = search (rules, arith) in
    none_late_at_all m (in_range at.After-first_late) v.rows m.waiting v.deadlines c.requires.noted.due (none_come at.In_default) all

pub returns-in_default-clause-note : goal.returns-in_default-clause-note
returns-in_default-clause-note c t there =
    let at = goal.at.returns-in_default-clause-note c in
    let m = c.args.self.now.machine in
    let v = c.args.notes.now in
    let apart = subst (λ r. AreApart r.machine.waiting) c.self.view_is c.len.ensures.once in
    late_unnoted m (in_range at.After-first_late) v.rows m.waiting v.deadlines t apart c.requires.noted.due (none_come at.In_default) (sym c.in_ok-task.ensures.task ∙ there)

pub label_at-requires : goal.label_at-requires
label_at-requires c =
    let at = goal.at.label_at-requires c in
    let its = late at.In-Some (in_range at.After-first_late) in
    record { there = (its.note, its.there) }

pub unreachable-requires : goal.unreachable-requires
unreachable-requires c =
    let at = goal.at.unreachable-requires c in
    let m = c.args.self.now.machine in
    late_has_task m c.args.notes.now.rows m.waiting c.in-Some.place c.label_at.result (late at.In-Some (in_range at.After-first_late)) (λ n there. c.label_at.ensures n there)
    (subst (λ r. task_at r.machine.tasks c.label_at.result ≡ None) c.self.view_is c.in_default-find.ensures.none)

pub returns-clause-task : goal.returns-clause-task
returns-clause-task c =
    let at = goal.at.returns-clause-task c in
    let m = c.args.self.now.machine in
    let task = c.in-Some-find.task in
    late_first m c.args.notes.now.rows m.waiting c.in-Some.place c.label_at.result (late at.In-Some (in_range at.After-first_late)) (λ n there. c.label_at.ensures n there) task
    (subst (λ r. slice_get r.machine.tasks task ≡ task_at r.machine.tasks c.label_at.result) c.self.view_is c.in-Some-find.ensures.task)

pub returns-clause-note : goal.returns-clause-note
returns-clause-note c t there =
    let at = goal.at.returns-clause-note c in
    let m = c.args.self.now.machine in
    let task = c.in-Some-find.task in
    late_place m c.args.notes.now.rows m.waiting c.in-Some.place c.label_at.result (late at.In-Some (in_range at.After-first_late)) (λ n there. c.label_at.ensures n there) task
    (subst (λ r. slice_get r.machine.tasks task ≡ task_at r.machine.tasks c.label_at.result) c.self.view_is c.in-Some-find.ensures.task) t there
