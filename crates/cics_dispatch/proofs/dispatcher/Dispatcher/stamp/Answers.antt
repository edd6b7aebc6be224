use Rattle.std.proofs.Common.{◌∙◌, ◌++◌, ap}
use Rattle.std.proofs.lemmas.Result.{on_ok_weaker}
use Rattle.cics_names.proofs.Stamps.{appended_two}
use Rattle.cics_names.specs.Stamps.{number_stamp, flag_stamp, list_stamp}
use Rattle.cics_history.specs.Stamps.{shared_stamp}
use Rattle.cics_dispatch.specs.Machine.Stamps.{task_stamp, wait_stamp, region_stamp}
use Rattle.cics_dispatch.proofs.dispatcher.Dispatcher.stamp.Goals as goal

-- the five parts, one after the other
pub returns : goal.returns
unfolding region_stamp
returns c =
    let u = c.self.inside in
    let out = c.args.out.now.items in
    let shared = shared_stamp u.units.state in
    let down = flag_stamp u.is_down ++ shared in
    let clock = number_stamp u.clock ++ down in
    let waits = list_stamp wait_stamp u.waits ++ clock in
    on_ok_weaker c.stamp_shared.result (λ last.
    appended_two out (list_stamp (task_stamp u.units.state) u.tasks) waits c.in_ok-stamp_tasks.ensures
    (appended_two c.stamp_tasks.new.out.items (list_stamp wait_stamp u.waits) clock c.in_ok-stamp_waits.ensures
    (appended_two c.stamp_waits.new.out.items (number_stamp u.clock) down c.in_ok-stamp_number.ensures
    (appended_two c.stamp_number.new.out.items (flag_stamp u.is_down) shared c.in_ok-stamp_flag.ensures last)))
    ∙ ap (λ v. out ++ region_stamp v.machine) c.self.view_is) c.stamp_shared.ensures
