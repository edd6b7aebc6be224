use Rattle.std.proofs.Common.{◌≡◌, ◌∙◌, ap, sym, refl, true, false, None, is_some}
use Rattle.cics_names.specs.declared.conditions.Condition.TheVariants.{Invreq}
use Rattle.cics_names.specs.Commands.{file_named}
use Rattle.cics_names.specs.declared.commands.Verb.{Verb}
use Rattle.cics_names.specs.declared.commands.Verb.TheVariants.{Write, Rewrite, Delete, StartBr, ResetBr, ReadNext, ReadPrev, EndBr}
use Rattle.cics_dispatch.specs.Machine.Calls.{going_on, reading_on, reads_or_unlocks}
use Rattle.cics_dispatch.specs.Machine.Machine.{Task}
use Rattle.cics_dispatch.specs.Machine.Answers.{is_growing}
use Rattle.cics_names.specs.Keyed.{Bytes, value_at}
use Rattle.cics_dispatch.specs.Machine.Replies.{plain}
use Rattle.cics_dispatch.specs.Machine.Steps.{answered, browse_ended, other_command, reset, started}
use Rattle.cics_dispatch.specs.declared.machine.browses.Direction.TheVariants.{Forward, Back}
use Rattle.cics_dispatch.proofs.OfMachine.RegionSteps.{told_as, may_told_as}
use Rattle.cics_dispatch.proofs.OfMachine.RegionPerforming.{file_of, browse_of, moves_browse, on_error}
use Rattle.cics_dispatch.proofs.dispatcher.Dispatcher.perform_on_browse.Goals as goal

pub start_browse-requires-clause-there : goal.start_browse-requires-clause-there
start_browse-requires-clause-there c =
    file_of c.args.self.now.machine c.args.at c.args.command.verb c.in-StartBr.file c.requires.within c.requires.may (ap file_named c.in-StartBr.is)

pub reset_browse-requires-clause-there : goal.reset_browse-requires-clause-there
reset_browse-requires-clause-there c =
    file_of c.args.self.now.machine c.args.at c.args.command.verb c.in-ResetBr.file c.requires.within c.requires.may (ap file_named c.in-ResetBr.is)

pub reset_browse-requires-clause-browsing : goal.reset_browse-requires-clause-browsing
reset_browse-requires-clause-browsing c =
    browse_of c.args.self.now.machine c.args.at c.args.command.verb c.in-ResetBr.file c.requires.may (ap file_named c.in-ResetBr.is) (ap moves_browse c.in-ResetBr.is)

pub read_on-requires-clause-there : goal.read_on-requires-clause-there
read_on-requires-clause-there c =
    file_of c.args.self.now.machine c.args.at c.args.command.verb c.in-ReadNext.file c.requires.within c.requires.may (ap file_named c.in-ReadNext.is)

pub read_on-requires-clause-browsing : goal.read_on-requires-clause-browsing
read_on-requires-clause-browsing c =
    browse_of c.args.self.now.machine c.args.at c.args.command.verb c.in-ReadNext.file c.requires.may (ap file_named c.in-ReadNext.is) (ap moves_browse c.in-ReadNext.is)

pub read_on-requires-in-ReadPrev-clause-there : goal.read_on-requires-in-ReadPrev-clause-there
read_on-requires-in-ReadPrev-clause-there c =
    file_of c.args.self.now.machine c.args.at c.args.command.verb c.in-ReadPrev.file c.requires.within c.requires.may (ap file_named c.in-ReadPrev.is)

pub read_on-requires-in-ReadPrev-clause-browsing : goal.read_on-requires-in-ReadPrev-clause-browsing
read_on-requires-in-ReadPrev-clause-browsing c =
    browse_of c.args.self.now.machine c.args.at c.args.command.verb c.in-ReadPrev.file c.requires.may (ap file_named c.in-ReadPrev.is) (ap moves_browse c.in-ReadPrev.is)

pub returns-in-StartBr-clause-step : goal.returns-in-StartBr-clause-step
returns-in-StartBr-clause-step c =
    let m = c.args.self.now.machine in
    may_told_as c.args.self.now c.start_browse.new.self c.start_browse.result c.args.at
    (λ t. started m t c.args.command.resp c.in-StartBr.file c.take.result c.in-StartBr.generic c.in-StartBr.equal) (going_on m c.args.command None)
    (λ t there. ap (λ k. started m t c.args.command.resp c.in-StartBr.file k c.in-StartBr.generic c.in-StartBr.equal) c.take.ensures.taken
    ∙ ap (other_command m t c.args.command) (sym c.in-StartBr.is))
    c.start_browse.ensures.step

pub returns-in-ReadNext-clause-step : goal.returns-in-ReadNext-clause-step
returns-in-ReadNext-clause-step c =
    let m = c.args.self.now.machine in
    may_told_as c.args.self.now c.read_on.new.self c.read_on.result c.args.at
    (reading_on m c.args.command.resp c.in-ReadNext.file c.in-ReadNext.length Forward) (going_on m c.args.command None)
    (λ t there. ap (other_command m t c.args.command) (sym c.in-ReadNext.is)) c.read_on.ensures.step

pub returns-in-ReadPrev-clause-step : goal.returns-in-ReadPrev-clause-step
returns-in-ReadPrev-clause-step c =
    let m = c.args.self.now.machine in
    may_told_as c.args.self.now c.read_on-in-ReadPrev.new.self c.read_on-in-ReadPrev.result c.args.at
    (reading_on m c.args.command.resp c.in-ReadPrev.file c.in-ReadPrev.length Back) (going_on m c.args.command None)
    (λ t there. ap (other_command m t c.args.command) (sym c.in-ReadPrev.is)) c.read_on-in-ReadPrev.ensures.step

pub returns : goal.returns
returns c = record {
  step = told_as c.args.at (λ t. answered c.args.self.now.machine t c.args.command.resp c.plain_reply.result) (going_on c.args.self.now.machine c.args.command None)
      (λ t there. ap (answered c.args.self.now.machine t c.args.command.resp) c.plain_reply.ensures ∙ by t c.args.command.verb refl c.requires.named c.requires.other) c.answer.ensures.step;
  growing = tt;
}
  where
    -- a command that nothing else tells of is INVREQ
    by : (t : Task) (verb : Verb) → c.args.command.verb ≡ verb → is_some (file_named verb) ≡ true → reads_or_unlocks verb ≡ false →
        answered c.args.self.now.machine t c.args.command.resp (plain Invreq) ≡ other_command c.args.self.now.machine t c.args.command verb
    by t (StartBr f key given generic equal) is named other = absurd (c.in_default.not-StartBr _ _ _ _ _ is)
    by t (ResetBr f key given generic equal) is named other = absurd (c.in_default.not-ResetBr _ _ _ _ _ is)
    by t (ReadNext f n) is named other = absurd (c.in_default.not-ReadNext _ _ is)
    by t (ReadPrev f n) is named other = absurd (c.in_default.not-ReadPrev _ _ is)
    by t (EndBr f) is named other = absurd (c.in_default.not-EndBr _ is)
    by t (Write f key given from n) is named other = refl
    by t (Rewrite f from n) is named other = refl
    by t (Delete f key given generic) is named other = refl
    by t verb is named other = cc

pub start_browse-requires-clause-awake : goal.start_browse-requires-clause-awake
start_browse-requires-clause-awake c = c.requires.may.awake

pub reset_browse-requires-clause-awake : goal.reset_browse-requires-clause-awake
reset_browse-requires-clause-awake c = c.requires.may.awake

pub read_on-requires-clause-awake : goal.read_on-requires-clause-awake
read_on-requires-clause-awake c = c.requires.may.awake

pub read_on-requires-in-ReadPrev-clause-awake : goal.read_on-requires-in-ReadPrev-clause-awake
read_on-requires-in-ReadPrev-clause-awake c = c.requires.may.awake

pub end_browse-requires-clause-awake : goal.end_browse-requires-clause-awake
end_browse-requires-clause-awake c = c.requires.may.awake

pub returns-in-StartBr-clause-growing : goal.returns-in-StartBr-clause-growing
returns-in-StartBr-clause-growing c = on_error c.start_browse.result (ap is_growing c.in-StartBr.is)

pub returns-in-ReadNext-clause-growing : goal.returns-in-ReadNext-clause-growing
returns-in-ReadNext-clause-growing c = on_error c.read_on.result (ap is_growing c.in-ReadNext.is)

pub returns-in-ReadPrev-clause-growing : goal.returns-in-ReadPrev-clause-growing
returns-in-ReadPrev-clause-growing c = on_error c.read_on-in-ReadPrev.result (ap is_growing c.in-ReadPrev.is)

pub answer-requires : goal.answer-requires
answer-requires c = record { within = c.requires.within }

pub returns-in-ResetBr-clause-step : goal.returns-in-ResetBr-clause-step
returns-in-ResetBr-clause-step c =
    let m = c.args.self.now.machine in
    let file = c.in-ResetBr.file in
    let reset_to = λ (key : Bytes) (t : Task). reset m t c.args.command.resp file key c.in-ResetBr.generic c.in-ResetBr.equal (value_at file t.browses) in
    told_as c.args.at (reset_to c.take-in-ResetBr.result) (going_on m c.args.command None)
    (λ t there. ap (λ key. reset_to key t) c.take-in-ResetBr.ensures.taken ∙ ap (other_command m t c.args.command) (sym c.in-ResetBr.is)) c.reset_browse.ensures.step

pub returns-in-EndBr-clause-step : goal.returns-in-EndBr-clause-step
returns-in-EndBr-clause-step c =
    let m = c.args.self.now.machine in
    told_as c.args.at (λ t. browse_ended m t c.args.command.resp c.in-EndBr.file) (going_on m c.args.command None)
    (λ t there. ap (other_command m t c.args.command) (sym c.in-EndBr.is)) c.end_browse.ensures.step
