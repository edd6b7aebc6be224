-- What a journal has printed of a run.
use Rattle.std.specs.Prelude.{ℕ, Bool, ◌||◌, Option, option_map, List, ◌++◌}
use Rattle.cics_run.specs.Stage.Amiss.{is_amiss}
use Rattle.cics_run.specs.Stage.Journal.{event_line, fault_line}
use Rattle.cics_run.specs.Stage.Notices.{noted, with_notice}
use Rattle.cics_run.specs.Stage.Seen.{Sight, after_step}
use Rattle.cics_run.specs.Stage.Stages.{Step}
use Rattle.cics_run.specs.Reads.Watched.{Watched, watcher_sight}
use Rattle.cics_run.specs.Reads.Watching.{watched_in}
use Rattle.cics_run.specs.declared.stage.notices.Notice.{Notice}
use Rattle.cics_run.specs.declared.stage.printing.Journal.{Journal}
use Rattle.cics_run.specs.declared.messages.remarks.Remarks.{Remarks}

-- The text, whether an event in it is amiss, and the notices on the last line's events. Also the
-- remarks on the lines before, and the steps of the run, if they are wanted.
pub record Printed : Type 0 where
  pub text : List ℕ
  pub is_amiss : Bool
  pub notices : List Notice
  pub told : Remarks
  pub watched : Option Watched

-- a journal prints the line of each event, and that of a fault, and notes events that are told
abbrev pub journal_sight : Sight Printed
journal_sight =
    record {
      with_request = λ p number request r. record p { watched = option_map (λ w. watcher_sight.with_request w number request r) p.watched };
      with_event = λ p number h. record {
        text = p.text ++ event_line h.event;
        is_amiss = p.is_amiss || is_amiss h.event;
        notices = with_notice p.notices (noted p.told.scope h.event);
        told = p.told;
        watched = option_map (λ w. watcher_sight.with_event w number h) p.watched;
      };
      with_fault = λ p number fault. record p { text = p.text ++ fault_line number fault };
    }

-- the steps that a journal holds, if they are wanted
abbrev pub watched_by : Journal → Option Watched
watched_by journal = option_map watched_in journal.watcher

-- what a journal holds of that
abbrev pub printed_in : Journal → Printed
printed_in journal =
    record {
      text = journal.text.items;
      is_amiss = journal.is_amiss;
      notices = journal.notices.items;
      told = journal.told;
      watched = watched_by journal;
    }

-- the steps after a line with a number, if they are wanted
abbrev pub watched_on : ℕ → Option Watched → Step → Option Watched
watched_on number watched s = option_map (λ w. after_step watcher_sight number w s) watched
