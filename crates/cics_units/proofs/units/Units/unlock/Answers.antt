use Rattle.std.proofs.Common.{◌≡◌, ◌∙◌, Bool, true, sym, ap, subst, not, filter}
use Rattle.cics_history.specs.Events.{is_live}
use Rattle.cics_history.specs.Execution.{IsOpenUnit, after_unlock, is_read_of, read_at}
use Rattle.cics_history.specs.State.{UnitsState}
use Rattle.cics_units.specs.Cores.{core_value}
use Rattle.cics_units.specs.KeptUnits.{state_shown, AreValid}
use Rattle.cics_units.specs.Parts.{CoreValue}
use Rattle.cics_units.specs.TableInPlace.{table_given_back, table_unlocked}
use Rattle.cics_units.proofs.KeptUnits.{kept_headline, kept_serializable}
use Rattle.cics_units.proofs.ShownUnits.{live_of, read_short, unlocked_state, unlocked_kept}
use Rattle.cics_units.proofs.units.Units.unlock.Goals as goal
use Rattle.cics_units.proofs.units.Units.unlock.Goals.{After-end_read}

pub end_read-requires : goal.end_read-requires
end_read-requires c = record { short = read_short c.self.inside.core.reads c.args.unit c.args.file.now c.self.invariant.0.table.keys }

module _ (c : After-end_read) where
  abbrev core : CoreValue
  core = core_value c.self.inside.core

  abbrev before : UnitsState
  before = state_shown c.self.inside.opening c.self.inside.trace.items c.self.inside.outcomes.items c.self.inside.commits.items core

  live : is_live before c.args.unit ≡ true
  live = live_of before c.args.unit (subst (λ v. IsOpenUnit v.state c.args.unit) (sym c.self.view_is) c.requires.is_open)

  -- the core after the read has ended, of a file that is as recoverable as this says
  abbrev ended : Bool → CoreValue
  ended recoverable = record core {
    table = table_given_back recoverable c.args.unit c.args.file.now (read_at core.reads c.args.unit c.args.file.now) core.table;
    reads = filter (λ r. not (is_read_of c.args.unit c.args.file.now r)) core.reads;
  }

  done : core_value c.end_read.new.self ≡ record core {
    table = table_unlocked c.self.inside.opening c.args.unit c.args.file.now (read_at core.reads c.args.unit c.args.file.now) core.table;
    reads = filter (λ r. not (is_read_of c.args.unit c.args.file.now r)) core.reads;
  }
  done = ap core_value c.end_read.ensures ∙ ap ended c.is_recoverable_file-recoverable.ensures

  kept : AreValid (state_shown c.self.inside.opening c.self.inside.trace.items c.self.inside.outcomes.items c.self.inside.commits.items (core_value c.end_read.new.self)) (core_value c.end_read.new.self).stores c.end_read.new.self.locks
  kept =
      let u = c.self.inside in
      unlocked_kept u.opening u.trace.items u.outcomes.items u.commits.items core (core_value c.end_read.new.self) c.self.invariant.0 c.args.unit c.args.file.now live done

pub invariant_of-self : goal.invariant_of-self
invariant_of-self c = (kept (goal.at.invariant_of-self c).After-end_read, c.self.invariant.1)

pub returns-clause-state : goal.returns-clause-state
returns-clause-state c =
    let u = c.self.inside in
    let at = (goal.at.returns-clause-state c).After-end_read in
    unlocked_state u.opening u.trace.items u.outcomes.items u.commits.items (core_value u.core) (core_value c.end_read.new.self) c.self.invariant.0 c.args.unit c.args.file.now (live at) (done at)
    ∙ ap (λ v. after_unlock v.state c.args.unit c.args.file.now) c.self.view_is

pub returns-clause-headline : goal.returns-clause-headline
returns-clause-headline c = kept_headline _ _ _ (kept (goal.at.returns-clause-headline c).After-end_read)

pub returns-clause-serializable : goal.returns-clause-serializable
returns-clause-serializable c = kept_serializable _ _ _ (kept (goal.at.returns-clause-serializable c).After-end_read)
