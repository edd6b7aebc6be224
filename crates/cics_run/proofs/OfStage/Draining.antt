-- What an observer sees while a region drains.
use Rattle.std.proofs.Common.{◌≡◌, ℕ, ◌<◌, length, ap, sym, ◌∙◌, subst, refl, Option, Some, None}
use Rattle.std.specs.Bool.{OnTrue}
use Rattle.std.specs.Prelude.{Bool, true}
use Rattle.cics_dispatch.specs.Machine.Answers.{IsHeadlineRegion}
use Rattle.cics_dispatch.specs.Machine.Events.{Happened, played, all_played, turn, IsTurn, drained}
use Rattle.cics_dispatch.specs.Machine.Machine.{Machine, RegionValue}
use Rattle.cics_dispatch.specs.Machine.Waking.{IsAtRest}
use Rattle.cics_dispatch.specs.declared.machine.events.Event.{Event}
use Rattle.cics_dispatch.specs.declared.machine.events.Request.{Request}
use Rattle.cics_dispatch.proofs.OfMachine.Draining.{rest_has_none, turn_fewer, drained_turn, drained_none}
use Rattle.cics_run.specs.Stage.Seen.{Sight, after_all, after_events, after_fault, after_step}
use Rattle.cics_names.specs.Keyed.{value_at, has_key, is_key_in}
use Rattle.cics_history.specs.State.{OpeningState}
use Rattle.cics_history.specs.Openings.{with_file, with_record, with_prefix, with_queue, with_td_record}
use Rattle.cics_units.specs.Opening.Faults.{file_fault, load_fault, load_td_fault, fault_if}
use Rattle.cics_units.specs.declared.opening.opening.DefineFault.{DefineFault}
use Rattle.cics_script.specs.declared.lines.Line.{Line}
use Rattle.cics_script.specs.declared.lines.Line.TheVariants.{Blank, DefineFile, DefineTsPrefix, DefineTd, LoadFile, LoadTd, Attach, Clock, Issue, Shutdown}
use Rattle.cics_run.specs.declared.stage.stage.Stage.{Stage}
use Rattle.cics_run.specs.declared.stage.stage.Stage.TheVariants.{Opening, Running}
use Rattle.cics_run.specs.Stage.Stages.{Step, defined, definition, region_at}
use Rattle.cics_run.specs.declared.stage.stage.Fault.{Fault}

-- a region that holds the replay of its surviving entries is that of its machine
pub is_region_at : (r : RegionValue) → IsHeadlineRegion r → r ≡ region_at r.machine
is_region_at r kept = λ i. record { machine = r.machine; store = kept.headline.store i }

-- the region of a machine is that of another one with the same name
pub region_is : (r : RegionValue) (m : Machine) → IsHeadlineRegion r → r.machine ≡ m → r ≡ region_at m
region_is r m kept same = is_region_at r kept ∙ ap region_at same

-- a region that is known to be at rest has no turn to take
pub rests : (m : Machine) (is : Bool) → OnTrue is (IsAtRest m) → is ≡ true → turn m ≡ None
rests m is calm set = rest_has_none m (subst (λ b. OnTrue b (IsAtRest m)) set calm)

-- what a request leads to, and the region's draining behind it
pub played_region : (m mid : Machine) (asked : Request) (r : RegionValue) → mid ≡ (played m asked).machine → r ≡ region_at (drained mid).machine → r ≡ region_at (all_played m asked).machine
played_region m mid asked r left is = is ∙ ap (λ n. region_at (drained n).machine) left

module _ {Seen : Type 0} (sight : Sight Seen) (number : ℕ) where
  -- a request is seen, then its event, and then those of the draining
  pub played_seen : (m mid : Machine) (e : Event) (asked : Request) (begun before between now : Seen) → before ≡ begun → e ≡ (played m asked).event → mid ≡ (played m asked).machine
      → between ≡ sight.with_event before number (record { event = e; machine = mid })
      → now ≡ after_events sight number between (drained mid).turns
      → now ≡ after_events sight number begun (all_played m asked).turns
  played_seen m mid e asked begun before between now asks told left first rest =
      rest ∙ ap (λ s. after_events sight number s (drained mid).turns) first
      ∙ (λ i. after_events sight number (sight.with_event (asks i) number (record { event = told i; machine = left i })) (drained (left i)).turns)

  -- behind a turn the rest is seen as before it
  pub turn_seen : (m next : Machine) (e : Event) (before now : Seen) → IsTurn m (Some e) next
      → now ≡ sight.with_event before number (record { event = e; machine = next })
      → ((drained next).machine ≡ (drained m).machine)
      × (after_events sight number now (drained next).turns ≡ after_events sight number before (drained m).turns)
      × (length next.waiting < length m.waiting)
  turn_seen m next e before now is told =
      let t : Happened = record { event = e; machine = next } in
      let all = drained_turn m t is in (
        sym (ap (λ d. d.machine) all),
        ap (λ s. after_events sight number s (drained next).turns) told ∙ sym (ap (λ d. after_events sight number before d.turns) all),
        turn_fewer m t is,
      )

  -- without a turn to take nothing more is seen
  pub none_seen : (m : Machine) (seen : Seen) → turn m ≡ None → ((drained m).machine ≡ m) × (after_events sight number seen (drained m).turns ≡ seen)
  none_seen m seen none =
      let all = drained_none m none in (ap (λ d. d.machine) all, ap (λ d. after_events sight number seen d.turns) all)

  -- a line has no fault
  pub no_fault_seen : (s : Step) (before now : Seen) → now ≡ after_all sight number before s → None ≡ s.fault → now ≡ after_step sight number before s
  no_fault_seen s before now seen is = seen ∙ ap (after_fault sight number (after_all sight number before s)) is

  -- a line has a fault, which is seen behind its events
  pub fault_seen : (s : Step) (fault : Fault) (before between now : Seen) → between ≡ after_all sight number before s → now ≡ sight.with_fault between number fault → Some fault ≡ s.fault
      → now ≡ after_step sight number before s
  fault_seen s fault before between now seen told is =
      told ∙ ap (λ x. sight.with_fault x number fault) seen ∙ ap (after_fault sight number (after_all sight number before s)) is

-- ---- What defines

module _ {Seen : Type 0} (sight : Sight Seen) (number : ℕ) (seen : Seen) where
  defined_seen : (o next : OpeningState) (fault : Option DefineFault) → after_step sight number seen (defined o fault next) ≡ after_fault sight number seen (defined o fault next).fault
  defined_seen o next None = refl
  defined_seen o next (Some fault) = refl

  -- no request and no event is seen of it, but its fault
  pub definition_seen : (stage : Stage) (l : Line) → after_step sight number seen (definition stage l) ≡ after_fault sight number seen (definition stage l).fault
  definition_seen (Opening o) (DefineFile name d) = defined_seen o (with_file o name d) (file_fault o name d)
  definition_seen (Opening o) (DefineTsPrefix prefix) = defined_seen o (with_prefix o prefix) (fault_if (is_key_in prefix o.prefixes))
  definition_seen (Opening o) (DefineTd name recovery) = defined_seen o (with_queue o name recovery) (fault_if (has_key name o.queues))
  definition_seen (Opening o) (LoadFile name content) = defined_seen o (with_record o name content) (load_fault (value_at name o.files) content)
  definition_seen (Opening o) (LoadTd name content) = defined_seen o (with_td_record o name content) (load_td_fault (value_at name o.queues) content)
  definition_seen (Opening o) Blank = refl
  definition_seen (Opening o) (Attach label transaction dtimout) = refl
  definition_seen (Opening o) (Clock seconds) = refl
  definition_seen (Opening o) (Issue label command) = refl
  definition_seen (Opening o) Shutdown = refl
  definition_seen (Running r) l = refl
