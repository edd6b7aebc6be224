-- A waiting command is the one that the lane of its task gave last.
use Rattle.std.proofs.Common.{◌≡◌, ◌-◌, true, false, not, cond, List, [], ◌∷◌, ◌++◌, map, Option, None, Some, refl, ap, sym, ◌∙◌, subst}
use Rattle.std.specs.Prelude.{if◌then◌else◌, slice_get, option_and_then, Result, Ok}
use Rattle.cics_names.specs.Keyed.{Bytes, is_same}
use Rattle.cics_names.specs.declared.commands.Command.{Command}
use Rattle.cics_history.specs.State.{OpeningState}
use Rattle.cics_dispatch.specs.Machine.Machine.{Machine, Task, Suspended, task_at, not_waiting}
use Rattle.cics_dispatch.specs.Machine.Events.{Happened, turn}
use Rattle.cics_dispatch.specs.Machine.Waking.{may_go_on, first_free}
use Rattle.cics_dispatch.proofs.OfMachine.TaskPlaces.{place_of_task}
use Rattle.cics_script.specs.Lines.{line}
use Rattle.cics_script.specs.declared.lines.Line.{Line}
use Rattle.cics_script.specs.declared.lines.Line.TheVariants.{Issue}
use Rattle.cics_script.specs.declared.faults.LineFault.{LineFault}
use Rattle.cics_orders.specs.Giving.{is_of}
use Rattle.cics_orders.specs.declared.lanes.Lane.{Lane}
use Rattle.cics_orders.proofs.CommandSteps.{IsKept, Waits, woken_keeps, expired_keeps}
use Rattle.cics_orders.proofs.EventCases.{turn_cases}

-- the command that a line says
abbrev pub said : Result Line LineFault → Option Command
said (Ok (Issue label c)) = Some c
said _ = None

-- the command that a lane gave last
abbrev pub last_command : Lane → Option Command
last_command x = option_and_then (λ next. said (line next.1)) (slice_get x.lines (x.given - 1))

-- the command that the lane of a label gave last
abbrev pub command_of : List Lane → Bytes → Option Command
command_of [] label = None
command_of (x ∷ xs) label = if is_of x label then last_command x else command_of xs label

-- a waiting command is the one that the lane of its label gave last
abbrev pub IsGiven : List Lane → Suspended → Type 0
IsGiven xs w = command_of xs w.label ≡ Some w.command

-- each waiting command is
abbrev pub AreGiven : List Lane → List Suspended → Type 0
AreGiven xs [] = Unit {0}
AreGiven xs (w ∷ ws) = IsGiven xs w × AreGiven xs ws

-- ---- What waits after a step

-- the waiting commands are those that lanes gave last, and the region opened with this
pub record Keeps (xs : List Lane) (begun : OpeningState) (m : Machine) : Type 0 where
  pub waits : AreGiven xs m.waiting
  pub opening : m.units.opening ≡ begun

module _ (xs : List Lane) (begun : OpeningState) where
  given_more : (ws : List Suspended) (w : Suspended) → AreGiven xs ws → IsGiven xs w → AreGiven xs (ws ++ w ∷ [])
  given_more [] w all one = (one, tt)
  given_more (v ∷ ws) w (first, all) one = (first, given_more ws w all one)

  given_fewer : (ws : List Suspended) (label : Bytes) → AreGiven xs ws → AreGiven xs (not_waiting ws label)
  given_fewer [] label all = tt
  given_fewer (w ∷ ws) label (first, all) =
      elim (is_same w.label label) as (λ b. AreGiven xs (cond (not b) (w ∷ not_waiting ws label) (not_waiting ws label))) [
        | true ↦ given_fewer ws label all
        | false ↦ (first, given_fewer ws label all)
      ]

  pub waits_kept : IsKept (Keeps xs begun)
  waits_kept = record {
    units = λ m us same all. record { waits = all.waits; opening = same ∙ all.opening };
    task = λ m t all. record { waits = all.waits; opening = all.opening };
    ends = λ m label all. record { waits = given_fewer m.waiting label all.waits; opening = all.opening };
  }

  -- the command that the lane of a label gave last may wait
  pub may_wait : (label : Bytes) (c : Command) → command_of xs label ≡ Some c → Waits (Keeps xs begun) label c
  may_wait label c gave m w own same all = record {
    waits = given_more m.waiting w all.waits (ap (command_of xs) own ∙ gave ∙ ap Some (sym same));
    opening = all.opening;
  }

  free_given : (m : Machine) (w : Suspended) (ws : List Suspended) → AreGiven xs ws → first_free m ws ≡ Some w → IsGiven xs w
  free_given m w [] all is = cc
  free_given m w (v ∷ ws) (first, all) is =
      elim (may_go_on m v (task_at m.tasks v.label)) as (λ b. cond b (Some v) (first_free m ws) ≡ Some w → IsGiven xs w) [
        | true ↦ λ is. let same : v ≡ w = cc in subst (IsGiven xs) same first
        | false ↦ λ is. free_given m w ws all is
      ] is

  pub turn_waits : (m : Machine) (t : Happened) → turn m ≡ Some t → Keeps xs begun m → Keeps xs begun t.machine
  turn_waits m t is all =
      turn_cases (Keeps xs begun) m t (woken_keeps (Keeps xs begun) waits_kept m waits all) (expired_keeps (Keeps xs begun) waits_kept m all) is
    where
      waits : (w : Suspended) (u : Task) → first_free m m.waiting ≡ Some w → task_at m.tasks w.label ≡ Some u → Waits (Keeps xs begun) u.label w.command
      waits w u free at =
          may_wait u.label w.command (ap (command_of xs) (place_of_task m.tasks w.label u at).2 ∙ free_given m w m.waiting all.waits free)

-- ---- Lanes that gave the same

-- the same commands wait in lanes that gave the same
pub given_as : (xs ys : List Lane) → ((label : Bytes) → command_of xs label ≡ command_of ys label) → (ws : List Suspended) → AreGiven xs ws → AreGiven ys ws
given_as xs ys same [] all = tt
given_as xs ys same (w ∷ ws) (first, all) = (sym (same w.label) ∙ first, given_as xs ys same ws all)

-- commands that wait for the same tasks are the same
pub commands_same : (xs ys : List Lane) → ((label : Bytes) → command_of xs label ≡ command_of ys label) → (ws vs : List Suspended) → AreGiven xs ws → AreGiven ys vs →
    map (λ w. w.label) ws ≡ map (λ w. w.label) vs → map (λ w. w.command) ws ≡ map (λ w. w.command) vs
commands_same xs ys same [] [] all too labels = refl
commands_same xs ys same (w ∷ ws) (v ∷ vs) (first, all) (second, too) labels =
    let label : w.label ≡ v.label = cc in
    let rest : map (λ w. w.label) ws ≡ map (λ w. w.label) vs = cc in
    let both : Some w.command ≡ Some v.command = sym first ∙ ap (command_of xs) label ∙ same v.label ∙ second in
    let command : w.command ≡ v.command = cc in
    λ i. command i ∷ commands_same xs ys same ws vs all too rest i
commands_same xs ys same [] (v ∷ vs) all too labels = cc
commands_same xs ys same (w ∷ ws) [] all too labels = cc
