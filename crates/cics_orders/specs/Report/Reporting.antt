-- The bytes of a report on the orders of a script's lines, and those of an order as a script.
use Rattle.std.specs.Prelude.{◌≡◌, ℕ, ◌+◌, ◌-◌, ◌==◌, Bool, true, false, ◌&&◌, if◌then◌else◌, nat_lt, List, [], ◌∷◌, ◌++◌, length, Option, Some, None, option_map, slice_get, Result, Ok, codes}
use Rattle.std.specs.List.{fold, flat_map, count_by}
use Rattle.std.specs.Fmt.{decimal}
use Rattle.cics_script.specs.Texts.{bare}
use Rattle.cics_script.specs.Lines.{line}
use Rattle.cics_script.specs.declared.lines.Line.{Line}
use Rattle.cics_script.specs.declared.lines.Line.TheVariants.{Issue, Clock, Shutdown}
use Rattle.cics_script.specs.declared.faults.LineFault.{LineFault}
use Rattle.cics_dispatch.specs.declared.machine.events.Event.TheVariants.{Refused}
use Rattle.cics_dispatch.specs.declared.machine.events.Subject.TheVariants as subject
use Rattle.cics_run.specs.Stage.Journal.{event_line, fault_line}
use Rattle.cics_run.specs.declared.stage.stage.Fault.{Fault}
use Rattle.cics_run.specs.declared.stage.stage.Fault.TheVariants as faults
use Rattle.cics_orders.specs.Space.Orders.{Order}
use Rattle.cics_orders.specs.Space.Endings.{Parts, Reported, are_same, greatest, kept_number}
use Rattle.cics_orders.specs.declared.search.exploring.Report.{Report}
use Rattle.cics_orders.specs.Plans.Taking.{NumberedLine}
use Rattle.cics_orders.specs.declared.plans.plans.Plan.{Plan}
use Rattle.cics_orders.specs.declared.plans.plans.TaskPlan.{TaskPlan}
use Rattle.cics_orders.specs.declared.plans.plans.Planned.{Planned}
use Rattle.cics_orders.specs.declared.plans.plans.RefusedLine.{RefusedLine}
use Rattle.cics_orders.specs.declared.plans.plans.ScriptFault.{ScriptFault}
use Rattle.cics_orders.specs.declared.plans.plans.ScriptFault.TheVariants as fault
use Rattle.cics_run.specs.declared.session.running.Orders.{Orders}
use Rattle.cics_orders.specs.Report.Along.{lines_along}
use Rattle.cics_orders.specs.Report.Findings.{amiss_along}
use Rattle.cics_orders.specs.Report.Open.{open_text}
use Rattle.cics_orders.specs.Report.Parts.{mark_in, written_mark, told_in, shared, own_text}

-- ---- What a plain run prints too

-- the fault of a script, as a plain run has it
abbrev pub as_fault : ScriptFault → Fault
as_fault (fault.Line f) = faults.Line f
as_fault (fault.Definition f) = faults.Definition f

-- the fault of the line with this number is the whole output
abbrev pub fault_text : ℕ → ScriptFault → List ℕ
fault_text number f = fault_line number (as_fault f)

-- a line that is refused in every order: its number in front of its line of the journal
abbrev pub refused_text : RefusedLine → List ℕ
refused_text r = codes "LINE " ++ (decimal r.number ++ (codes " " ++ event_line (Refused (subject.Task r.label) r.refusal)))

-- ---- Numbers

-- the words before a number, which is a lower bound if orders were left out, or if it is the
-- greatest
abbrev pub bound_text : Bool → ℕ → List ℕ
bound_text has_all n = if has_all && nat_lt n greatest then [] else codes "AT LEAST "

-- such a number
abbrev pub count_text : Bool → ℕ → List ℕ
count_text has_all n = bound_text has_all n ++ decimal n

-- two numbers: of all, and of the serial ones
abbrev pub both_text : Report → ℕ → ℕ → List ℕ
both_text r all serial = count_text r.is_whole all ++ (codes " SERIAL " ++ count_text r.has_all_serial serial)

-- how many orders lead to these endings
abbrev pub all_orders : List Reported → ℕ
all_orders es = fold (λ n e. kept_number (n + e.orders)) 0 es

-- how many serial orders lead to them
abbrev pub serial_orders : List Reported → ℕ
serial_orders es = fold (λ n e. kept_number (n + e.serial)) 0 es

-- to how many of them a serial order leads
abbrev pub serial_endings : List Reported → ℕ
serial_endings es = count_by (λ e. nat_lt 0 e.serial) es

-- the line on a limit that left orders out
abbrev pub limit_text : Report → ℕ → List ℕ
limit_text r limit = if r.is_whole && r.has_all_serial then [] else codes "LIMIT " ++ (decimal limit ++ codes " REACHED\n")

-- the numbers of orders and endings
abbrev pub totals_text : Report → List ℕ
totals_text r =
    codes "ORDERS "
    ++ (both_text r (all_orders r.endings) (serial_orders r.endings)
    ++ (codes "\nENDINGS " ++ (both_text r (length r.endings) (serial_endings r.endings) ++ codes "\n")))

-- ---- Endings

-- the word of a line in an order: its task's label, or the clock's word
abbrev pub word_of : Result Line LineFault → List ℕ
word_of (Ok (Issue label command)) = bare label
word_of (Ok (Clock seconds)) = codes "CLOCK"
word_of (Ok Shutdown) = codes "SHUTDOWN"
word_of _ = []

-- the word of a line behind a blank
abbrev pub word_text : NumberedLine → List ℕ
word_text next = codes " " ++ word_of (line next.1)

-- an order
abbrev pub order_text : Plan → Order → List ℕ
order_text p o = codes "ORDER" ++ (flat_map word_text (lines_along p o) ++ codes "\n")

-- an ending has these parts
abbrev pub has_parts : Reported → Option Parts → Bool
has_parts e None = false
has_parts e (Some parts) = are_same parts e.ending

-- how many orders lead to an ending, and its marks
abbrev pub heading_text : Report → Reported → List ℕ
heading_text r e =
    codes " ORDERS " ++ (both_text r e.orders e.serial ++ (mark_in e.ending ++ (written_mark (has_parts e r.written) ++ codes "\n")))

-- the ending of a number
abbrev pub numbered_text : Report → ℕ → Reported → List ℕ
numbered_text r k e = codes "ENDING " ++ (decimal k ++ heading_text r e)

-- what the reads of an order saw and missed that is amiss, if that is wanted
abbrev pub amiss_if : Bool → Plan → Order → List ℕ
amiss_if reads p o = if reads then amiss_along p o else []

-- its first order, what the reads of that saw and missed, and the parts that some ending lacks
abbrev pub ending_text : Bool → Plan → Parts → Reported → List ℕ
ending_text reads p all e = order_text p e.order ++ (amiss_if reads p e.order ++ flat_map (own_text all) (told_in e.ending))

-- the endings from a number on
unfoldable pub endings_text : Bool → Plan → Report → Parts → ℕ → List Reported → List ℕ
endings_text reads p r all k [] = []
endings_text reads p r all k (e ∷ es) =
    numbered_text r k e ++ (ending_text reads p all e ++ endings_text reads p r all (k + 1) es)

-- the parts that each ending has, if there are some
unfoldable pub every_text : Parts → List ℕ
every_text parts = if length parts == 0 then [] else codes "EVERY ENDING\n" ++ flat_map (λ p. p) parts

-- the report that is wanted
abbrev pub report_text : Planned → Orders → Report → List ℕ
report_text planned w r =
    flat_map refused_text planned.refused
    ++ (flat_map open_text planned.plan.tasks
    ++ (limit_text r w.limit
    ++ (totals_text r ++ (every_text (shared r.endings) ++ endings_text w.reads planned.plan r (shared r.endings) 1 r.endings))))

-- ---- An order as a script

-- a line as it stands in the script
abbrev pub script_line : NumberedLine → List ℕ
script_line next = next.1 ++ codes "\n"

-- the line that attaches a task
abbrev pub attach_line : TaskPlan → List ℕ
attach_line task = script_line task.attach

-- the ending of a number, from 1 on
abbrev pub ending_at : List Reported → ℕ → Option Reported
ending_at es k = if k == 0 then None else slice_get es (k - 1)

-- the lines that define and attach, and behind them those of an order
abbrev pub run_text : Plan → Order → List ℕ
run_text p o = flat_map script_line p.definitions ++ (flat_map attach_line p.tasks ++ flat_map script_line (lines_along p o))

-- which ending a script leads to, and how many orders do
abbrev pub title_text : Report → ℕ → Reported → List ℕ
title_text r k e =
    codes "* ENDING " ++ (decimal k ++ (codes " OF " ++ (count_text r.is_whole (length r.endings) ++ heading_text r e)))

-- the first order of an ending as a script
abbrev pub script_text : Plan → Report → ℕ → Reported → List ℕ
script_text p r k e = title_text r k e ++ run_text p e.order

-- the first order of the ending of a number as a script, if there is one
abbrev pub script_at : Plan → Report → ℕ → Option (List ℕ)
script_at p r k = option_map (script_text p r k) (ending_at r.endings k)

-- a text is put behind what was there, if there is one
abbrev pub Puts : Option (List ℕ) → List ℕ → List ℕ → Bool → Type 0
Puts None before now is_there = (now ≡ before) × (is_there ≡ false)
Puts (Some text) before now is_there = (now ≡ before ++ text) × (is_there ≡ true)
