-- A worked example: two tasks begin their units in either order, and the regions look alike. Values
-- that the tasks have crossed set them apart.
use Rattle.std.specs.Prelude.{◌≡◌, ℕ, Bool, true, false, cond, Option, Some, None, List, [], ◌∷◌, refl}
use Rattle.std.proofs.Common.{ap, arith}
use Rattle.cics_names.specs.Keyed.{Bytes, is_same}
use Rattle.cics_names.specs.declared.commands.Verb.TheVariants.{Enq}
use Rattle.cics_history.specs.Openings.{initial_opening}
use Rattle.cics_history.specs.State.{EnqCount}
use Rattle.cics_history.specs.Stamps.{unit_stamp, shared_stamp}
use Rattle.cics_dispatch.specs.Machine.Machine.{Machine, Task, initial_region}
use Rattle.cics_dispatch.specs.Machine.Blockers.{unit_of}
use Rattle.cics_dispatch.specs.Machine.Steps.{attached, issued}
use Rattle.cics_dispatch.specs.Machine.Tasks.{own_unit, had_by}
use Rattle.cics_dispatch.specs.Machine.Stamps.{task_stamp, region_stamp}
use Rattle.cics_dispatch.specs.Future.Futures.{Own, own, own_by}
use Rattle.cics_dispatch.specs.Future.Compared.{LookAlike}
use Rattle.cics_dispatch.proofs.OfFuture.Stamped.{stamps_tell}

-- the labels T1, T2
abbrev t1 : Bytes
t1 = 0xE3 ∷ 0xF1 ∷ []

abbrev t2 : Bytes
t2 = 0xE3 ∷ 0xF2 ∷ []

-- a task enqueues on a value of one byte
abbrev enq : Machine → Bytes → ℕ → Machine
enq m label value = (issued m label (record { verb = Enq (value ∷ []) 1 false; resp = false })).machine

-- two tasks
abbrev began : Machine
began = (attached (attached (initial_region initial_opening) t1 0).machine t2 0).machine

-- T1 takes 1 and T2 takes 2, in either order: T1's unit is 0 or 1
abbrev first : Machine
first = enq (enq began t1 1) t2 2

abbrev second : Machine
second = enq (enq began t2 2) t1 1

numbers : (unit_of first t1 ≡ Some 0) × (unit_of second t1 ≡ Some 1)
numbers = (refl, refl)

abbrev with_unit : Bytes → ℕ → Option Task
with_unit label u = Some (record { label = label; dtimout = 0; unit = Some u; browses = []; has_ended = false })

either_order : LookAlike first second
either_order = record {
  opening = refl;
  tasks = refl;
  own = λ label. by (is_same t1 label) (is_same t2 label);
  committed = refl;
  next = refl;
  waiting = refl;
  clock = refl;
  down = refl;
}
  where
    by : (b c : Bool) → own_by first.units (had_by own_unit (cond b (with_unit t1 0) (cond c (with_unit t2 1) None)))
        ≡ own_by second.units (had_by own_unit (cond b (with_unit t1 1) (cond c (with_unit t2 0) None)))
    by true c = refl
    by false true = refl
    by false false = refl

-- they have one stamp, which doesn't tell the numbers of units
one_stamp : region_stamp first ≡ region_stamp second
unfolding region_stamp task_stamp unit_stamp shared_stamp
one_stamp = refl

-- T2 takes 1 and T1 takes 2: what T1 has counted differs
abbrev crossed : Machine
crossed = enq (enq began t2 1) t1 2

-- the value that is counted first, if it has one byte
abbrev first_value : List EnqCount → ℕ
first_value [] = 0
first_value (c ∷ cs) = of_bytes c.value where
  of_bytes : Bytes → ℕ
  of_bytes [] = 0
  of_bytes (x ∷ xs) = x

set_apart : LookAlike first crossed → ⊥
set_apart look = differ (first_value (own first t1).counts) (first_value (own crossed t1).counts) (ap (λ (x : Own). first_value x.counts) (look.own t1)) refl refl
  where
    differ : (n k : ℕ) → n ≡ k → n ≡ 1 → k ≡ 2 → ⊥
    differ n k same a b = omega (arith, same, a, b)

-- so it has another stamp
other_stamp : region_stamp first ≡ region_stamp crossed → ⊥
other_stamp same = set_apart (stamps_tell first crossed refl refl same)
