-- Regions with one stamp look alike, and regions that have the same future have one stamp.
use Rattle.std.proofs.Common.{◌≡◌, ℕ, zero, suc, ◌==◌, true, false, Option, Some, None, List, [], ◌∷◌, refl, ap, sym, ◌∙◌}
use Rattle.std.specs.Prelude.{if◌then◌else◌, option_map, map, filter, slice_get}
use Rattle.cics_names.specs.Keyed.{Bytes, is_same}
use Rattle.cics_history.specs.State.{UnitsState, UpdateRead, EnqCount}
use Rattle.cics_history.specs.Serial.{done_by}
use Rattle.cics_dispatch.specs.Machine.Machine.{Machine, Task, Suspended, task_at}
use Rattle.cics_dispatch.specs.Machine.Tasks.{had_by, own_unit}
use Rattle.cics_dispatch.specs.Machine.Stamps.{region_stamp}
use Rattle.cics_dispatch.proofs.OfMachine.TaskPlaces.{task_at-place}
use Rattle.cics_dispatch.specs.Future.Futures.{any_read, any_count, Own, own_by, own, unnumbered, IsSteady, HaveSameFuture}
use Rattle.cics_dispatch.specs.Future.Compared.{LookAlike}
use Rattle.cics_dispatch.proofs.OfFuture.Comparing.{looks_same}
use Rattle.cics_dispatch.proofs.OfFuture.Told.{Had, bare_read, bare_count, had, Told, told, bare_wait, Parts, parts, parts_stamp, stamp-parts, parts_same}

-- ---- One function after the other

module _ {X Y Z : Type 0} (f : Y → Z) (g : X → Y) where
  map_twice : (xs : List X) → map (λ x. f (g x)) xs ≡ map f (map g xs)
  map_twice [] = refl
  map_twice (x ∷ xs) = ap (λ ys. f (g x) ∷ ys) (map_twice xs)

  option_twice : (o : Option X) → option_map (λ x. f (g x)) o ≡ option_map f (option_map g o)
  option_twice None = refl
  option_twice (Some x) = refl

-- ---- What is compared, by what is told

-- a task without the number of its unit
abbrev untold : Told → Task
untold t = record { label = t.0; dtimout = t.1.0; unit = option_map (λ h. 0) t.1.1.1.0; browses = t.1.1.1.1; has_ended = t.1.1.0 }

tasks_untold : (s : UnitsState) (ts : List Task) → map unnumbered ts ≡ map untold (map (told s) ts)
tasks_untold s [] = refl
tasks_untold s (t ∷ ts) = λ i. record t { unit = option_twice (λ h. 0) (had s) t.unit i } ∷ tasks_untold s ts i

abbrev read_of : Bytes × Bytes → UpdateRead
read_of e = record { unit = 0; file = e.0; key = e.1 }

abbrev count_of : Bytes × ℕ → EnqCount
count_of e = record { value = e.0; unit = 0; count = e.1 }

-- what a unit has; without a unit there is nothing
abbrev own_had : Option Had → Own
own_had None = record { ops = []; reads = []; counts = [] }
own_had (Some h) = record { ops = h.0; reads = map read_of h.1.0; counts = map count_of h.1.1 }

own-had : (s : UnitsState) (o : Option ℕ) → own_by s o ≡ own_had (option_map (had s) o)
own-had s None = refl
own-had s (Some u) = λ i. record {
  ops = map (λ e. e.op) (done_by s.opening s.trace u);
  reads = map_twice read_of bare_read (filter (λ r. r.unit == u) s.reads) i;
  counts = map_twice count_of bare_count (filter (λ c. c.unit == u) s.counts) i;
}

-- what the unit of a label's task has
abbrev own_in : List Told → Bytes → Own
own_in [] label = own_had None
own_in (t ∷ ts) label = if is_same t.0 label then own_had t.1.1.1.0 else own_in ts label

own_told : (s : UnitsState) (ts : List Task) (label : Bytes) → own_by s (had_by own_unit (task_at ts label)) ≡ own_in (map (told s) ts) label
own_told s [] label = refl
own_told s (t ∷ ts) label = elim (is_same t.label label) as
    (λ b. own_by s (had_by own_unit (if b then Some t else task_at ts label)) ≡ (if b then own_had (option_map (had s) t.unit) else own_in (map (told s) ts) label)) [
      | true ↦ own-had s t.unit
      | false ↦ own_told s ts label
    ]

-- waiting commands are the same if their commands are, and what is told of them
waits_same : (ws vs : List Suspended) → map (λ w. w.command) ws ≡ map (λ w. w.command) vs → map bare_wait ws ≡ map bare_wait vs → ws ≡ vs
waits_same [] [] commands rest = refl
waits_same (w ∷ ws) (v ∷ vs) commands rest =
    let command : w.command ≡ v.command = cc in
    let bare : bare_wait w ≡ bare_wait v = cc in
    let more : map (λ w. w.command) ws ≡ map (λ w. w.command) vs = cc in
    let others : map bare_wait ws ≡ map bare_wait vs = cc in
    λ i. record { label = (bare i).0; command = command i; op = (bare i).1.1; since = (bare i).1.0 } ∷ waits_same ws vs more others i
waits_same [] (v ∷ vs) commands rest = cc
waits_same (w ∷ ws) [] commands rest = cc

-- ---- Regions with one stamp

-- they look alike, if what they opened with and the commands that wait are the same
pub stamps_tell : (m n : Machine) → m.units.opening ≡ n.units.opening → map (λ w. w.command) m.waiting ≡ map (λ w. w.command) n.waiting →
    region_stamp m ≡ region_stamp n → LookAlike m n
stamps_tell m n opening commands stamps =
    let same = parts_same m n stamps in
    record {
      opening = opening;
      tasks = tasks_untold m.units m.tasks ∙ (ap (λ (p : Parts). map untold p.0) same ∙ sym (tasks_untold n.units n.tasks));
      own = λ label. own_told m.units m.tasks label ∙ (ap (λ (p : Parts). own_in p.0 label) same ∙ sym (own_told n.units n.tasks label));
      committed = ap (λ (p : Parts). p.1.1.1.1.0) same;
      next = ap (λ (p : Parts). p.1.1.1.1.1) same;
      waiting = waits_same m.waiting n.waiting commands (ap (λ (p : Parts). p.1.0) same);
      clock = ap (λ (p : Parts). p.1.1.0) same;
      down = ap (λ (p : Parts). p.1.1.1.0) same;
    }

-- and so they have the same future
pub same_future : (m n : Machine) → IsSteady m → IsSteady n → m.units.opening ≡ n.units.opening →
    map (λ w. w.command) m.waiting ≡ map (λ w. w.command) n.waiting → region_stamp m ≡ region_stamp n → HaveSameFuture m n
same_future m n first second opening commands stamps = looks_same m n first second (stamps_tell m n opening commands stamps)

-- ---- What is told, by what is compared

-- what is told of a unit that has this
abbrev had_own : Own → Had
had_own x = (x.ops, (map bare_read x.reads, map bare_count x.counts))

told_had : (s : UnitsState) (o : Option ℕ) → option_map (had s) o ≡ option_map (λ (n : ℕ). had_own (own_by s o)) (option_map (λ (n : ℕ). 0) o)
told_had s None = refl
told_had s (Some u) = λ i. Some (
  map (λ e. e.op) (done_by s.opening s.trace u),
  (
    map_twice bare_read any_read (filter (λ r. r.unit == u) s.reads) i,
    map_twice bare_count any_count (filter (λ c. c.unit == u) s.counts) i,
  ),
)

-- what is told of a task whose unit has this
abbrev told_own : Own → Task → Told
told_own x t = (t.label, (t.dtimout, (t.has_ended, (option_map (λ n. had_own x) t.unit, t.browses))))

told_bare : (s : UnitsState) (t : Task) → told s t ≡ told_own (own_by s t.unit) (unnumbered t)
told_bare s t = λ i. (t.label, (t.dtimout, (t.has_ended, (told_had s t.unit i, t.browses))))

tasks_same : (s q : UnitsState) (ts us : List Task) → map unnumbered ts ≡ map unnumbered us →
    ((i : ℕ) (t u : Task) → slice_get ts i ≡ Some t → slice_get us i ≡ Some u → unnumbered t ≡ unnumbered u → own_by s t.unit ≡ own_by q u.unit) →
    map (told s) ts ≡ map (told q) us
tasks_same s q [] [] bare own = refl
tasks_same s q (t ∷ ts) (u ∷ us) bare own =
    let first : unnumbered t ≡ unnumbered u = cc in
    let rest : map unnumbered ts ≡ map unnumbered us = cc in
    let here : own_by s t.unit ≡ own_by q u.unit = own zero t u refl refl first in
    let same : told s t ≡ told q u = told_bare s t ∙ ((λ i. told_own (here i) (first i)) ∙ sym (told_bare q u)) in
    λ i. same i ∷ tasks_same s q ts us rest (λ j x y. own (suc j) x y) i
tasks_same s q [] (u ∷ us) bare own = cc
tasks_same s q (t ∷ ts) [] bare own = cc

-- ---- Regions that have the same future

module _ (m n : Machine) (same : HaveSameFuture m n) where
  -- the tasks at one place have units that have the same, since no two tasks have one label
  own_placed : (i : ℕ) (t u : Task) → slice_get m.tasks i ≡ Some t → slice_get n.tasks i ≡ Some u → unnumbered t ≡ unnumbered u → own_by m.units t.unit ≡ own_by n.units u.unit
  own_placed i t u here there bare =
      ap (λ o. own_by m.units (had_by own_unit o)) (sym (task_at-place m.tasks i t same.first.tasks.labels here))
      ∙ (same.alike.own t.label
      ∙ (ap (λ (x : Task). own n x.label) bare
      ∙ ap (λ o. own_by n.units (had_by own_unit o)) (task_at-place n.tasks i u same.second.tasks.labels there)))

  parts_alike : parts m ≡ parts n
  parts_alike = λ i. (
    tasks_same m.units n.units m.tasks n.tasks same.alike.tasks own_placed i,
    (map bare_wait (same.alike.waiting i), (same.alike.clock i, (same.alike.down i, (same.alike.stores (λ label. true) i, same.alike.next i)))),
  )

  -- they have one stamp
  pub alike_stamps : region_stamp m ≡ region_stamp n
  alike_stamps = stamp-parts m ∙ (ap parts_stamp parts_alike ∙ sym (stamp-parts n))
