-- What the stamp of a region tells, as a value: its parts. A region has the stamp of its parts, and
-- parts with one stamp are the same.
use Rattle.std.proofs.Common.{◌≡◌, ℕ, ◌==◌, Bool, Option, Some, None, List, [], ◌++◌, refl, ap, sym, ◌∙◌}
use Rattle.std.specs.Prelude.{option_map, map, filter}
use Rattle.std.proofs.lemmas.List.Folds.{flat_map-map}
use Rattle.cics_names.specs.Keyed.{Bytes, Map}
use Rattle.cics_names.specs.Stamps.{Splits, number_stamp, flag_stamp, text_stamp, option_stamp, item_stamp, list_stamp}
use Rattle.cics_names.proofs.Stamps.{splits_number, splits_flag, splits_text, splits_option, splits_list, splits_both, same_stamp}
use Rattle.cics_browse.specs.Positions.{Position}
use Rattle.cics_browse.specs.Stamps.{position_stamp}
use Rattle.cics_browse.proofs.Stamps.{splits_position}
use Rattle.cics_history.specs.State.{UnitsState, UpdateRead, EnqCount, Store}
use Rattle.cics_history.specs.Serial.{done_by, store_without_others}
use Rattle.cics_history.specs.declared.ops.Op.{Op}
use Rattle.cics_history.specs.Stamps.{op_stamp, place_stamp, store_stamp, unit_stamp, shared_stamp}
use Rattle.cics_history.proofs.Stamps.{splits_op, splits_place, splits_store}
use Rattle.cics_dispatch.specs.Machine.Machine.{Machine, Task, Suspended}
use Rattle.cics_dispatch.specs.Machine.Stamps.{browse_stamp, task_stamp, wait_stamp, region_stamp}

-- ---- Stamps of lists and of options

module _ {X Y : Type 0} (f : Y → List ℕ) (g : X → Y) where
  mapped_list : (xs : List X) → list_stamp (λ x. f (g x)) xs ≡ list_stamp f (map g xs)
  mapped_list xs = ap (λ bs. bs ++ number_stamp 0) (sym (flat_map-map (item_stamp f) g xs))

  mapped_option : (o : Option X) → option_stamp (λ x. f (g x)) o ≡ option_stamp f (option_map g o)
  mapped_option None = refl
  mapped_option (Some x) = refl

-- ---- What a unit has

-- its commands, the files and keys of its update reads, and the values of its counts
abbrev pub Had : Type 0
Had = List Op × (List (Bytes × Bytes) × List (Bytes × ℕ))

abbrev pub bare_read : UpdateRead → Bytes × Bytes
bare_read r = (r.file, r.key)

abbrev pub bare_count : EnqCount → Bytes × ℕ
bare_count c = (c.value, c.count)

abbrev pub had : UnitsState → ℕ → Had
had s u = (
  map (λ e. e.op) (done_by s.opening s.trace u),
  (map bare_read (filter (λ r. r.unit == u) s.reads), map bare_count (filter (λ c. c.unit == u) s.counts)),
)

abbrev texts_stamp : Bytes × Bytes → List ℕ
texts_stamp e = text_stamp e.0 ++ text_stamp e.1

abbrev had_stamp : Had → List ℕ
had_stamp h = list_stamp op_stamp h.0 ++ (list_stamp texts_stamp h.1.0 ++ list_stamp place_stamp h.1.1)

-- the stamp of a unit is that of what it has
stamp-had : (s : UnitsState) (u : ℕ) → unit_stamp s u ≡ had_stamp (had s u)
unfolding unit_stamp
stamp-had s u = λ i.
    list_stamp op_stamp (map (λ e. e.op) (done_by s.opening s.trace u))
    ++ (mapped_list texts_stamp bare_read (filter (λ r. r.unit == u) s.reads) i ++ mapped_list place_stamp bare_count (filter (λ c. c.unit == u) s.counts) i)

splits_had : Splits had_stamp
splits_had =
    splits_both (list_stamp op_stamp) (λ (e : List (Bytes × Bytes) × List (Bytes × ℕ)). list_stamp texts_stamp e.0 ++ list_stamp place_stamp e.1)
    (splits_list op_stamp splits_op)
    (splits_both (list_stamp texts_stamp) (list_stamp place_stamp)
    (splits_list texts_stamp (splits_both text_stamp text_stamp splits_text splits_text))
    (splits_list place_stamp splits_place))

-- ---- What is told of a task

-- its label, how long it may wait, whether it has ended, what its unit has, and its browses
abbrev pub Told : Type 0
Told = Bytes × (ℕ × (Bool × (Option Had × Map Position)))

abbrev pub told : UnitsState → Task → Told
told s t = (t.label, (t.dtimout, (t.has_ended, (option_map (had s) t.unit, t.browses))))

abbrev told_stamp : Told → List ℕ
told_stamp t =
    text_stamp t.0 ++ (number_stamp t.1.0 ++ (flag_stamp t.1.1.0 ++ (option_stamp had_stamp t.1.1.1.0 ++ list_stamp browse_stamp t.1.1.1.1)))

-- the stamp of a task is that of what is told of it
stamp-told : (s : UnitsState) (t : Task) → task_stamp s t ≡ told_stamp (told s t)
unfolding task_stamp
stamp-told s t =
    ap (λ bs. text_stamp t.label ++ (number_stamp t.dtimout ++ (flag_stamp t.has_ended ++ (bs ++ list_stamp browse_stamp t.browses))))
    ((λ i. option_stamp (λ u. stamp-had s u i) t.unit) ∙ mapped_option had_stamp (had s) t.unit)

splits_browse : Splits browse_stamp
splits_browse = splits_both text_stamp position_stamp splits_text splits_position

splits_told : Splits told_stamp
splits_told =
    splits_both text_stamp
    (λ (t : ℕ × (Bool × (Option Had × Map Position))).
    number_stamp t.0 ++ (flag_stamp t.1.0 ++ (option_stamp had_stamp t.1.1.0 ++ list_stamp browse_stamp t.1.1.1))) splits_text
    (splits_both number_stamp
    (λ (t : Bool × (Option Had × Map Position)). flag_stamp t.0 ++ (option_stamp had_stamp t.1.0 ++ list_stamp browse_stamp t.1.1)) splits_number
    (splits_both flag_stamp (λ (t : Option Had × Map Position). option_stamp had_stamp t.0 ++ list_stamp browse_stamp t.1) splits_flag
    (splits_both (option_stamp had_stamp) (list_stamp browse_stamp) (splits_option had_stamp splits_had) (splits_list browse_stamp splits_browse))))

-- ---- What is told of a region

-- of a waiting command the label, when the wait began, and the updating command
abbrev pub ToldWait : Type 0
ToldWait = Bytes × (ℕ × Option Op)

abbrev pub bare_wait : Suspended → ToldWait
bare_wait w = (w.label, (w.since, w.op))

abbrev bare_stamp : ToldWait → List ℕ
bare_stamp w = text_stamp w.0 ++ (number_stamp w.1.0 ++ option_stamp op_stamp w.1.1)

splits_wait : Splits bare_stamp
splits_wait =
    splits_both text_stamp (λ (w : ℕ × Option Op). number_stamp w.0 ++ option_stamp op_stamp w.1) splits_text
    (splits_both number_stamp (option_stamp op_stamp) splits_number (splits_option op_stamp splits_op))

-- its tasks, waiting commands and clock, whether it is down, the store without open units, and the
-- NEXT cursors
abbrev pub Parts : Type 0
Parts = List Told × (List ToldWait × (ℕ × (Bool × (Store × Map ℕ))))

abbrev pub parts : Machine → Parts
parts m = (
  map (told m.units) m.tasks,
  (map bare_wait m.waiting, (m.clock, (m.is_down, (store_without_others m.units [], m.units.next)))),
)

abbrev pub parts_stamp : Parts → List ℕ
parts_stamp p =
    list_stamp told_stamp p.0
    ++ (list_stamp bare_stamp p.1.0 ++ (number_stamp p.1.1.0 ++ (flag_stamp p.1.1.1.0 ++ (store_stamp p.1.1.1.1.0 ++ list_stamp place_stamp p.1.1.1.1.1))))

-- the stamp of a region is that of its parts
pub stamp-parts : (m : Machine) → region_stamp m ≡ parts_stamp (parts m)
unfolding region_stamp shared_stamp wait_stamp
stamp-parts m = λ i. tasks i ++ (mapped_list bare_stamp bare_wait m.waiting i ++ (number_stamp m.clock ++ (flag_stamp m.is_down ++ shared_stamp m.units)))
  where
    tasks : list_stamp (task_stamp m.units) m.tasks ≡ list_stamp told_stamp (map (told m.units) m.tasks)
    tasks = (λ i. list_stamp (λ t. stamp-told m.units t i) m.tasks) ∙ mapped_list told_stamp (told m.units) m.tasks

splits_parts : Splits parts_stamp
splits_parts =
    splits_both (list_stamp told_stamp)
    (λ (p : List ToldWait × (ℕ × (Bool × (Store × Map ℕ)))).
    list_stamp bare_stamp p.0 ++ (number_stamp p.1.0 ++ (flag_stamp p.1.1.0 ++ (store_stamp p.1.1.1.0 ++ list_stamp place_stamp p.1.1.1.1))))
    (splits_list told_stamp splits_told)
    (splits_both (list_stamp bare_stamp)
    (λ (p : ℕ × (Bool × (Store × Map ℕ))). number_stamp p.0 ++ (flag_stamp p.1.0 ++ (store_stamp p.1.1.0 ++ list_stamp place_stamp p.1.1.1)))
    (splits_list bare_stamp splits_wait)
    (splits_both number_stamp (λ (p : Bool × (Store × Map ℕ)). flag_stamp p.0 ++ (store_stamp p.1.0 ++ list_stamp place_stamp p.1.1)) splits_number
    (splits_both flag_stamp (λ (p : Store × Map ℕ). store_stamp p.0 ++ list_stamp place_stamp p.1) splits_flag
    (splits_both store_stamp (list_stamp place_stamp) splits_store (splits_list place_stamp splits_place)))))

-- regions with one stamp have the same parts
pub parts_same : (m n : Machine) → region_stamp m ≡ region_stamp n → parts m ≡ parts n
parts_same m n same = same_stamp parts_stamp splits_parts (parts m) (parts n) (sym (stamp-parts m) ∙ (same ∙ stamp-parts n))
