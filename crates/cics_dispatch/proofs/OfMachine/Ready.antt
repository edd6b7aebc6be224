-- A command whose checks have passed asks for an updating command that is ready to be executed. Its
-- key is no longer than a key may be.
use Rattle.std.specs.Prelude.{◌<◌, IfSome, ◌≡◌, ℕ, ◌+◌, ◌≤◌, Bool, true, false, if◌then◌else◌, not, ◌&&◌, ◌||◌, Option, Some, None, is_some, nat_le, option_map, length, [], ◌∷◌, refl}
use Rattle.std.proofs.Common.{sym, subst, arith}
use Rattle.std.proofs.lemmas.Bool.{false≢true, leb-true, le-leb, eqb-true}
use Rattle.cics_names.specs.Keyed.{Bytes, value_at, has_key, is_same}
use Rattle.cics_names.specs.KeyedLaws.{is_same-self}
use Rattle.cics_ksds.specs.Files.{key_of as key_in, fits_file}
use Rattle.cics_ksds.specs.declared.definition.FileDef.{FileDef}
use Rattle.cics_history.specs.State.{FileOpening}
use Rattle.cics_history.specs.Openings.{is_key}
use Rattle.cics_history.specs.Records.{key_of}
use Rattle.cics_history.specs.Execution.{is_fit_for, is_item, is_ready_op, is_short_key}
use Rattle.cics_history.specs.declared.ops.Op.{Op}
use Rattle.cics_history.specs.declared.ops.Op.TheVariants as op
use Rattle.cics_dispatch.specs.Machine.Lengths.{unless, first_reason, is_length_given, is_key_length, key_reason, is_within, used_of, misfit, from_reason, own_key_reason, written_reason, write_reason}
use Rattle.cics_dispatch.specs.Machine.Machine.{Machine, Task, definition_of}
use Rattle.cics_dispatch.specs.Machine.Checks.{resource_reason, defined_reason, queue_reason, item_reason, open_key, read_reason, rewrite_reason, deleted_key_reason, delete_reason, reason_of}
use Rattle.cics_dispatch.specs.Machine.Steps.{key_read, op_of}
use Rattle.cics_dispatch.specs.declared.machine.reasons.Reason.{Reason}
use Rattle.cics_dispatch.specs.declared.machine.reasons.Reason.TheVariants.{UpdateNotByKey, PrefixEmpty, KeyLengthDiffers, KeySize, PrefixTooLong, LengthNotInFrom, ItemSize, ValueSize, ValueTooShort, QueueNotDefined, UpdateReadOpen, KeyIsNotRidfld, KeyIsNotRead}
use Rattle.cics_names.specs.Commands.{file_named}
use Rattle.cics_names.specs.declared.commands.Verb.{Verb}
use Rattle.cics_names.specs.declared.commands.Verb.TheVariants.{Read, Write, Rewrite, Delete, WriteqTs, DeleteqTs, WriteqTd, ReadqTd, DeleteqTd, Enq}
use Rattle.cics_dispatch.specs.Machine.KeptTasks.{IsReady}
use Rattle.cics_dispatch.specs.Machine.Calls.{OfTask, HasReady, MayPerform}
use Rattle.cics_dispatch.proofs.OfMachine.RegionSteps.{task_there}

-- ---- Checks that have passed

-- if no check is the first that fails, each has passed
two_pass : (a b : Option Reason) → first_reason (a ∷ b ∷ []) ≡ None → (a ≡ None) × (b ≡ None)
two_pass None None e = (refl, refl)
two_pass None (Some c) e = cc
two_pass (Some c) b e = cc

three_pass : (a b c : Option Reason) → first_reason (a ∷ b ∷ c ∷ []) ≡ None → (a ≡ None) × (b ≡ None) × (c ≡ None)
three_pass None b c e = let rest = two_pass b c e in (refl, rest.0, rest.1)
three_pass (Some x) b c e = cc

-- a check without a reason has passed
pub holds : (p : Bool) (c : Reason) → unless p c ≡ None → p ≡ true
holds true c e = refl
holds false c e = cc

pub both : (a b : Bool) → (a && b) ≡ true → (a ≡ true) × (b ≡ true)
both true b e = (refl, e)
both false b e = cc

and_both : (a b : Bool) → a ≡ true → b ≡ true → (a && b) ≡ true
and_both true b e1 e2 = e2
and_both false b e1 e2 = cc

-- the file of a command that passes its checks is defined
defined : (file : Option FileOpening) (check : FileDef → Option Reason) → defined_reason (option_map (λ e. e.definition) file) check ≡ None → is_some file ≡ true
defined None check e = cc
defined (Some file) check e = refl

-- what is written fits, with the key that lies in it
fit : (d : FileDef) (k from : Bytes) (n : Option ℕ) (differs : Reason) → first_reason (from_reason d from n ∷ own_key_reason d k from n differs ∷ []) ≡ None →
    (fits_file d (used_of from n) && is_same (key_in d (used_of from n)) k) ≡ true
fit d k from n differs passes =
    let content = used_of from n in
    let passed = two_pass (from_reason d from n) (own_key_reason d k from n differs) passes in
    let sized = two_pass (unless (is_within from n) LengthNotInFrom) (unless (fits_file d content) (misfit d content)) passed.0 in
    and_both (fits_file d content) (is_same (key_in d content) k) (holds (fits_file d content) (misfit d content) sized.1)
    (holds (is_same (key_in d content) k) differs passed.1)

-- WRITE
fit_to_write : (file : Option FileOpening) (k : Bytes) (given : Option ℕ) (from : Bytes) (n : Option ℕ) →
    defined_reason (option_map (λ e. e.definition) file) (λ d. write_reason d k given from n) ≡ None → is_fit_for file k (used_of from n) ≡ true
fit_to_write None k given from n e = cc
fit_to_write (Some file) k given from n e =
    let d = file.definition in
    fit d k from n KeyIsNotRidfld (two_pass (key_reason d k given false) (written_reason d k from n) e).1

-- REWRITE with an update read
fit_to_rewrite : (file : Option FileOpening) (k : Bytes) (from : Bytes) (n : Option ℕ) →
    defined_reason (option_map (λ e. e.definition) file) (λ d. rewrite_reason d (Some k) from n) ≡ None → is_fit_for file k (used_of from n) ≡ true
fit_to_rewrite None k from n e = cc
fit_to_rewrite (Some file) k from n e = fit file.definition k from n KeyIsNotRead e

-- READ UPDATE finds no update read open
none_open : (o : Option FileDef) (k : Option Bytes) (key : Bytes) (given : Option ℕ) (generic gteq : Bool) →
    defined_reason o (λ d. read_reason d k key given generic gteq true) ≡ None → not (is_some k) ≡ true
none_open None k key given generic gteq e = cc
none_open (Some d) k key given generic gteq e =
    let passed = three_pass (unless (not (gteq || generic)) UpdateNotByKey) (key_reason d key given generic) (unless (not (is_some k)) UpdateReadOpen) e in
    holds (not (is_some k)) UpdateReadOpen passed.2

-- a key of the right length is no longer than a key may be
within : (d : FileDef) (n : ℕ) (generic : Bool) → is_key d ≡ true → is_key_length d generic n ≡ true → n ≤ 255
within d n generic lawful right = of generic right where
  at_most : d.key_length ≤ 255
  at_most =
      leb-true d.key_length 255
      (both (nat_le 1 d.key_length) (nat_le d.key_length 255)
      (both (nat_le 1 d.key_length && nat_le d.key_length 255) (nat_le (d.key_offset + d.key_length) d.record_size) lawful).0).1

  of : (generic : Bool) → is_key_length d generic n ≡ true → n ≤ 255
  of true right = let below = leb-true n d.key_length right in omega (arith, at_most, below)
  of false right = let same = eqb-true n d.key_length right in omega (arith, at_most, same)

key_within : (d : FileDef) (key : Bytes) (given : Option ℕ) (generic : Bool) → is_key d ≡ true → key_reason d key given generic ≡ None → length key ≤ 255
key_within d key given generic lawful passes =
    let size = if generic then PrefixTooLong else KeySize in
    within d (length key) generic lawful
    (holds (is_key_length d generic (length key)) size
    (two_pass (unless (is_length_given given (length key)) KeyLengthDiffers) (unless (is_key_length d generic (length key)) size) passes).1)

-- so is the key of a command whose checks have passed
key_short : (o : Option FileDef) (check : FileDef → Option Reason) (key : Bytes) (given : Option ℕ) (generic : Bool) →
    ((d : FileDef) → o ≡ Some d → is_key d ≡ true) → ((d : FileDef) → check d ≡ None → key_reason d key given generic ≡ None) →
    defined_reason o check ≡ None → length key ≤ 255
key_short None check key given generic lawful first e = cc
key_short (Some d) check key given generic lawful first e = key_within d key given generic (lawful d refl) (first d e)

-- ---- What is ready

-- a REWRITE that has its update read
rewrite_ready : (m : Machine) (t : Task) (f from : Bytes) (n : Option ℕ) (o : Option Bytes) (c : Op) → open_key m t f ≡ o →
    defined_reason (definition_of m f) (λ d. rewrite_reason d o from n) ≡ None → option_map (λ key. op.Rewrite f key (used_of from n)) o ≡ Some c →
    is_ready_op m.units t.unit c ≡ true
rewrite_ready m t f from n None c there passes is = cc
rewrite_ready m t f from n (Some k) c there passes is =
    let e : op.Rewrite f k (used_of from n) ≡ c = cc in
    let fits = fit_to_rewrite (value_at f m.units.opening.files) k from n passes in
    subst (λ c. is_ready_op m.units t.unit c ≡ true) e (rw (there, fits) (is_same-self k))

-- a key that is no longer than a key may be is short
short_key : (k : Bytes) → length k ≤ 255 → is_short_key k ≡ true
short_key k at_most = le-leb (length k) 255 at_most

-- so is the key of the command that is asked for
short_of : (c o : Op) → o ≡ c → length (key_of c) ≤ 255 → is_short_key (key_of o) ≡ true
short_of c o same short = short_key (key_of o) (subst (λ c. length (key_of c) ≤ 255) (sym same) short)

-- a DELETE of the record that was read
delete_ready : (m : Machine) (t : Task) (f : Bytes) (given : Option ℕ) (generic : Bool) (o : Option Bytes) (c : Op) →
    defined_reason (definition_of m f) (λ d. delete_reason d o None given generic) ≡ None → option_map (λ key. op.Delete f key) o ≡ Some c →
    length (key_of c) ≤ 255 → is_ready_op m.units t.unit c ≡ true
delete_ready m t f given generic None c passes is short = cc
delete_ready m t f given generic (Some k) c passes is short =
    let e : op.Delete f k ≡ c = cc in
    let file = value_at f m.units.opening.files in
    subst (λ c. is_ready_op m.units t.unit c ≡ true) e
    (and_both (is_some file) (is_short_key k)
    (defined file (λ d. delete_reason d (Some k) None given generic) passes) (short_of c (op.Delete f k) e short))

-- an item or a transient data record that has passed its check
item_used : (from : Bytes) (n : Option ℕ) → item_reason from n ≡ None → is_item (used_of from n) ≡ true
item_used from n passes =
    holds (is_item (used_of from n)) ItemSize (two_pass (unless (is_within from n) LengthNotInFrom) (unless (is_item (used_of from n)) ItemSize) passes).1

-- a transient data queue whose check has passed is defined
queue_there : (m : Machine) (q : Bytes) → queue_reason m q ≡ None → has_key q m.units.opening.queues ≡ true
queue_there m q passes = holds (has_key q m.units.opening.queues) QueueNotDefined passes

-- a command whose checks have passed is ready
pub ready_of : (m : Machine) (t : Task) (verb : Verb) (c : Op) → reason_of m t verb ≡ None → op_of m t verb ≡ Some c →
    length (key_of c) ≤ 255 → is_ready_op m.units t.unit c ≡ true
ready_of m t (Read f key given n generic gteq false) c passes is short = cc
ready_of m t (Read f key given n generic gteq true) c passes is short =
    let e : op.ReadUpdate f key ≡ c = cc in
    let file = value_at f m.units.opening.files in
    subst (λ c. is_ready_op m.units t.unit c ≡ true) e
    (and_both (is_some file && is_short_key key) (not (is_some (open_key m t f)))
    (and_both (is_some file) (is_short_key key)
    (defined file (λ d. read_reason d (open_key m t f) key given generic gteq true) passes) (short_of c (op.ReadUpdate f key) e short))
    (none_open (definition_of m f) (open_key m t f) key given generic gteq passes))
ready_of m t (Write f key given from n) c passes is short =
    let e : op.Write f key (used_of from n) ≡ c = cc in
    subst (λ c. is_ready_op m.units t.unit c ≡ true) e (fit_to_write (value_at f m.units.opening.files) key given from n passes)
ready_of m t (Rewrite f from n) c passes is short = rewrite_ready m t f from n (open_key m t f) c refl passes is
ready_of m t (Delete f (Some key) given false) c passes is short =
    let e : op.Delete f key ≡ c = cc in
    let file = value_at f m.units.opening.files in
    subst (λ c. is_ready_op m.units t.unit c ≡ true) e
    (and_both (is_some file) (is_short_key key)
    (defined file (λ d. delete_reason d (open_key m t f) (Some key) given false) passes) (short_of c (op.Delete f key) e short))
ready_of m t (Delete f (Some key) given true) c passes is short =
    let e : op.DeleteGeneric f key ≡ c = cc in
    let file = value_at f m.units.opening.files in
    subst (λ c. is_ready_op m.units t.unit c ≡ true) e
    (and_both (is_some file) (is_short_key key)
    (defined file (λ d. delete_reason d (open_key m t f) (Some key) given true) passes) (short_of c (op.DeleteGeneric f key) e short))
ready_of m t (Delete f None given generic) c passes is short = delete_ready m t f given generic (open_key m t f) c passes is short
ready_of m t (WriteqTs q from n None) c passes is short =
    let e : op.TsWrite q (used_of from n) ≡ c = cc in
    subst (λ c. is_ready_op m.units t.unit c ≡ true) e (item_used from n passes)
ready_of m t (WriteqTs q from n (Some item)) c passes is short =
    let e : op.TsRewrite q item (used_of from n) ≡ c = cc in
    subst (λ c. is_ready_op m.units t.unit c ≡ true) e (item_used from n passes)
ready_of m t (DeleteqTs q) c passes is short =
    let e : op.TsDelete q ≡ c = cc in
    subst (λ c. is_ready_op m.units t.unit c ≡ true) e refl
ready_of m t (WriteqTd q from n) c passes is short =
    let e : op.TdWrite q (used_of from n) ≡ c = cc in
    let passed = two_pass (queue_reason m q) (item_reason from n) passes in
    subst (λ c. is_ready_op m.units t.unit c ≡ true) e
    (and_both (has_key q m.units.opening.queues) (is_item (used_of from n)) (queue_there m q passed.0) (item_used from n passed.1))
ready_of m t (ReadqTd q n nosuspend) c passes is short =
    let e : op.TdRead q ≡ c = cc in
    subst (λ c. is_ready_op m.units t.unit c ≡ true) e (queue_there m q passes)
ready_of m t (DeleteqTd q) c passes is short =
    let e : op.TdDelete q ≡ c = cc in
    subst (λ c. is_ready_op m.units t.unit c ≡ true) e (queue_there m q passes)
ready_of m t verb c passes is short = cc

-- the key that was read, if the command takes it over
of_read : (make : Bytes → Op) (o : Option Bytes) (c : Op) → ((k : Bytes) → key_of (make k) ≡ k) → ((k : Bytes) → o ≡ Some k → length k ≤ 255) →
    option_map make o ≡ Some c → length (key_of c) ≤ 255
of_read make None c same were_short is = cc
of_read make (Some k) c same were_short is =
    let e : make k ≡ c = cc in
    subst (λ c. length (key_of c) ≤ 255) e (subst (λ key. length key ≤ 255) (sym (same k)) (were_short k refl))

-- a command on a queue has no key
no_key : (c o : Op) → o ≡ c → length (key_of o) ≡ 0 → length (key_of c) ≤ 255
no_key c o same none = subst (λ c. length (key_of c) ≤ 255) same (omega (arith, none))

-- its key is no longer than a key may be, if the definition of its file is lawful and so is the key
-- that was read
pub named_key_short : (m : Machine) (t : Task) (verb : Verb) →
    ((f : Bytes) (d : FileDef) → file_named verb ≡ Some f → definition_of m f ≡ Some d → is_key d ≡ true) →
    ((k : Bytes) → key_read m t (file_named verb) ≡ Some k → length k ≤ 255) →
    (c : Op) → reason_of m t verb ≡ None → op_of m t verb ≡ Some c → length (key_of c) ≤ 255
named_key_short m t (Read f key given n generic gteq false) lawful were_short c passes is = cc
named_key_short m t (Read f key given n generic gteq true) lawful were_short c passes is =
    let e : op.ReadUpdate f key ≡ c = cc in
    let open_read = open_key m t f in
    subst (λ c. length (key_of c) ≤ 255) e
    (key_short (definition_of m f) (λ d. read_reason d open_read key given generic gteq true) key given generic (λ d. lawful f d refl)
    (λ d none. (three_pass (unless (not (gteq || generic)) UpdateNotByKey) (key_reason d key given generic) (unless (not (is_some open_read)) UpdateReadOpen) none).1)
    passes)
named_key_short m t (Write f key given from n) lawful were_short c passes is =
    let e : op.Write f key (used_of from n) ≡ c = cc in
    subst (λ c. length (key_of c) ≤ 255) e
    (key_short (definition_of m f) (λ d. write_reason d key given from n) key given false (λ d. lawful f d refl)
    (λ d none. (two_pass (key_reason d key given false) (written_reason d key from n) none).0) passes)
named_key_short m t (Rewrite f from n) lawful were_short c passes is =
    of_read (λ key. op.Rewrite f key (used_of from n)) (open_key m t f) c (λ k. refl) were_short is
named_key_short m t (Delete f (Some key) given generic) lawful were_short c passes is = by generic passes is
  where
    at_most : (generic : Bool) → defined_reason (definition_of m f) (λ d. deleted_key_reason d key given generic) ≡ None → length key ≤ 255
    at_most generic passes =
        key_short (definition_of m f) (λ d. deleted_key_reason d key given generic) key given generic (λ d. lawful f d refl)
        (λ d none. (two_pass (key_reason d key given generic) (unless (nat_le 1 (length key) || not generic) PrefixEmpty) none).0) passes

    by : (generic : Bool) → defined_reason (definition_of m f) (λ d. deleted_key_reason d key given generic) ≡ None →
        Some (if generic then op.DeleteGeneric f key else op.Delete f key) ≡ Some c → length (key_of c) ≤ 255
    by true passes is = let e : op.DeleteGeneric f key ≡ c = cc in subst (λ c. length (key_of c) ≤ 255) e (at_most true passes)
    by false passes is = let e : op.Delete f key ≡ c = cc in subst (λ c. length (key_of c) ≤ 255) e (at_most false passes)
named_key_short m t (Delete f None given generic) lawful were_short c passes is =
    of_read (λ key. op.Delete f key) (open_key m t f) c (λ k. refl) were_short is
named_key_short m t (WriteqTs q from n None) lawful were_short c passes is =
    let e : op.TsWrite q (used_of from n) ≡ c = cc in no_key c (op.TsWrite q (used_of from n)) e (refl {a = 0})
named_key_short m t (WriteqTs q from n (Some item)) lawful were_short c passes is =
    let e : op.TsRewrite q item (used_of from n) ≡ c = cc in no_key c (op.TsRewrite q item (used_of from n)) e (refl {a = 0})
named_key_short m t (DeleteqTs q) lawful were_short c passes is =
    let e : op.TsDelete q ≡ c = cc in no_key c (op.TsDelete q) e (refl {a = 0})
named_key_short m t (WriteqTd q from n) lawful were_short c passes is =
    let e : op.TdWrite q (used_of from n) ≡ c = cc in no_key c (op.TdWrite q (used_of from n)) e (refl {a = 0})
named_key_short m t (ReadqTd q n nosuspend) lawful were_short c passes is =
    let e : op.TdRead q ≡ c = cc in no_key c (op.TdRead q) e (refl {a = 0})
named_key_short m t (DeleteqTd q) lawful were_short c passes is =
    let e : op.TdDelete q ≡ c = cc in no_key c (op.TdDelete q) e (refl {a = 0})
named_key_short m t verb lawful were_short c passes is = cc

-- an updating command that a task may ask for is ready
pub ready_to : (m : Machine) (at : ℕ) (verb : Verb) (o : Op) → MayPerform m at verb → OfTask m.tasks at (λ t. op_of m t verb ≡ Some o) → HasReady m at verb (Some o)
ready_to m at verb o may asked = λ t there.
    ready_of m t verb o (may.passed t there) (asked t there)
    (subst (λ x. IfSome x (λ c. length (key_of c) ≤ 255)) (asked t there) (may.short t there))

-- whether a command is an ENQ
abbrev pub is_enq : Verb → Bool
is_enq (Enq value n nosuspend) = true
is_enq verb = false

-- and so is an ENQ
pub ready_value : (m : Machine) (at : ℕ) (verb : Verb) (value : Bytes) (n : ℕ) (nosuspend : Bool) → verb ≡ Enq value n nosuspend → MayPerform m at verb → HasReady m at verb None
ready_value m at verb value n nosuspend is may = λ t there.
    subst (λ v. IsReady m.units t.unit v None) (sym is) (subst (λ v. reason_of m t v ≡ None) is (may.passed t there))

-- LENGTH of a value that has passed its check
pub value_within : (value : Bytes) (n : ℕ) → resource_reason value n ≡ None → (1 ≤ n) × (n ≤ 255) × (n ≤ length value)
value_within value n passes =
    let passed = two_pass (unless (nat_le 1 n && nat_le n 255) ValueSize) (unless (nat_le n (length value)) ValueTooShort) passes in
    let bounds = both (nat_le 1 n) (nat_le n 255) (holds (nat_le 1 n && nat_le n 255) ValueSize passed.0) in
    (leb-true 1 n bounds.0, leb-true n 255 bounds.1, leb-true n (length value) (holds (nat_le n (length value)) ValueTooShort passed.1))

-- what a command goes on with that asks for no updating command is an ENQ of a right LENGTH
pub value_ready : (m : Machine) (at : ℕ) (verb : Verb) (value : Bytes) (n : ℕ) (nosuspend : Bool) → at < length m.tasks → verb ≡ Enq value n nosuspend →
    HasReady m at verb None → (1 ≤ n) × (n ≤ 255) × (n ≤ length value)
value_ready m at verb value n nosuspend within is ready =
    task_there m.tasks at within (λ t there. value_within value n (subst (λ v. IsReady m.units t.unit v None) is (ready t there)))

-- and no other
pub only_enq : (m : Machine) (at : ℕ) (verb : Verb) → at < length m.tasks → ((value : Bytes) (n : ℕ) (nosuspend : Bool) → verb ≡ Enq value n nosuspend → ⊥) →
    HasReady m at verb None → ⊥
only_enq m at verb within other ready = task_there m.tasks at within (λ t there. by t verb refl (ready t there))
  where
    by : (t : Task) (v : Verb) → verb ≡ v → IsReady m.units t.unit v None → ⊥
    by t (Enq value n nosuspend) is ready = other value n nosuspend is
    by t v is ready = ready

-- a command that is an ENQ is ready if the task may perform it
pub ready_enq : (m : Machine) (at : ℕ) (verb : Verb) → is_enq verb ≡ true → MayPerform m at verb → HasReady m at verb None
ready_enq m at verb enq may = λ t there. by t verb enq (may.passed t there)
  where
    by : (t : Task) (v : Verb) → is_enq v ≡ true → reason_of m t v ≡ None → IsReady m.units t.unit v None
    by t (Enq value n nosuspend) enq passes = passes
    by t v enq passes = absurd (false≢true enq)
