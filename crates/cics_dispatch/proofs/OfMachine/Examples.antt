-- What the worked examples are made of: names, keys, records, openings.
use Rattle.std.specs.Prelude.{ℕ, Bool, true, false, Some, None, [], ◌∷◌, ◌++◌}
use Rattle.cics_names.specs.Keyed.{Bytes}
use Rattle.cics_names.specs.declared.conditions.AbendCode.{AbendCode}
use Rattle.cics_names.specs.declared.conditions.Condition.{Condition}
use Rattle.cics_ksds.specs.declared.definition.FileDef.{FileDef}
use Rattle.cics_transdata.specs.declared.queues.Recovery.TheVariants.{Logical}
use Rattle.cics_history.specs.State.{OpeningState}
use Rattle.cics_history.specs.Openings.{initial_opening, with_file, with_record, with_prefix, with_queue}
use Rattle.cics_dispatch.specs.Machine.Replies.{plain}
use Rattle.cics_names.specs.declared.commands.Verb.{Verb}
use Rattle.cics_names.specs.declared.commands.Verb.TheVariants.{Read, Write, Delete}
use Rattle.cics_dispatch.specs.declared.machine.outcomes.Outcome.{Outcome}
use Rattle.cics_dispatch.specs.declared.machine.outcomes.Outcome.TheVariants.{Replied, Abended}

-- the files ACCT and LOG
abbrev pub acct : Bytes
acct = 0xC1 ∷ 0xC3 ∷ 0xC3 ∷ 0xE3 ∷ 0x40 ∷ 0x40 ∷ 0x40 ∷ 0x40 ∷ []

abbrev pub log : Bytes
log = 0xD3 ∷ 0xD6 ∷ 0xC7 ∷ 0x40 ∷ 0x40 ∷ 0x40 ∷ 0x40 ∷ 0x40 ∷ []

-- the queues RQ of temporary storage and TDQ1 of transient data
abbrev pub rq : Bytes
rq = 0xD9 ∷ 0xD8 ∷ 0x40 ∷ 0x40 ∷ 0x40 ∷ 0x40 ∷ 0x40 ∷ 0x40 ∷ []

abbrev pub tdq1 : Bytes
tdq1 = 0xE3 ∷ 0xC4 ∷ 0xD8 ∷ 0xF1 ∷ []

-- the labels T1, T2, T3
abbrev pub label : ℕ → Bytes
label digit = 0xE3 ∷ digit ∷ 0x40 ∷ 0x40 ∷ 0x40 ∷ 0x40 ∷ 0x40 ∷ 0x40 ∷ []

abbrev pub t1 : Bytes
t1 = label 0xF1

abbrev pub t2 : Bytes
t2 = label 0xF2

abbrev pub t3 : Bytes
t3 = label 0xF3

-- the keys 0001, 0002, 0003, and their first three digits
abbrev pub zeros : Bytes
zeros = 0xF0 ∷ 0xF0 ∷ 0xF0 ∷ []

abbrev pub key_1 : Bytes
key_1 = zeros ++ 0xF1 ∷ []

abbrev pub key_2 : Bytes
key_2 = zeros ++ 0xF2 ∷ []

abbrev pub key_3 : Bytes
key_3 = zeros ++ 0xF3 ∷ []

-- the records 0001aa, 0002bb, 0003x
abbrev pub record_1 : Bytes
record_1 = key_1 ++ 0x81 ∷ 0x81 ∷ []

abbrev pub record_2 : Bytes
record_2 = key_2 ++ 0x82 ∷ 0x82 ∷ []

abbrev pub record_3 : Bytes
record_3 = key_3 ++ 0xA7 ∷ []

-- keys of four bytes at the record's begin
abbrev pub keyed : Bool → FileDef
keyed recoverable = record { key_length = 4; key_offset = 0; record_size = 32767; recoverable = recoverable }

-- ACCT, recoverable, with 0001aa, and LOG, unrecoverable, empty
abbrev pub both_files : OpeningState
both_files = with_file (with_record (with_file initial_opening acct (keyed true)) acct record_1) log (keyed false)

-- both files, recoverable temporary storage under R, and the LOGICAL queue TDQ1
abbrev pub files_and_queues : OpeningState
files_and_queues = with_queue (with_prefix both_files (0xD9 ∷ 0x40 ∷ 0x40 ∷ 0x40 ∷ 0x40 ∷ 0x40 ∷ 0x40 ∷ 0x40 ∷ [])) tdq1 Logical

-- commands with no more options than they need
abbrev pub read : Bytes → Bytes → Verb
read f key = Read f key None None false false false

abbrev pub read_update : Bytes → Bytes → Verb
read_update f key = Read f key None None false false true

abbrev pub write : Bytes → Bytes → Bytes → Verb
write f key from = Write f key None from None

abbrev pub delete : Bytes → Bytes → Verb
delete f key = Delete f (Some key) None false

-- a reply of a condition alone, and an abend for a condition by a code that begins with AE
abbrev pub replied : Condition → Outcome
replied c = Replied (plain c)

abbrev pub abend_code : ℕ → ℕ → AbendCode
abend_code third fourth = record { 0 = 0xC1 ∷ 0xC5 ∷ third ∷ fourth ∷ [] }

abbrev pub abend : ℕ → ℕ → Condition → Outcome
abend third fourth c = Abended (abend_code third fourth) (Some (plain c))
