-- What a command asks for, whatever its options (chapters on file control, temporary storage,
-- transient data, task control, program control and recovery).
use Rattle.std.specs.Prelude.{ℕ, Option, Some, None}
use Rattle.cics_names.specs.Keyed.{Bytes}
use Rattle.cics_names.specs.declared.commands.Verb.{Verb}
use Rattle.cics_names.specs.declared.commands.Verb.TheVariants.{Read, Write, Rewrite, Delete, Unlock, StartBr, ResetBr, ReadNext, ReadPrev, EndBr, ReadqTs, ReadqTd}

-- the file that a command names
abbrev pub file_named : Verb → Option Bytes
file_named (Read f key given n generic gteq update) = Some f
file_named (Write f key given from n) = Some f
file_named (Rewrite f from n) = Some f
file_named (Delete f key given generic) = Some f
file_named (Unlock f) = Some f
file_named (StartBr f key given generic equal) = Some f
file_named (ResetBr f key given generic equal) = Some f
file_named (ReadNext f n) = Some f
file_named (ReadPrev f n) = Some f
file_named (EndBr f) = Some f
file_named _ = None

-- LENGTH of a command that reads
abbrev pub length_of : Verb → Option ℕ
length_of (Read f key given n generic gteq update) = n
length_of (ReadNext f n) = n
length_of (ReadPrev f n) = n
length_of (ReadqTs q n item) = n
length_of (ReadqTd q n nosuspend) = n
length_of _ = None
