-- Commands on a file: the file, and the key or the prefix of keys that each names.
use Rattle.std.specs.Prelude.{Bool, true, false, []}
use Rattle.cics_names.specs.Keyed.{Bytes}
use Rattle.cics_history.specs.declared.ops.Op.{Op}
use Rattle.cics_history.specs.declared.ops.Op.TheVariants.{Write, Rewrite, Delete, DeleteGeneric, ReadUpdate, TsWrite, TsRewrite, TsDelete, TdWrite, TdRead, TdDelete}

-- a command on a file
abbrev pub is_file_op : Op → Bool
is_file_op (Write f k r) = true
is_file_op (Rewrite f k r) = true
is_file_op (Delete f k) = true
is_file_op (DeleteGeneric f p) = true
is_file_op (ReadUpdate f k) = true
is_file_op (TsWrite q d) = false
is_file_op (TsRewrite q n d) = false
is_file_op (TsDelete q) = false
is_file_op (TdWrite q d) = false
is_file_op (TdRead q) = false
is_file_op (TdDelete q) = false

-- the file that such a command names
abbrev pub file_of : Op → Bytes
file_of (Write f k r) = f
file_of (Rewrite f k r) = f
file_of (Delete f k) = f
file_of (DeleteGeneric f p) = f
file_of (ReadUpdate f k) = f
file_of _ = []

-- the key or prefix of keys that such a command names
abbrev pub key_of : Op → Bytes
key_of (Write f k r) = k
key_of (Rewrite f k r) = k
key_of (Delete f k) = k
key_of (DeleteGeneric f p) = p
key_of (ReadUpdate f k) = k
key_of _ = []
