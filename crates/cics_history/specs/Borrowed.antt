-- Commands whose bytes are borrowed.
use Rattle.cics_history.specs.declared.borrowed.OpRef.{OpRef}
use Rattle.cics_history.specs.declared.borrowed.OpRef.TheVariants as view
use Rattle.cics_history.specs.declared.ops.Op.{Op}
use Rattle.cics_history.specs.declared.ops.Op.TheVariants.{Write, Rewrite, Delete, DeleteGeneric, ReadUpdate, TsWrite, TsRewrite, TsDelete, TdWrite, TdRead, TdDelete}

-- the command that has the borrowed bytes
abbrev pub as_op : OpRef → Op
as_op (view.Write file key from) = Write file key.now from.now
as_op (view.Rewrite file key from) = Rewrite file key.now from.now
as_op (view.Delete file key) = Delete file key.now
as_op (view.DeleteGeneric file prefix) = DeleteGeneric file prefix.now
as_op (view.ReadUpdate file key) = ReadUpdate file key.now
as_op (view.TsWrite queue from) = TsWrite queue from.now
as_op (view.TsRewrite queue item from) = TsRewrite queue item from.now
as_op (view.TsDelete queue) = TsDelete queue
as_op (view.TdWrite queue from) = TdWrite queue from.now
as_op (view.TdRead queue) = TdRead queue
as_op (view.TdDelete queue) = TdDelete queue
