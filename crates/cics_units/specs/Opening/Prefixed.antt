-- Which commands are on temporary storage, whose prefixes say what is recoverable.
use Rattle.std.specs.Prelude.{Bool, true, false}
use Rattle.cics_history.specs.declared.ops.Op.{Op}
use Rattle.cics_history.specs.declared.ops.Op.TheVariants.{TsWrite, TsRewrite, TsDelete}

-- a command on a temporary storage queue
abbrev pub is_temp : Op → Bool
is_temp (TsWrite q d) = true
is_temp (TsRewrite q n d) = true
is_temp (TsDelete q) = true
is_temp _ = false
