-- A verb is told the same of an answer with its key and FROM as without them.
use Rattle.std.specs.Prelude.{Some, refl}
use Rattle.cics_names.specs.declared.commands.Verb.{Verb}
use Rattle.cics_names.specs.declared.commands.Verb.TheVariants.{Read, Delete}
use Rattle.cics_history.specs.declared.ops.Op.{Op}
use Rattle.cics_dispatch.specs.Machine.Emptied.{refilled, AreToldAlike}

pub told_refilled : (verb : Verb) (o : Op) → AreToldAlike verb (refilled verb (Some o))
told_refilled (Read f key given n generic gteq update) o a = refl
told_refilled (Delete f key given generic) o a = refl
told_refilled verb o a = refl
