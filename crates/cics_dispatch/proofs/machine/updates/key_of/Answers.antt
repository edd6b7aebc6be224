use Rattle.std.proofs.Common.{◌≡◌, ◌∙◌, refl, false, []}
use Rattle.cics_history.specs.Records.{is_file_op, key_of}
use Rattle.cics_history.specs.declared.ops.Op.{Op}
use Rattle.cics_history.specs.declared.ops.Op.TheVariants.{Write, Rewrite, Delete, DeleteGeneric, ReadUpdate}
use Rattle.cics_dispatch.proofs.machine.updates.key_of.Goals as goal

-- a command on a queue has no key
no_key : (o : Op) → false ≡ is_file_op o → [] ≡ key_of o
no_key (Write f k r) none = cc
no_key (Rewrite f k r) none = cc
no_key (Delete f k) none = cc
no_key (DeleteGeneric f p) none = cc
no_key (ReadUpdate f k) none = cc
no_key o none = refl

pub returns-in-Some : goal.returns-in-Some
returns-in-Some c = c.bytes.ensures ∙ c.in-Some.ensures.key

pub returns-in-None : goal.returns-in-None
returns-in-None c = no_key c.args.op.now c.in-None.ensures.there
