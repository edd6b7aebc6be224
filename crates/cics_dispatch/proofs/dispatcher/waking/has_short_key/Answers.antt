use Rattle.std.proofs.Common.{◌≡◌, ◌≤◌, ◌∙◌, subst, false, length, arith}
use Rattle.std.proofs.lemmas.Bool.{leb-true}
use Rattle.cics_history.specs.Records.{is_file_op, key_of}
use Rattle.cics_history.specs.declared.ops.Op.{Op}
use Rattle.cics_history.specs.declared.ops.Op.TheVariants.{Write, Rewrite, Delete, DeleteGeneric, ReadUpdate}
use Rattle.cics_dispatch.proofs.dispatcher.waking.has_short_key.Goals as goal

-- a command on a queue has no key
no_key : (o : Op) → false ≡ is_file_op o → length (key_of o) ≤ 255
no_key (Write f k r) none = cc
no_key (Rewrite f k r) none = cc
no_key (Delete f k) none = cc
no_key (DeleteGeneric f p) none = cc
no_key (ReadUpdate f k) none = cc
no_key o none = omega arith

pub returns-in-Some : goal.returns-in-Some
returns-in-Some c = λ short. subst (λ key. length key ≤ 255) (c.bytes.ensures ∙ c.in-Some.ensures.key) (leb-true (length c.bytes.result.now) 255 short)

pub returns-in-None : goal.returns-in-None
returns-in-None c = λ short. no_key c.args.op.now c.in-None.ensures.there
