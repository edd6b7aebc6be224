-- What `take_op` takes out of a verb, and `refill` puts back. A verb gives its key and FROM to the
-- updating command that it asks for, and keeps none of their bytes. If LENGTH cuts FROM, the
-- updating command has a copy of the first bytes, and the verb keeps FROM.
use Rattle.std.specs.Prelude.{◌≡◌, [], ◌∷◌, Option, Some, None, option_map}
use Rattle.cics_names.specs.Keyed.{Bytes}
use Rattle.cics_names.specs.declared.commands.Command.{Command}
use Rattle.cics_names.specs.declared.commands.Verb.{Verb}
use Rattle.cics_names.specs.declared.commands.Verb.TheVariants.{Read, Write, Rewrite, Delete, WriteqTs, WriteqTd}
use Rattle.cics_history.specs.Records.{key_of}
use Rattle.cics_history.specs.declared.ops.Answer.{Answer}
use Rattle.cics_history.specs.declared.ops.Op.{Op}
use Rattle.cics_history.specs.declared.ops.Op.TheVariants as op
use Rattle.cics_dispatch.specs.Machine.Steps.{reply_of}

-- the bytes that an updating command writes, none if it writes nothing
abbrev pub content_of : Op → Bytes
content_of (op.Write f key from) = from
content_of (op.Rewrite f key from) = from
content_of (op.TsWrite q from) = from
content_of (op.TsRewrite q item from) = from
content_of (op.TdWrite q from) = from
content_of _ = []

-- a key or FROM with the bytes that were taken from it; one that has bytes gave none
abbrev pub put_back : Bytes → Bytes → Bytes
put_back [] taken = taken
put_back (b ∷ bs) taken = b ∷ bs

-- a verb with its key and FROM back from the updating command, if it asked for one
abbrev pub refilled : Verb → Option Op → Verb
refilled verb None = verb
refilled (Read f key given n generic gteq update) (Some o) = Read f (put_back key (key_of o)) given n generic gteq update
refilled (Write f key given from n) (Some o) = Write f (put_back key (key_of o)) given (put_back from (content_of o)) n
refilled (Rewrite f from n) (Some o) = Rewrite f (put_back from (content_of o)) n
refilled (Delete f key given generic) (Some o) = Delete f (option_map (λ k. put_back k (key_of o)) key) given generic
refilled (WriteqTs q from n item) (Some o) = WriteqTs q (put_back from (content_of o)) n item
refilled (WriteqTd q from n) (Some o) = WriteqTd q (put_back from (content_of o)) n
refilled verb (Some o) = verb

-- a command with the key and FROM of its verb back
abbrev pub whole : Command → Option Op → Command
whole c o = record c { verb = refilled c.verb o }

-- each answer of an updating command gives the same reply to both verbs
abbrev pub AreToldAlike : Verb → Verb → Type 0
AreToldAlike v w = (a : Answer) → reply_of v a ≡ reply_of w a
