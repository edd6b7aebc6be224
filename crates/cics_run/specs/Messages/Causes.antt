-- What a person is told of a condition that came up as a command was executed, and not by a check.
use Rattle.std.specs.Prelude.{ℕ, Bool, true, false, not, Some, None, List, [], ◌++◌, codes}
use Rattle.std.specs.Fmt.{decimal}
use Rattle.cics_names.specs.declared.commands.Verb.{Verb}
use Rattle.cics_names.specs.declared.commands.Verb.TheVariants.{Read, Delete, StartBr, ResetBr, WriteqTs, ReadqTs}
use Rattle.cics_names.specs.declared.conditions.Condition.{Condition}
use Rattle.cics_names.specs.declared.conditions.Condition.TheVariants.{Normal, Dsiderr, Notfnd, Duprec, Invreq, Endfile, Lengerr, Qzero, Qbusy, Itemerr, Qiderr, Enqbusy}
use Rattle.cics_script.specs.Texts.{text_of}
use Rattle.cics_run.specs.Messages.Parts.{key_in, length_in, number_or_none, used_in, about_text, counted_text, quoted_text}

-- of a command that isn't at hand
abbrev pub general_text : Condition → List ℕ
general_text Normal = codes "the command did what it says"
general_text Dsiderr = codes "the file isn't defined"
general_text Notfnd = codes "no record has the key"
general_text Duprec = codes "a record has the key already"
general_text Invreq = codes "the unit has enqueued the value 65535 times"
general_text Endfile = codes "no record is left that way"
general_text Lengerr = codes "what was read is longer than LENGTH"
general_text Qzero = codes "the queue has no record"
general_text Qbusy = codes "another task uses the queue"
general_text Itemerr = codes "the queue has no such item, or has 32767"
general_text Qiderr = codes "there is no such queue"
general_text Enqbusy = codes "another task owns the value"

-- which key was sought, before RIDFLD
abbrev pub search_words : Bool → Bool → List ℕ
search_words false false = codes " has the key "
search_words false true = codes " has this key or a higher one: "
search_words true false = codes " has a key that begins with "
search_words true true = codes " has a key that begins so, or a higher one: "

-- which key no record has
abbrev pub sought_text : Verb → Bool → Bool → List ℕ
sought_text verb generic gteq = about_text (codes "no record of ") verb (search_words generic gteq) ++ text_of (key_in verb)

-- NOTFND
abbrev pub absent_text : Verb → List ℕ
absent_text (Read f key given n generic gteq update) = sought_text (Read f key given n generic gteq update) generic gteq
absent_text (Delete f key given generic) = sought_text (Delete f key given generic) generic false
absent_text (StartBr f key given generic equal) = sought_text (StartBr f key given generic equal) generic (not equal)
absent_text (ResetBr f key given generic equal) = sought_text (ResetBr f key given generic equal) generic (not equal)
absent_text verb = about_text (codes "no record of ") verb (codes " has the key of the start")

-- ITEMERR
abbrev pub item_text : Verb → List ℕ
item_text (ReadqTs q n (Some item)) = about_text (codes "queue ") (ReadqTs q n (Some item)) (codes " has no item ") ++ decimal item
item_text (WriteqTs q from n (Some item)) = about_text (codes "queue ") (WriteqTs q from n (Some item)) (codes " has no item ") ++ decimal item
item_text (ReadqTs q n None) = about_text (codes "queue ") (ReadqTs q n None) (codes " has no item after its cursor")
item_text verb = about_text (codes "queue ") verb (codes " has 32767 items already")

-- each condition
abbrev pub cause_text : Verb → Condition → List ℕ
cause_text verb Notfnd = absent_text verb
cause_text verb Duprec = about_text (codes "a record of ") verb (codes " has the key ") ++ quoted_text [] (key_in verb) (codes " already")
cause_text verb Endfile = about_text (codes "no record of ") verb (codes " is left that way")
cause_text verb Lengerr = counted_text (codes "what was read is longer than LENGTH(") (number_or_none (length_in verb)) (codes ")")
cause_text verb Qzero = about_text (codes "queue ") verb (codes " has no record")
cause_text verb Qbusy = about_text (codes "another task uses queue ") verb []
cause_text verb Itemerr = item_text verb
cause_text verb Qiderr = about_text (codes "there is no queue ") verb []
cause_text verb Enqbusy = quoted_text (codes "another task owns the value ") (used_in verb) []
cause_text verb condition = general_text condition
