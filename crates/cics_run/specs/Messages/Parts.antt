-- The options of a command that a person is told of, whatever its verb.
use Rattle.std.specs.Prelude.{ℕ, ◌==◌, if◌then◌else◌, Option, Some, None, List, [], ◌++◌, take, length, codes}
use Rattle.std.specs.Fmt.{decimal}
use Rattle.cics_names.specs.Commands.{file_named, length_of}
use Rattle.cics_names.specs.Keyed.{Bytes}
use Rattle.cics_names.specs.declared.commands.Verb.{Verb}
use Rattle.cics_names.specs.declared.commands.Verb.TheVariants.{Read, Write, Rewrite, Delete, StartBr, ResetBr, WriteqTs, ReadqTs, DeleteqTs, WriteqTd, ReadqTd, DeleteqTd, Enq, Deq}
use Rattle.cics_script.specs.Texts.{text_of, bare}

-- RIDFLD, or no byte
abbrev pub key_in : Verb → Bytes
key_in (Read f key given n generic gteq update) = key
key_in (Write f key given from n) = key
key_in (Delete f (Some key) given generic) = key
key_in (StartBr f key given generic equal) = key
key_in (ResetBr f key given generic equal) = key
key_in _ = []

-- FROM or RESOURCE, or no byte
abbrev pub from_in : Verb → Bytes
from_in (Write f key given from n) = from
from_in (Rewrite f from n) = from
from_in (WriteqTs q from n item) = from
from_in (WriteqTd q from n) = from
from_in (Enq value n nosuspend) = value
from_in (Deq value n) = value
from_in _ = []

-- LENGTH, if it is given
abbrev pub length_in : Verb → Option ℕ
length_in (Write f key given from n) = n
length_in (Rewrite f from n) = n
length_in (WriteqTs q from n item) = n
length_in (WriteqTd q from n) = n
length_in (Enq value n nosuspend) = Some n
length_in (Deq value n) = Some n
length_in verb = length_of verb

-- KEYLENGTH, if it is given
abbrev pub key_length_in : Verb → Option ℕ
key_length_in (Read f key given n generic gteq update) = given
key_length_in (Write f key given from n) = given
key_length_in (Delete f key given generic) = given
key_length_in (StartBr f key given generic equal) = given
key_length_in (ResetBr f key given generic equal) = given
key_length_in _ = None

-- a number, or 0 if it isn't given
abbrev pub number_or_none : Option ℕ → ℕ
number_or_none None = 0
number_or_none (Some n) = n

-- the first bytes of a text, as many as are given, or all
abbrev pub first_bytes : Bytes → Option ℕ → Bytes
first_bytes bytes None = bytes
first_bytes bytes (Some n) = take n bytes

-- the bytes of FROM or RESOURCE that LENGTH uses
abbrev pub used_in : Verb → Bytes
used_in verb = first_bytes (from_in verb) (length_in verb)

-- the name of a file, if there is one
abbrev pub file_text : Option Bytes → List ℕ
file_text None = []
file_text (Some f) = bare f

-- the name of the file or queue that a command names
abbrev pub name_in : Verb → List ℕ
name_in (WriteqTs q from n item) = bare q
name_in (ReadqTs q n item) = bare q
name_in (DeleteqTs q) = bare q
name_in (WriteqTd q from n) = bare q
name_in (ReadqTd q n nosuspend) = bare q
name_in (DeleteqTd q) = bare q
name_in verb = file_text (file_named verb)

-- that name between two texts
abbrev pub about_text : List ℕ → Verb → List ℕ → List ℕ
about_text before verb behind = before ++ (name_in verb ++ behind)

-- a number between two texts
abbrev pub counted_text : List ℕ → ℕ → List ℕ → List ℕ
counted_text before n behind = before ++ (decimal n ++ behind)

-- the word for some bytes, behind their number
abbrev pub bytes_word : ℕ → List ℕ
bytes_word n = if n == 1 then codes " byte" else codes " bytes"

-- how many bytes there are, behind a text
abbrev pub sized_text : List ℕ → Bytes → List ℕ
sized_text before bytes = counted_text before (length bytes) (bytes_word (length bytes))

-- bytes as a literal, between two texts
abbrev pub quoted_text : List ℕ → Bytes → List ℕ → List ℕ
quoted_text before bytes behind = before ++ (text_of bytes ++ behind)
