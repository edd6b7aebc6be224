-- What a command is answered: a condition, and what it read.
use Rattle.std.specs.Prelude.{ℕ, Bool, false, ◌||◌, if◌then◌else◌, Option, Some, None, option_map, nat_lt, take, length}
use Rattle.cics_names.specs.Keyed.{Bytes, Map}
use Rattle.cics_names.specs.declared.conditions.Condition.{Condition}
use Rattle.cics_names.specs.declared.conditions.Condition.TheVariants.{Normal, Notfnd, Invreq, Lengerr}
use Rattle.cics_ksds.specs.Files.{first_from}
use Rattle.cics_browse.specs.Positions.{is_asked_for}
use Rattle.cics_names.specs.declared.commands.Verb.{Verb}
use Rattle.cics_names.specs.declared.commands.Verb.TheVariants.{Read}
use Rattle.cics_dispatch.specs.declared.machine.outcomes.Reply.{Reply}

-- a condition and nothing else
abbrev pub plain : Condition → Reply
plain condition = record { condition = condition; key = None; content = None; number = None }

-- NORMAL with a content
abbrev pub giving : Bytes → Reply
giving content = record { condition = Normal; key = None; content = Some content; number = None }

-- LENGTH on a read: whether the content is longer
abbrev pub is_longer : Option ℕ → Option Bytes → Bool
is_longer (Some n) (Some content) = nat_lt n (length content)
is_longer (Some n) None = false
is_longer None content = false

-- LENGTH on a read: the first bytes
abbrev pub cut_to : Option ℕ → Option Bytes → Option Bytes
cut_to (Some n) content = option_map (λ bytes. take n bytes) content
cut_to None content = content

-- a longer content than LENGTH is LENGERR, with its first bytes; the record counts as read all the
-- same
abbrev pub cut : Option ℕ → Reply → Reply
cut n r = if is_longer n r.content then record { condition = Lengerr; key = r.key; content = cut_to n r.content; number = r.number } else r

-- READ without UPDATE, from the first record not below the key: with GTEQ it is read, else only if
-- it has the key, or with GENERIC a key that begins with it
abbrev pub read_found : Bytes → Bool → Bool → Option (Bytes × Bytes) → Reply
read_found key generic gteq None = plain Notfnd
read_found key generic gteq (Some found) = if gteq || is_asked_for key generic found.0 then giving found.1 else plain Notfnd

-- READ without UPDATE of these records
abbrev pub read_reply : Map Bytes → Bytes → Bool → Bool → Reply
read_reply records key generic gteq = read_found key generic gteq (first_from records key false)

-- what READ is answered if it is executed without UPDATE, cut to LENGTH; INVREQ for another verb
abbrev pub read_told : Map Bytes → Verb → Reply
read_told records (Read f key given n generic gteq update) = cut n (read_reply records key generic gteq)
read_told records verb = plain Invreq
