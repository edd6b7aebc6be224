-- How a worked script is said.
use Rattle.std.proofs.Common.{◌≡◌, true, false, List, ℕ}
use Rattle.std.specs.List.{flat_map}
use Rattle.cics_run.specs.Stage.Journal.{line}
use Rattle.cics_run.specs.Session.Running.{Form, output, plain}

-- lines, each with its LF
abbrev pub lines : List (List ℕ) → List ℕ
lines texts = flat_map line texts

-- a run of a script of these lines writes these lines
abbrev pub Writes : Form → List (List ℕ) → List (List ℕ) → Type 0
Writes form script written = output form (lines script) ≡ lines written

-- the listing stands behind the journal
abbrev pub listed : Form
listed = plain (record { replay = false; no_list = false })

-- and the replay behind the listing
abbrev pub replayed : Form
replayed = plain (record { replay = true; no_list = false })

-- the journal alone, each line of the script in front of what it led to
abbrev pub with_script : Form
with_script = record (plain (record { replay = false; no_list = true })) { with_script = true }
