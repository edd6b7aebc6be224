-- What is counted and written if there is no page.
use Rattle.std.proofs.Common.{◌≡◌, ℕ, Bool, true, false, List, refl, Option, Ok, Err}
use Rattle.std.specs.Io.KnownBytes.{Appends, Consumes, IsAtEnd}
use Rattle.cics_run.specs.Session.Running.{is_faulty, read_failures, write_failures}
use Rattle.cics_run.specs.declared.session.session.Session.{Session}
use Rattle.cics_run.proofs.OfSession.Known.{appends-nothing}
use Rattle.cics_picture.specs.Draw.Pictures.{KeepsLast, run_status}
use Rattle.cics_picture.specs.declared.page.lines.Unwritten.{Unwritten}
use Rattle.cics_picture.specs.declared.page.lines.Unwritten.TheVariants as unwrittens
use Rattle.cics_picture.specs.Page.Pages.{KeepsFault, HasTooManySteps, HasTooLongLines, Answers, IsPage, failures_of, unwritten}

-- what isn't written reads and writes nothing
pub unwritten-read : (e : Unwritten) → failures_of read_failures (unwritten e) ≡ 0
unwritten-read unwrittens.NoMemory = refl
unwritten-read unwrittens.TooManySteps = refl
unwritten-read unwrittens.TooLong = refl

pub unwritten-written : (e : Unwritten) → failures_of write_failures (unwritten e) ≡ 0
unwritten-written unwrittens.NoMemory = refl
unwritten-written unwrittens.TooManySteps = refl
unwritten-written unwrittens.TooLong = refl

-- the line with the fault is kept
pub kept-read : (input rest : Option (List ℕ)) (bytes : List ℕ) (s : Session) (fault : Bool) → Consumes input rest bytes → is_faulty bytes ≡ fault → KeepsLast bytes s fault → KeepsFault input rest s (Ok (run_status fault))
kept-read input rest bytes s true read faulty kept = (bytes, read, faulty, kept)
kept-read input rest bytes s false read faulty kept = tt

-- without a page nothing is written
pub unwritten-answers :
    (bytes : List ℕ) (rest now : Option (List ℕ)) (e : Unwritten) → IsAtEnd rest → (e ≡ unwrittens.TooManySteps → HasTooManySteps bytes) →
    (e ≡ unwrittens.TooLong → HasTooLongLines bytes) → Answers bytes rest now now (Err (unwritten e))
unwritten-answers bytes rest now unwrittens.NoMemory ended over long = appends-nothing now
unwritten-answers bytes rest now unwrittens.TooManySteps ended over long = (ended, over refl, appends-nothing now)
unwritten-answers bytes rest now unwrittens.TooLong ended over long = (ended, long refl, appends-nothing now)

-- the page was written, and the run ended so
pub written-answers :
    (bytes : List ℕ) (rest old now : Option (List ℕ)) (text : List ℕ) (fault : Bool) → IsAtEnd rest → is_faulty bytes ≡ fault → IsPage bytes text →
    Appends old now text → Answers bytes rest old now (Ok (run_status fault))
written-answers bytes rest old now text true ended faulty page put = (ended, faulty, (text, page, put))
written-answers bytes rest old now text false ended faulty page put = (ended, faulty, (text, page, put))
