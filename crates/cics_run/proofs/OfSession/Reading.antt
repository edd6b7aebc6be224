-- What a read adds to the bytes that were read.
use Rattle.std.proofs.Common.{◌≡◌, ℕ, false, ◌+◌, ◌≤◌, List, [], ◌∷◌, ◌++◌, length, take, refl, ap, arith, sym, ◌∙◌, subst, append-nil, Option, length-append, inl, inr, ◌==◌}
use Rattle.std.proofs.lemmas.List.{take-append-le, length-map, length-take-le}
use Rattle.std.proofs.lemmas.Bool.{cases_Bool}
use Rattle.std.proofs.Math.Seq.{take-append_seam}
use Rattle.std.specs.List.{fold}
use Rattle.std.specs.Prelude.{Result, Ok, Err, option_map}
use Rattle.std.specs.Io.KnownBytes.{Appends, Consumes, IsAtEnd}
use Rattle.std.specs.Io.BufRead.{strip_last}
use Rattle.cics_run.specs.declared.messages.remarks.Remarks.{Remarks}
use Rattle.cics_run.specs.Session.Lines.{Pieces, pieces, with_first, completed}
use Rattle.cics_run.specs.Session.Running.{Form, Played, has_fault, initially_watched, next, start, journal, is_stopped, Answers, ReadsOn, RunsOver}
use Rattle.cics_run.specs.Session.Printing.{AppendsFront, Prints}
use Rattle.cics_run.specs.Session.Standing.{IsNew, Stands, Keeps, Stopped, Finishes, KeepsEnd, fault_of, ended}
use Rattle.cics_run.specs.Session.Streams.{Tells}
use Rattle.cics_run.specs.declared.session.writing.Stop.{Stop}
use Rattle.cics_run.specs.declared.session.writing.Stop.TheVariants as stops
use Rattle.cics_run.specs.declared.session.running.Status.{Status}
use Rattle.cics_run.specs.declared.session.running.Status.TheVariants as status
use Rattle.cics_run.specs.declared.session.running.TheConstants.{MOST_SCRIPT_BYTES, CHUNK}
use Rattle.cics_run.specs.Messages.Remarks.{no_remarks}
use Rattle.cics_run.specs.Reads.Watching.{watched_in}
use Rattle.cics_run.specs.declared.reads.watching.Watcher.{Watcher}
use Rattle.cics_run.specs.declared.session.session.Session.{Session}
use Rattle.cics_run.specs.declared.stage.notices.Scope.{Scope}
use Rattle.cics_run.proofs.OfSession.Known.{consumes-append}
use Rattle.cics_run.proofs.OfSession.Printing.{prints-all, prints-nothing}
use Rattle.cics_run.proofs.OfSession.Playing.{fault-output, fault-whole, journal-start}

-- there are no more lines than bytes
with_first-lines : (c : ℕ) (p : Pieces) → length (with_first c p).0 ≡ length p.0
with_first-lines c ([], after) = refl
with_first-lines c (line ∷ lines, after) = refl

pieces-lines : (bytes : List ℕ) → length (pieces bytes).0 ≤ length bytes
pieces-lines [] = omega arith
pieces-lines (c ∷ bytes) =
    elim (cases_Bool (c == 10)) [
      | inl here ↦ rw here (omega (arith, pieces-lines bytes))
      | inr past ↦ rw past (omega (arith, pieces-lines bytes, with_first-lines c (pieces bytes)))
    ]

next-number : (p : Played) (line : List ℕ) → (next p line).number ≤ p.number + 1
next-number p line = elim (cases_Bool (has_fault p)) [ inl fault ↦ rw fault (omega arith) | inr going ↦ rw going (omega arith) ]

fold-number : (lines : List (List ℕ)) (p : Played) → (fold next p lines).number ≤ p.number + length lines
fold-number [] p = omega arith
fold-number (line ∷ lines) p = omega (arith, fold-number lines (next p line), next-number p line)

pub number-bound : (form : Form) (bytes : List ℕ) (before now : Option (List ℕ)) (s : Session) → Stands form bytes before now s → s.number ≤ length bytes
number-bound form bytes before now s at = omega (arith, at.number, fold-number (completed bytes) start, length-map (pieces bytes).0 (strip_last 13), pieces-lines bytes)

-- the bytes of a read, as `&buffer[..n]` has them
pub front-of : (n : ℕ) (got rest : List ℕ) → n ≤ length got → take n (got ++ rest) ≡ take n got
front-of n got rest fits = take-append-le n got rest fits

pub chunk-length : (n : ℕ) (got rest : List ℕ) → n ≤ length got → length (take n (got ++ rest)) ≡ n
chunk-length n got rest fits = rw (front-of n got rest fits) (length-take-le n got fits)

pub within-chunk : (bytes chunk : List ℕ) (n room : ℕ) → length chunk ≡ n → n ≤ room → length bytes + room ≡ MOST_SCRIPT_BYTES → length (bytes ++ chunk) ≤ MOST_SCRIPT_BYTES
within-chunk bytes chunk n room count fits full = rw length-append (omega (arith, count, fits, full))

-- no line of these bytes is a fault, and the last read gave nothing
pub reads-going : (bytes : List ℕ) (told : Option (List ℕ)) → is_stopped bytes ≡ false → Tells told [] → ReadsOn bytes told
reads-going bytes told going none = (bytes, [], sym (append-nil bytes), omega arith, going, none)

-- the last read gave a chunk behind them
pub reads-chunk : (bytes chunk : List ℕ) (told : Option (List ℕ)) → is_stopped bytes ≡ false → length chunk ≤ CHUNK → Tells told chunk → ReadsOn (bytes ++ chunk) told
reads-chunk bytes chunk told going fits last = (bytes, chunk, refl, fits, going, last)

pub stopped-output : (form : Form) (bytes : List ℕ) (rest before now : Option (List ℕ)) (s : Session) → Stopped form bytes before now s → Answers form bytes rest before now (Ok status.LineFault)
stopped-output form bytes rest before now s stop =
    let (same, faulty) = fault-output form bytes stop.fault in
    (subst (λ t. Appends before now t) (sym same) stop.written, faulty, inl stop.fault)

-- the line at which they stopped is kept
pub stopped-keeps : (form : Form) (bytes : List ℕ) (input rest before now : Option (List ℕ)) (s : Session) → Consumes input rest bytes → Stopped form bytes before now s → KeepsEnd form input rest s (Ok status.LineFault)
stopped-keeps form bytes input rest before now s read stop =
    let same = fault-whole bytes stop.fault in
    (bytes, read, ap has_fault same ∙ stop.fault, subst (Keeps s) (sym same) stop.kept, stop.told ∙ sym (ap (λ p. p.told form.scope) same))

-- a run that came to the input's end keeps its final region, or the last line, where that is a fault
pub ended-keeps : (form : Form) (bytes : List ℕ) (input rest before now : Option (List ℕ)) (s : Session) (answer : Result Status Stop) → Consumes input rest bytes → Finishes form bytes before now s answer → KeepsEnd form input rest s (ended answer)
ended-keeps form bytes input rest before now s (Ok status.Done) read (wrote, going, end, told) = (bytes, read, going, end, told)
ended-keeps form bytes input rest before now s (Ok status.LineFault) read (wrote, faulty, kept, told) = (bytes, read, faulty, kept, told)
ended-keeps form bytes input rest before now s (Err stops.NoMemory) read end = tt
ended-keeps form bytes input rest before now s (Err stops.WriteFault) read end = tt

-- a new session stands before the first byte
pub stands-new : (form : Form) (now : Option (List ℕ)) (s : Session) (scope : Scope) (watcher : Option Watcher) → scope ≡ form.scope → option_map watched_in watcher ≡ initially_watched form.reads → IsNew s
    → Stands form [] now now (record s { with_script = form.with_script; journal = record s.journal { told = record s.journal.told { scope = scope }; watcher = watcher } })
stands-new form now s scope watcher wanted watched new =
    record {
      stage = new.stage;
      number = new.number;
      line = new.line;
      going = refl;
      amiss = new.calm;
      told = ap {A = Remarks} (λ r. record r { scope = scope }) new.silent ∙ ap no_remarks wanted;
      watched = watched;
      shows = refl;
      printed = rw (new.pending, journal-start form) (prints-nothing now []);
    }

-- where nothing is pending, the journal is written
pub all-written : (form : Form) (bytes : List ℕ) (before now : Option (List ℕ)) (s : Session) → Stands form bytes before now s → s.journal.text.items ≡ [] → Appends before now (journal form bytes)
all-written form bytes before now s at none = prints-all before now [] (journal form bytes) (subst (λ x. Prints before now [] x (journal form bytes)) none at.printed)

-- one chunk more
pub read_more : (a b c : Option (List ℕ)) (bytes got rest : List ℕ) (n : ℕ) → n ≤ length got → Consumes a b bytes → Consumes b c (take n got)
    → Consumes a c (bytes ++ take n (got ++ rest))
read_more a b c bytes got rest n fits p q = rw (front-of n got rest fits) (consumes-append a b c bytes (take n got) p q)

pub read_nothing : (a b c : Option (List ℕ)) (bytes got : List ℕ) (n : ℕ) → n ≡ 0 → Consumes a b bytes → Consumes b c (take n got) → Consumes a c bytes
read_nothing a b c bytes got n zero p q = rw append-nil at (consumes-append a b c bytes [] p (rw zero at q))

-- the bytes are one more than may come
pub one_more : (bytes got : List ℕ) (n limit : ℕ) → length bytes ≡ limit → n ≡ 1 → n ≤ length got → (length (bytes ++ take n got) ≡ limit + 1) × (take limit (bytes ++ take n got) ≡ bytes)
one_more bytes got n limit full one fits =
    (simp (length-append, length-take-le n got fits) (omega (arith, full, one)), rw (← full) (take-append_seam bytes (take n got)))

-- a run that printing stopped
pub runs-stop : (form : Form) (bytes : List ℕ) (input rest last before now : Option (List ℕ)) (stop : Stop) → Consumes input rest bytes → length bytes ≤ MOST_SCRIPT_BYTES → ReadsOn bytes last
    → AppendsFront before now (journal form bytes) → RunsOver form input rest last before now (Err (fault_of stop))
runs-stop form bytes input rest last before now stops.NoMemory read within on front = (bytes, read, within, on, inl front)
runs-stop form bytes input rest last before now stops.WriteFault read within on front = (bytes, read, within, on, inl front)

-- a run that came to the input's end
pub runs-ended : (form : Form) (bytes : List ℕ) (input rest last before now : Option (List ℕ)) (s : Session) (answer : Result Status Stop) → Consumes input rest bytes → length bytes ≤ MOST_SCRIPT_BYTES → ReadsOn bytes last
    → IsAtEnd rest → Finishes form bytes before now s answer → RunsOver form input rest last before now (ended answer)
runs-ended form bytes input rest last before now s (Ok status.Done) read within on end (wrote, going, stage, told) = (bytes, read, within, on, (wrote, going, end))
runs-ended form bytes input rest last before now s (Ok status.LineFault) read within on end (wrote, faulty, kept, told) = (bytes, read, within, on, (wrote, faulty, inr end))
runs-ended form bytes input rest last before now s (Err stops.NoMemory) read within on end front = (bytes, read, within, on, inr (end, front))
runs-ended form bytes input rest last before now s (Err stops.WriteFault) read within on end front = (bytes, read, within, on, inr (end, front))
