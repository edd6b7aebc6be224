-- A session at the input's end.
use Rattle.std.proofs.Common.{◌≡◌, ℕ, Bool, true, false, ◌+◌, cond, List, [], ◌∷◌, ◌++◌, length, refl, ap, sym, ◌∙◌, subst, append-nil, Option, ◌<◌, arith}
use Rattle.std.proofs.lemmas.List.Sums.{fold-append}
use Rattle.std.proofs.lemmas.List.{nil_from_length}
use Rattle.std.proofs.lemmas.Bool.{true≢false}
use Rattle.std.specs.Prelude.{Result, Ok, Err, IfOk, OnOk, OnErr, is_some, ◌||◌}
use Rattle.std.specs.Io.KnownBytes.{Appends}
use Rattle.cics_run.specs.Session.Lines.{completed, unfinished, last_line, all_lines}
use Rattle.cics_run.specs.Session.Printing.{AppendsFront, Prints}
use Rattle.cics_run.specs.Session.Running.{Form, Played, are_reads_amiss, has_fault, next, play, start, stepped, journal_of, journal, whole, output, is_faulty}
use Rattle.cics_run.specs.Stage.Amiss.{any_amiss}
use Rattle.cics_run.specs.Reads.Watched.{Watched}
use Rattle.cics_run.specs.Stage.Printed.{watched_by}
use Rattle.cics_run.specs.Stage.Stages.{region_of}
use Rattle.cics_run.specs.Session.Standing.{next_step, next_text, Ran, Stands, Keeps, IsClosed, Closes, HasEnd, HasTold}
use Rattle.cics_run.specs.declared.stage.stage.Stage.{Stage}
use Rattle.cics_run.specs.declared.stage.stage.Stage.TheVariants.{Running}
use Rattle.cics_run.specs.declared.session.session.Session.{Session}
use Rattle.cics_run.proofs.OfSession.Printing.{prints-prints, prints-all, prints-front, prints-written, front-longer}
use Rattle.cics_run.proofs.OfSession.Playing.{next-going, journal-stepped, told-stepped, watched-stepped, whole-front}

-- no line is left
pub closed-empty : (form : Form) (bytes : List ℕ) (before now : Option (List ℕ)) (s : Session) → Stands form bytes before now s → length s.line.items ≡ 0 → IsClosed form bytes before now s false
closed-empty form bytes before now s at empty =
    let none : unfinished bytes ≡ [] = nil_from_length _ (ap length (sym at.line) ∙ empty) in
    let same : play (all_lines bytes) ≡ play (completed bytes) = ap (λ l. play (completed bytes ++ last_line l)) none ∙ ap play (append-nil (completed bytes)) in
    record {
      fault = ap has_fault same ∙ at.going;
      stage = ap (λ p. p.stage) same ∙ sym at.stage;
      amiss = at.amiss ∙ sym (ap (λ p. p.is_amiss) same);
      told = at.told ∙ sym (ap (λ p. p.told form.scope) same);
      watched = at.watched ∙ sym (ap (λ p. p.watched form.reads) same);
      printed = subst (Prints before now [] s.journal.text.items) (sym (ap (journal_of form) same)) at.printed;
      kept = λ never. absurd (true≢false (sym never));
    }

last_line-some : (l : List ℕ) → 0 < length l → last_line l ≡ l ∷ []
last_line-some [] some = absurd (omega arith)
last_line-some (c ∷ l) some = refl

-- a session with a last line that lacks its LF
module _ (form : Form) (bytes : List ℕ) (before old : Option (List ℕ)) (s : Session) (at : Stands form bytes before old s) (some : 0 < length s.line.items) where
  play-last : play (all_lines bytes) ≡ stepped (play (completed bytes)) s.line.items (next_step s s.line.items)
  play-last =
      let here : last_line (unfinished bytes) ≡ s.line.items ∷ [] = rw (← at.line) (last_line-some s.line.items some) in
      ap (λ l. play (completed bytes ++ l)) here ∙ fold-append next start (completed bytes) (s.line.items ∷ [])
      ∙ next-going (play (completed bytes)) s.line.items at.going
      ∙ rw at.stage refl

  journal-last : journal_of form (play (all_lines bytes)) ≡ journal form bytes ++ next_text s s.line.items
  journal-last = ap (journal_of form) play-last ∙ rw (at.shows, at.number) (journal-stepped form (play (completed bytes)) s.line.items (next_step s s.line.items))

  pub closed-last : (now : Option (List ℕ)) (t : Session) (fault : Bool) → Ran s s.line.items t → t.line.items ≡ cond fault s.line.items [] → fault ≡ is_some t.fault
      → Prints old now s.journal.text.items t.journal.text.items (next_text s s.line.items)
      → IsClosed form bytes before now t fault
  closed-last now t fault ran line is_fault text =
      record {
        fault = ap has_fault play-last ∙ sym (is_fault ∙ ap is_some ran.fault);
        stage = ap (λ p. p.stage) play-last ∙ sym ran.stage;
        amiss = ran.amiss ∙ ap (λ b. b || any_amiss (next_step s s.line.items).events) at.amiss ∙ sym (ap (λ p. p.is_amiss) play-last);
        told = ran.told ∙ told-stepped (play (completed bytes)) form.scope s.journal.told s.number s.line.items (next_step s s.line.items) at.told at.number
            ∙ sym (ap (λ p. p.told form.scope) play-last);
        watched = ran.watched ∙ watched-stepped (play (completed bytes)) form.reads (watched_by s.journal) s.number s.line.items (next_step s s.line.items) at.watched at.number
            ∙ sym (ap (λ p. p.watched form.reads) play-last);
        printed = subst (Prints before now [] t.journal.text.items) (sym journal-last)
            (prints-prints before old now [] s.journal.text.items t.journal.text.items (journal form bytes) (next_text s s.line.items) at.printed text);
        kept = λ is. record {
          line = line ∙ ap (λ b. cond b s.line.items []) is ∙ sym (ap (λ p. p.line) play-last);
          number = ran.number ∙ ap (λ n. n + 1) at.number ∙ sym (ap (λ p. p.number) play-last);
          fault = ran.fault ∙ sym (ap (λ p. p.fault) play-last);
        };
      }

  front-last : (now : Option (List ℕ)) → AppendsFront old now (s.journal.text.items ++ next_text s s.line.items) → AppendsFront before now (journal_of form (play (all_lines bytes)))
  front-last now front =
      subst (AppendsFront before now) (sym journal-last)
      (prints-front before old now [] s.journal.text.items (journal form bytes) (next_text s s.line.items) at.printed front)

  -- what running it gave
  pub closes-at : {E : Type 0} (now : Option (List ℕ)) (t : Session) (result : Result Bool E)
      → OnOk result (Ran s s.line.items t)
      → IfOk result (λ fault. t.line.items ≡ cond fault s.line.items [])
      → IfOk result (λ fault. fault ≡ is_some t.fault)
      → OnOk result (Prints old now s.journal.text.items t.journal.text.items (next_text s s.line.items))
      → OnErr result (AppendsFront old now (s.journal.text.items ++ next_text s s.line.items))
      → Closes form bytes before now t result
  closes-at now t (Ok fault) ran line is_fault text front = closed-last now t fault ran line is_fault text
  closes-at now t (Err e) ran line is_fault text front = front-last now front

-- a front of the journal is a front of the output
pub front-output : (form : Form) (bytes : List ℕ) (before now : Option (List ℕ)) → AppendsFront before now (journal_of form (play (all_lines bytes))) → AppendsFront before now (output form bytes)
front-output form bytes before now front = front-longer before now (journal_of form (play (all_lines bytes))) (output form bytes) (whole-front form (play (all_lines bytes))) front

whole-fault : (form : Form) (p : Played) → has_fault p ≡ true → whole form p ≡ journal_of form p
whole-fault form p fault =
    let j = journal_of form p in
    let ends = form.at_end p.stage (p.watched form.reads) in subst (λ b. cond b j (j ++ ends) ≡ j) (sym fault) refl

whole-going : (form : Form) (p : Played) → has_fault p ≡ false → whole form p ≡ journal_of form p ++ form.at_end p.stage (p.watched form.reads)
whole-going form p going =
    let j = journal_of form p in
    let ends = form.at_end p.stage (p.watched form.reads) in subst (λ b. cond b j (j ++ ends) ≡ j ++ ends) (sym going) refl

-- the last line was a fault, and nothing is pending
pub fault-written : (form : Form) (bytes : List ℕ) (before now : Option (List ℕ)) (s : Session) → IsClosed form bytes before now s true → s.journal.text.items ≡ []
    → Appends before now (output form bytes) × (is_faulty bytes ≡ true) × Keeps s (play (all_lines bytes)) × HasTold form.scope s (play (all_lines bytes))
fault-written form bytes before now s closed none =
    let p = play (all_lines bytes) in
    let j = journal_of form p in (
      subst (Appends before now) (sym (whole-fault form p closed.fault)) (prints-all before now [] j (subst (λ x. Prints before now [] x j) none closed.printed)),
      closed.fault,
      closed.kept refl,
      closed.told,
    )

-- the text of a whole run: the journal, and behind it the listing
output-going : (form : Form) (bytes : List ℕ) (stage : Stage) (watched : Option Watched) → has_fault (play (all_lines bytes)) ≡ false → (play (all_lines bytes)).stage ≡ stage
    → watched ≡ (play (all_lines bytes)).watched form.reads
    → output form bytes ≡ journal_of form (play (all_lines bytes)) ++ form.at_end stage watched
output-going form bytes stage watched going same noted =
    whole-going form (play (all_lines bytes)) going ∙ (λ i. journal_of form (play (all_lines bytes)) ++ form.at_end (same i) (sym noted i))

pub end-written : (form : Form) (bytes : List ℕ) (before old now : Option (List ℕ)) (s t : Session) → IsClosed form bytes before old s false
    → Appends old now (s.journal.text.items ++ form.at_end s.stage (watched_by s.journal)) → t.stage ≡ Running (region_of s.stage) → t.journal.is_amiss ≡ (s.journal.is_amiss || are_reads_amiss (watched_by s.journal)) → t.journal.told ≡ s.journal.told
    → Appends before now (output form bytes) × (is_faulty bytes ≡ false) × HasEnd form.reads t (play (all_lines bytes)) × HasTold form.scope t (play (all_lines bytes))
end-written form bytes before old now s t closed took opened same told =
    let j = journal_of form (play (all_lines bytes)) in
    let ends = form.at_end s.stage (watched_by s.journal) in
    let all = prints-prints before old now [] s.journal.text.items [] j ends closed.printed (prints-written old now s.journal.text.items ends took) in (
      subst (Appends before now) (sym (output-going form bytes s.stage (watched_by s.journal) closed.fault closed.stage closed.watched)) (prints-all before now [] (j ++ ends) all),
      closed.fault,
      record {
        stage = opened ∙ ap (λ stage. Running (region_of stage)) (sym closed.stage);
        amiss = same ∙ (λ i. closed.amiss i || are_reads_amiss (closed.watched i));
      },
      told ∙ closed.told,
    )

pub end-front : (form : Form) (bytes : List ℕ) (before old now : Option (List ℕ)) (s : Session) → IsClosed form bytes before old s false
    → AppendsFront old now (s.journal.text.items ++ form.at_end s.stage (watched_by s.journal)) → AppendsFront before now (output form bytes)
end-front form bytes before old now s closed front =
    subst (AppendsFront before now) (sym (output-going form bytes s.stage (watched_by s.journal) closed.fault closed.stage closed.watched))
    (prints-front before old now [] s.journal.text.items (journal_of form (play (all_lines bytes))) (form.at_end s.stage (watched_by s.journal)) closed.printed front)
