-- A session, one byte or one line further.
use Rattle.std.proofs.Common.{◌≡◌, ℕ, true, false, ◌==◌, ◌+◌, List, [], ◌∷◌, ◌++◌, length, take, drop, map, refl, ap, sym, ◌∙◌, subst, append_assoc, append-nil, arith, Option, inl, inr, take-append-drop}
use Rattle.std.proofs.lemmas.Bool.{cases_Bool, eqb-true}
use Rattle.std.proofs.lemmas.List.{map-append}
use Rattle.std.proofs.Math.Numerals.{one-add}
use Rattle.std.proofs.lemmas.List.Sums.{fold-append}
use Rattle.std.specs.Prelude.{is_some, ◌||◌}
use Rattle.std.specs.Global.{Vec}
use Rattle.std.specs.List.{list_all, prefix_len}
use Rattle.std.specs.Io.BufRead.{strip_last}
use Rattle.std.specs.Io.KnownBytes.{Appends}
use Rattle.cics_run.specs.Stage.Amiss.{any_amiss}
use Rattle.cics_run.specs.Session.Lines.{pieces, completed, unfinished, is_in_line}
use Rattle.cics_run.specs.Session.Printing.{AppendsFront, Prints}
use Rattle.cics_run.specs.Session.Running.{Form, has_fault, next, play, start, stepped, journal_of, journal}
use Rattle.cics_run.specs.Session.Standing.{next_step, next_text, ended_line, Ran, Stands, Keeps, HasTold, HasWatched, Stopped}
use Rattle.cics_run.specs.Stage.Printed.{watched_by, watched_on}
use Rattle.cics_run.specs.Messages.Remarks.{remarked}
use Rattle.cics_run.specs.declared.session.session.Session.{Session}
use Rattle.cics_run.proofs.OfSession.Printing.{prints-prints, prints-all, prints-front, prints-part, front-longer}
use Rattle.cics_run.proofs.OfSession.Playing.{pieces-lf, pieces-bytes, next-going, journal-stepped, told-stepped, watched-stepped, journal-front, fault-stays}

completed-bytes : (bytes more : List ℕ) → list_all is_in_line more ≡ true → completed (bytes ++ more) ≡ completed bytes
completed-bytes bytes more all = ap (λ p. map (strip_last 13) p.0) (pieces-bytes bytes more all)

completed-lf : (bytes : List ℕ) → completed (bytes ++ 10 ∷ []) ≡ completed bytes ++ strip_last 13 (unfinished bytes) ∷ []
completed-lf bytes = ap (λ p. map (strip_last 13) p.0) (pieces-lf bytes) ∙ map-append (strip_last 13) (pieces bytes).0 (unfinished bytes ∷ [])

-- the lines up to the one that an LF ends
play-lf : (form : Form) (bytes : List ℕ) (before now : Option (List ℕ)) (s : Session) → Stands form bytes before now s
    → play (completed (bytes ++ 10 ∷ [])) ≡ stepped (play (completed bytes)) (ended_line s) (next_step s (ended_line s))
play-lf form bytes before now s at =
    ap play (completed-lf bytes) ∙ fold-append next start (completed bytes) (strip_last 13 (unfinished bytes) ∷ [])
    ∙ next-going (play (completed bytes)) (strip_last 13 (unfinished bytes)) at.going
    ∙ rw (at.stage, at.line) refl

-- the journal up to that line
journal-lf : (form : Form) (bytes : List ℕ) (before now : Option (List ℕ)) (s : Session) → Stands form bytes before now s
    → journal form (bytes ++ 10 ∷ []) ≡ journal form bytes ++ next_text s (ended_line s)
journal-lf form bytes before now s at =
    ap (journal_of form) (play-lf form bytes before now s at)
    ∙ rw (at.shows, at.number) (journal-stepped form (play (completed bytes)) (ended_line s) (next_step s (ended_line s)))

pub stands-bytes : (form : Form) (bytes more : List ℕ) (before now : Option (List ℕ)) (s t : Session) → list_all is_in_line more ≡ true → Stands form bytes before now s
    → t.stage ≡ s.stage → t.number ≡ s.number → t.line.items ≡ s.line.items ++ more → t.journal ≡ s.journal → t.with_script ≡ s.with_script
    → Stands form (bytes ++ more) before now t
stands-bytes form bytes more before now s t all at stage number line journals shows =
    let same : play (completed (bytes ++ more)) ≡ play (completed bytes) = ap play (completed-bytes bytes more all) in
    record {
      stage = stage ∙ at.stage ∙ sym (ap (λ p. p.stage) same);
      number = number ∙ at.number ∙ sym (ap (λ p. p.number) same);
      line = line ∙ ap (λ x. x ++ more) at.line ∙ sym (ap (λ p. p.1) (pieces-bytes bytes more all));
      going = ap has_fault same ∙ at.going;
      amiss = ap (λ j. j.is_amiss) journals ∙ at.amiss ∙ sym (ap (λ p. p.is_amiss) same);
      told = ap (λ j. j.told) journals ∙ at.told ∙ sym (ap (λ p. p.told form.scope) same);
      watched = ap watched_by journals ∙ at.watched ∙ sym (ap (λ p. p.watched form.reads) same);
      shows = shows ∙ at.shows;
      printed = subst (λ j. Prints before now [] t.journal.text.items j) (sym (ap (journal_of form) same)) (subst (λ j. Prints before now [] j.text.items (journal form bytes)) (sym journals) at.printed);
    }

-- A session runs its line without the CR right before the LF: this is what it does next.
module _ (s : Session) (line : Vec ℕ) (cut : line.items ≡ ended_line s) (t : Session) where
  pub ran-cut : Ran (record s { line = line }) line.items t → Ran s (ended_line s) t
  ran-cut ran =
      record {
        stage = ran.stage ∙ ap (λ l. (next_step s l).stage) cut;
        number = ran.number;
        fault = ran.fault ∙ ap (λ l. (next_step s l).fault) cut;
        amiss = ran.amiss ∙ ap (λ l. s.journal.is_amiss || any_amiss (next_step s l).events) cut;
        told = ran.told ∙ ap (λ l. remarked s.journal.told (s.number + 1) l (next_step s l)) cut;
        watched = ran.watched ∙ ap (λ l. watched_on (s.number + 1) (watched_by s.journal) (next_step s l)) cut;
        shows = ran.shows;
      }

  pub prints-cut : (old now : Option (List ℕ)) (left : List ℕ) → Prints old now s.journal.text.items left (next_text (record s { line = line }) line.items)
      → Prints old now s.journal.text.items left (next_text s (ended_line s))
  prints-cut old now left = subst (λ l. Prints old now s.journal.text.items left (next_text s l)) cut

  pub front-cut : (old now : Option (List ℕ)) → AppendsFront old now (s.journal.text.items ++ next_text (record s { line = line }) line.items)
      → AppendsFront old now (s.journal.text.items ++ next_text s (ended_line s))
  front-cut old now = subst (λ l. AppendsFront old now (s.journal.text.items ++ next_text s l)) cut

-- what a session has printed that ran a line more
printed-line : (form : Form) (bytes : List ℕ) (before old now : Option (List ℕ)) (s t : Session) → Stands form bytes before old s
    → Prints old now s.journal.text.items t.journal.text.items (next_text s (ended_line s))
    → Prints before now [] t.journal.text.items (journal form (bytes ++ 10 ∷ []))
printed-line form bytes before old now s t at text =
    subst (Prints before now [] t.journal.text.items) (sym (journal-lf form bytes before old s at))
    (prints-prints _ _ _ [] s.journal.text.items t.journal.text.items (journal form bytes) (next_text s (ended_line s)) at.printed text)

-- what a session tells that ran a line more
told-line : (form : Form) (bytes : List ℕ) (before old : Option (List ℕ)) (s t : Session) → Stands form bytes before old s
    → Ran s (ended_line s) t → HasTold form.scope t (play (completed (bytes ++ 10 ∷ [])))
told-line form bytes before old s t at ran =
    ran.told ∙ told-stepped (play (completed bytes)) form.scope s.journal.told s.number (ended_line s) (next_step s (ended_line s)) at.told at.number
    ∙ sym (ap (λ p. p.told form.scope) (play-lf form bytes before old s at))

-- what it has noted of the run
watched-line : (form : Form) (bytes : List ℕ) (before old : Option (List ℕ)) (s t : Session) → Stands form bytes before old s
    → Ran s (ended_line s) t → HasWatched form.reads t (play (completed (bytes ++ 10 ∷ [])))
watched-line form bytes before old s t at ran =
    ran.watched ∙ watched-stepped (play (completed bytes)) form.reads (watched_by s.journal) s.number (ended_line s) (next_step s (ended_line s)) at.watched at.number
    ∙ sym (ap (λ p. p.watched form.reads) (play-lf form bytes before old s at))

pub stands-line : (form : Form) (bytes : List ℕ) (before old now : Option (List ℕ)) (s t : Session) → Stands form bytes before old s
    → Ran s (ended_line s) t → t.line.items ≡ []
    → Prints old now s.journal.text.items t.journal.text.items (next_text s (ended_line s))
    → false ≡ is_some t.fault
    → Stands form (bytes ++ 10 ∷ []) before now t
stands-line form bytes before old now s t at ran line text going =
    let after = play-lf form bytes before old s at in
    record {
      stage = ran.stage ∙ sym (ap (λ p. p.stage) after);
      number = ran.number ∙ ap (λ n. n + 1) at.number ∙ sym (ap (λ p. p.number) after);
      line = line ∙ sym (ap (λ p. p.1) (pieces-lf bytes));
      going = ap has_fault after ∙ sym (going ∙ ap is_some ran.fault);
      amiss = ran.amiss ∙ ap (λ b. b || any_amiss (next_step s (ended_line s)).events) at.amiss ∙ sym (ap (λ p. p.is_amiss) after);
      told = told-line form bytes before old s t at ran;
      watched = watched-line form bytes before old s t at ran;
      shows = ran.shows ∙ at.shows;
      printed = printed-line form bytes before old now s t at text;
    }

-- a session that ran a line and keeps it
keeps-line : (form : Form) (bytes : List ℕ) (before old : Option (List ℕ)) (s t : Session) → Stands form bytes before old s
    → Ran s (ended_line s) t → t.line.items ≡ ended_line s → Keeps t (play (completed (bytes ++ 10 ∷ [])))
keeps-line form bytes before old s t at ran line =
    let after = play-lf form bytes before old s at in
    record {
      line = line ∙ sym (ap (λ p. p.line) after);
      number = ran.number ∙ ap (λ n. n + 1) at.number ∙ sym (ap (λ p. p.number) after);
      fault = ran.fault ∙ sym (ap (λ p. p.fault) after);
    }

pub stopped-line : (form : Form) (bytes more : List ℕ) (before old now : Option (List ℕ)) (s t : Session) → Stands form bytes before old s
    → Ran s (ended_line s) t → t.line.items ≡ ended_line s
    → Prints old now s.journal.text.items t.journal.text.items (next_text s (ended_line s)) → t.journal.text.items ≡ []
    → true ≡ is_some t.fault
    → Stopped form ((bytes ++ 10 ∷ []) ++ more) before now t
stopped-line form bytes more before old now s t at ran line text none fault =
    let kept = keeps-line form bytes before old s t at ran line in
    let here : has_fault (play (completed (bytes ++ 10 ∷ []))) ≡ true = ap is_some (sym kept.fault) ∙ sym fault in
    let same = fault-stays (bytes ++ 10 ∷ []) more here in
    let all = printed-line form bytes before old now s t at text in
    record {
      fault = ap has_fault same ∙ here;
      written = subst (Appends before now) (sym (ap (journal_of form) same))
          (prints-all before now [] (journal form (bytes ++ 10 ∷ [])) (subst (λ x. Prints before now [] x (journal form (bytes ++ 10 ∷ []))) none all));
      kept = subst (Keeps t) (sym same) kept;
      told = told-line form bytes before old s t at ran ∙ sym (ap (λ p. p.told form.scope) same);
    }

-- a line of whose text the writer took a front
pub front-line : (form : Form) (bytes more : List ℕ) (before old now : Option (List ℕ)) (s : Session) → Stands form bytes before old s
    → AppendsFront old now (s.journal.text.items ++ next_text s (ended_line s))
    → AppendsFront before now (journal form ((bytes ++ 10 ∷ []) ++ more))
front-line form bytes more before old now s at front =
    front-longer before now (journal form (bytes ++ 10 ∷ [])) (journal form ((bytes ++ 10 ∷ []) ++ more)) (journal-front form (bytes ++ 10 ∷ []) more)
    (subst (AppendsFront before now) (sym (journal-lf form bytes before old s at)) (prints-front before old now [] s.journal.text.items (journal form bytes) (next_text s (ended_line s)) at.printed front))

-- no more was written
pub front-here : (form : Form) (bytes more : List ℕ) (before now : Option (List ℕ)) (s : Session) → Stands form bytes before now s → AppendsFront before now (journal form (bytes ++ more))
front-here form bytes more before now s at =
    front-longer before now (journal form bytes) (journal form (bytes ++ more)) (journal-front form bytes more) (prints-part before now [] s.journal.text.items (journal form bytes) at.printed)

-- the bytes before an LF, and what follows them: an LF, if anything
in-front : (bytes : List ℕ) → list_all is_in_line (take (prefix_len is_in_line bytes) bytes) ≡ true
in-front [] = refl
in-front (c ∷ bytes) = elim (cases_Bool (is_in_line c)) [ inl here ↦ rw (here, one-add, here) (in-front bytes) | inr lf ↦ rw lf refl ]

lf-behind : (bytes : List ℕ) (c : ℕ) (after : List ℕ) → drop (prefix_len is_in_line bytes) bytes ≡ c ∷ after → c ≡ 10
lf-behind [] c after e = cc
lf-behind (d ∷ bytes) c after e =
    elim (cases_Bool (d == 10)) [
      | inl lf ↦ let here = rw lf at e in cc (here, eqb-true d 10 lf)
      | inr other ↦ lf-behind bytes c after (rw (other, one-add) at e)
    ]

-- A line's bytes that came, and what is behind them.
pub record Cut (rest front behind : List ℕ) : Type 0 where
  pub in_line : list_all is_in_line front ≡ true
  pub whole : front ++ behind ≡ rest
  pub lf : (c : ℕ) (after : List ℕ) → behind ≡ c ∷ after → c ≡ 10

pub cut-line : (rest front behind : List ℕ) (n : ℕ) → n ≡ prefix_len is_in_line rest → front ≡ take n rest → behind ≡ drop n rest → Cut rest front behind
cut-line rest front behind n count first others =
    record {
      in_line = rw (first, count) (in-front rest);
      whole = rw (first, others) (take-append-drop n rest);
      lf = λ c after e. lf-behind rest c after (rw (← count) (sym others ∙ e));
    }

-- the bytes of a chunk, where no LF is left in it, and where a line ends in it
pub all-came : (bytes done front behind rest chunk : List ℕ) → front ++ behind ≡ rest → done ++ rest ≡ chunk → length behind ≡ 0 → (bytes ++ done) ++ front ≡ bytes ++ chunk
all-came bytes done front [] rest chunk e f none = append_assoc bytes done front ∙ ap (λ x. bytes ++ x) (ap (λ x. done ++ x) (sym (append-nil front) ∙ e) ∙ f)
all-came bytes done front (c ∷ behind) rest chunk e f none = absurd (omega (arith, none))

pub line-came : (bytes done front behind after rest chunk : List ℕ) (c : ℕ) → front ++ behind ≡ rest → done ++ rest ≡ chunk → behind ≡ c ∷ after → c ≡ 10
    → (((bytes ++ done) ++ front) ++ 10 ∷ []) ++ after ≡ bytes ++ chunk
line-came bytes done front behind after rest chunk c e f is lf =
    append_assoc ((bytes ++ done) ++ front) (10 ∷ []) after
    ∙ append_assoc (bytes ++ done) front (10 ∷ after)
    ∙ append_assoc bytes done (front ++ 10 ∷ after)
    ∙ ap (λ x. bytes ++ (done ++ (front ++ x))) (sym (is ∙ ap (λ d. d ∷ after) lf))
    ∙ ap (λ x. bytes ++ (done ++ x)) e ∙ ap (λ x. bytes ++ x) f

pub some-came : (bytes done front behind rest chunk : List ℕ) → front ++ behind ≡ rest → done ++ rest ≡ chunk → (bytes ++ done) ++ rest ≡ bytes ++ chunk
some-came bytes done front behind rest chunk e f = append_assoc bytes done rest ∙ ap (λ x. bytes ++ x) f

pub behind-line : (bytes done front last : List ℕ) → bytes ++ ((done ++ front) ++ last) ≡ ((bytes ++ done) ++ front) ++ last
behind-line bytes done front last = sym (ap (λ x. x ++ last) (append_assoc bytes done front) ∙ append_assoc bytes (done ++ front) last)
