-- Lines and journals, one byte or one line further.
use Rattle.std.proofs.Common.{◌≡◌, ℕ, Bool, Option, true, false, ◌==◌, ◌+◌, cond, List, [], ◌∷◌, ◌++◌, map, refl, ap, sym, ◌∙◌, subst, append_assoc, append-nil, inl, inr}
use Rattle.std.proofs.lemmas.List.Sums.{fold-append}
use Rattle.std.proofs.lemmas.Bool.{cases_Bool, eqb-true, and_parts}
use Rattle.std.proofs.lemmas.List.{map-append}
use Rattle.std.specs.List.{fold, list_all}
use Rattle.std.specs.Prelude.{not, if◌then◌else◌}
use Rattle.std.specs.Io.BufRead.{strip_last}
use Rattle.cics_run.specs.Session.Lines.{Pieces, pieces, with_first, completed, unfinished, last_line, all_lines, is_in_line}
use Rattle.cics_run.specs.Stage.Journal.{script_line, text_of}
use Rattle.cics_run.specs.Stage.Stages.{step, Step}
use Rattle.cics_run.specs.Stage.Printed.{watched_on}
use Rattle.cics_run.specs.Reads.Watched.{Watched}
use Rattle.cics_run.specs.Session.Running.{Form, Played, has_fault, next, stepped, play, start, journal_of, journal, output, whole, is_faulty}
use Rattle.cics_run.specs.Session.Printing.{IsFront}
use Rattle.cics_run.specs.Messages.Remarks.{remarked}
use Rattle.cics_run.specs.declared.stage.notices.Scope.{Scope}
use Rattle.cics_run.specs.declared.messages.remarks.Remarks.{Remarks}

-- what isn't so is false
pub not-true : (b : Bool) → not b ≡ true → b ≡ false
not-true true e = sym e
not-true false e = refl

-- a line that gained its LF
with_first-complete : (c : ℕ) (p : Pieces) → with_first c (p.0 ++ p.1 ∷ [], []) ≡ ((with_first c p).0 ++ (with_first c p).1 ∷ [], [])
with_first-complete c ([], after) = refl
with_first-complete c (line ∷ lines, after) = refl

with_first-byte : (c d : ℕ) (p : Pieces) → with_first c (p.0, p.1 ++ d ∷ []) ≡ ((with_first c p).0, (with_first c p).1 ++ d ∷ [])
with_first-byte c d ([], after) = refl
with_first-byte c d (line ∷ lines, after) = refl

pub pieces-lf : (bytes : List ℕ) → pieces (bytes ++ 10 ∷ []) ≡ ((pieces bytes).0 ++ (pieces bytes).1 ∷ [], [])
pieces-lf [] = refl
pieces-lf (c ∷ bytes) =
    elim (cases_Bool (c == 10)) [
      | inl here ↦ rw (here, pieces-lf bytes) refl
      | inr past ↦ rw (past, pieces-lf bytes) (with_first-complete c (pieces bytes))
    ]

pub pieces-byte : (bytes : List ℕ) (d : ℕ) → (d == 10) ≡ false → pieces (bytes ++ d ∷ []) ≡ ((pieces bytes).0, (pieces bytes).1 ++ d ∷ [])
pieces-byte [] d other = rw other refl
pieces-byte (c ∷ bytes) d other =
    elim (cases_Bool (c == 10)) [
      | inl here ↦ rw (here, pieces-byte bytes d other) refl
      | inr past ↦ rw (past, pieces-byte bytes d other) (with_first-byte c d (pieces bytes))
    ]

-- more bytes, none of which is an LF
pub pieces-bytes : (bytes more : List ℕ) → list_all is_in_line more ≡ true → pieces (bytes ++ more) ≡ ((pieces bytes).0, (pieces bytes).1 ++ more)
pieces-bytes bytes [] all = rw (append-nil bytes, append-nil (pieces bytes).1) refl
pieces-bytes bytes (d ∷ more) all =
    let parts = and_parts (is_in_line d) (list_all is_in_line more) all in
    ap pieces (sym (append_assoc bytes (d ∷ []) more))
    ∙ pieces-bytes (bytes ++ d ∷ []) more parts.1
    ∙ ap (λ (p : Pieces). (p.0, p.1 ++ more)) (pieces-byte bytes d (not-true (d == 10) parts.0))
    ∙ ap (λ (x : List ℕ). ((pieces bytes).0, x)) (append_assoc (pieces bytes).1 (d ∷ []) more)

-- one byte more
pieces-grow : (bytes : List ℕ) (c : ℕ) → (lines : List (List ℕ)) × ((pieces (bytes ++ c ∷ [])).0 ≡ (pieces bytes).0 ++ lines)
pieces-grow bytes c =
    elim (cases_Bool (c == 10)) [
      | inl here ↦ ((pieces bytes).1 ∷ [], rw (eqb-true c 10 here) (ap (λ p. p.0) (pieces-lf bytes)))
      | inr past ↦ ([], ap (λ p. p.0) (pieces-byte bytes c past) ∙ sym (append-nil (pieces bytes).0))
    ]

-- the lines that were complete stay
pub pieces-front : (bytes more : List ℕ) → (lines : List (List ℕ)) × ((pieces (bytes ++ more)).0 ≡ (pieces bytes).0 ++ lines)
pieces-front bytes [] = ([], rw (append-nil bytes, append-nil (pieces bytes).0) refl)
pieces-front bytes (c ∷ more) =
    let (lines, e) = pieces-front (bytes ++ c ∷ []) more in
    let (first, f) = pieces-grow bytes c in
    (first ++ lines, ap (λ b. (pieces b).0) (sym (append_assoc bytes (c ∷ []) more)) ∙ e ∙ ap (λ x. x ++ lines) f ∙ append_assoc (pieces bytes).0 first lines)

-- a text that is a front of itself, and of what goes on from it
pub front-whole : (text : List ℕ) → IsFront text text
front-whole text = ([], sym (append-nil text))

pub front-trans : (a b c : List ℕ) → IsFront a b → IsFront b c → IsFront a c
front-trans a b c (m, e) (n, f) = (m ++ n, f ∙ ap (λ x. x ++ n) e ∙ append_assoc a m n)

-- what a line adds to the journal
pub journal-stepped : (form : Form) (p : Played) (line : List ℕ) (s : Step)
    → journal_of form (stepped p line s) ≡ journal_of form p ++ ((if form.with_script then script_line line else []) ++ text_of (p.number + 1) s)
journal-stepped form p line s = elim (cases_Bool form.with_script) [ inl shows ↦ rw shows refl | inr plain ↦ rw plain refl ]

-- what a line adds to the remarks
pub told-stepped : (p : Played) (scope : Scope) (r : Remarks) (n : ℕ) (line : List ℕ) (s : Step) → r ≡ p.told scope → n ≡ p.number
    → remarked r (n + 1) line s ≡ (stepped p line s).told scope
told-stepped p scope r n line s so number = ap (λ x. remarked x (n + 1) line s) so ∙ ap (λ k. remarked (p.told scope) (k + 1) line s) number

-- what it adds to what is noted of reads, if that is wanted
pub watched-stepped : (p : Played) (reads : Bool) (w : Option Watched) (n : ℕ) (line : List ℕ) (s : Step) → w ≡ p.watched reads → n ≡ p.number
    → watched_on (n + 1) w s ≡ (stepped p line s).watched reads
watched-stepped p reads w n line s so number = ap (λ x. watched_on (n + 1) x s) so ∙ ap (λ k. watched_on (k + 1) (p.watched reads) s) number

pub journal-start : (form : Form) → journal_of form start ≡ []
journal-start form = elim (cases_Bool form.with_script) [ inl shows ↦ rw shows refl | inr plain ↦ rw plain refl ]

pub next-fault : (p : Played) (line : List ℕ) → has_fault p ≡ true → next p line ≡ p
next-fault p line fault = subst (λ b. cond b p (stepped p line (step p.stage line)) ≡ p) (sym fault) refl

pub next-going : (p : Played) (line : List ℕ) → has_fault p ≡ false → next p line ≡ stepped p line (step p.stage line)
next-going p line going = let s = stepped p line (step p.stage line) in subst (λ b. cond b p s ≡ s) (sym going) refl

-- one more line only adds to the journal
journal-next : (form : Form) (p : Played) (line : List ℕ) → IsFront (journal_of form p) (journal_of form (next p line))
journal-next form p line =
    elim (cases_Bool (has_fault p)) [
      | inl fault ↦ subst (λ q. IsFront (journal_of form p) (journal_of form q)) (sym (next-fault p line fault)) (front-whole (journal_of form p))
      | inr none ↦ (_, ap (journal_of form) (next-going p line none) ∙ journal-stepped form p line (step p.stage line))
    ]

pub journal-fold : (form : Form) (lines : List (List ℕ)) (p : Played) → IsFront (journal_of form p) (journal_of form (fold next p lines))
journal-fold form [] p = front-whole (journal_of form p)
journal-fold form (line ∷ lines) p = front-trans _ _ _ (journal-next form p line) (journal-fold form lines (next p line))

-- after a fault no line counts
pub fault-fold : (lines : List (List ℕ)) (p : Played) → has_fault p ≡ true → fold next p lines ≡ p
fault-fold [] p fault = refl
fault-fold (line ∷ lines) p fault = ap (λ q. fold next q lines) (next-fault p line fault) ∙ fault-fold lines p fault

pub completed-front : (bytes more : List ℕ) → (lines : List (List ℕ)) × (completed (bytes ++ more) ≡ completed bytes ++ lines)
completed-front bytes more =
    let (lines, e) = pieces-front bytes more in
    (map (strip_last 13) lines, ap (map (strip_last 13)) e ∙ map-append (strip_last 13) (pieces bytes).0 lines)

pub journal-front : (form : Form) (bytes more : List ℕ) → IsFront (journal form bytes) (journal form (bytes ++ more))
journal-front form bytes more =
    let (lines, e) = completed-front bytes more in
    let same : play (completed (bytes ++ more)) ≡ fold next (play (completed bytes)) lines = ap play e ∙ fold-append next start (completed bytes) lines in
    subst (λ p. IsFront (journal form bytes) (journal_of form p)) (sym same) (journal-fold form lines (play (completed bytes)))

-- after a fault no byte counts
pub fault-stays : (bytes more : List ℕ) → has_fault (play (completed bytes)) ≡ true → play (completed (bytes ++ more)) ≡ play (completed bytes)
fault-stays bytes more fault =
    let (lines, e) = completed-front bytes more in
    ap play e ∙ fold-append next start (completed bytes) lines ∙ fault-fold lines (play (completed bytes)) fault

chosen-true : (b : Bool) (x y : List ℕ) → b ≡ true → cond b x y ≡ x
chosen-true b x y e = subst (λ v. cond v x y ≡ x) (sym e) refl

-- nor a last line that lacks its LF
pub fault-whole : (bytes : List ℕ) → has_fault (play (completed bytes)) ≡ true → play (all_lines bytes) ≡ play (completed bytes)
fault-whole bytes fault = rw (fold-append next start (completed bytes) (last_line (unfinished bytes))) (fault-fold (last_line (unfinished bytes)) (play (completed bytes)) fault)

pub fault-output : (form : Form) (bytes : List ℕ) → has_fault (play (completed bytes)) ≡ true → (output form bytes ≡ journal form bytes) × (is_faulty bytes ≡ true)
fault-output form bytes fault =
    let same = fault-whole bytes fault in
    let faulty : has_fault (play (all_lines bytes)) ≡ true = ap has_fault same ∙ fault in
    (chosen-true _ _ _ faulty ∙ ap (journal_of form) same, faulty)

pub whole-front : (form : Form) (p : Played) → IsFront (journal_of form p) (whole form p)
whole-front form p =
    elim (cases_Bool (has_fault p)) [
      | inl fault ↦ rw fault (front-whole (journal_of form p))
      | inr none ↦ rw none (form.at_end p.stage (p.watched form.reads), refl)
    ]

pub output-front : (form : Form) (bytes : List ℕ) → IsFront (journal form bytes) (output form bytes)
output-front form bytes =
    front-trans _ _ _ (rw (fold-append next start (completed bytes) (last_line (unfinished bytes))) (journal-fold form (last_line (unfinished bytes)) (play (completed bytes))))
    (whole-front form (play (all_lines bytes)))
