-- A check finds the faults that a run would find, line by line, and plays nothing.
use Rattle.std.proofs.Common.{◌≡◌, ◌≤◌, ℕ, ◌+◌, true, false, List, [], ◌∷◌, ◌++◌, refl, ap, sym, ◌∙◌, subst, arith, append_assoc, append-nil, Option, Some, None}
use Rattle.std.specs.Prelude.{if◌then◌else◌, ◌&&◌, is_some, Result, Ok, Err, OnOk, IfOk, suc, zero}
use Rattle.std.specs.Borrow.{Bor}
use Rattle.std.specs.List.{fold}
use Rattle.std.specs.Io.KnownBytes.{Appends}
use Rattle.cics_history.specs.State.{OpeningState}
use Rattle.cics_dispatch.specs.Machine.Machine.{RegionValue}
use Rattle.cics_units.specs.declared.opening.opening.DefineFault.TheVariants as define
use Rattle.cics_script.specs.declared.advice.origin.Origin.{Origin}
use Rattle.cics_script.specs.declared.faults.LineFault.{LineFault}
use Rattle.cics_script.specs.declared.lines.Line.{Line}
use Rattle.cics_script.specs.declared.lines.Line.TheVariants.{Blank, DefineFile, DefineTsPrefix, DefineTd, LoadFile, LoadTd, Attach, Clock, Issue, Shutdown}
use Rattle.cics_script.specs.Advice.Advice.{advice, too_long}
use Rattle.cics_script.specs.Lines.{line, adds_nothing}
use Rattle.cics_run.specs.Session.Lines.{all_lines}
use Rattle.cics_run.specs.Session.Running.{Played, has_fault, next, stepped, is_faulty, start}
use Rattle.cics_run.specs.Session.Printing.{Prints}
use Rattle.cics_run.specs.Stage.Stages.{Step, step, followed}
use Rattle.cics_run.specs.Messages.Remarks.{remark_lines}
use Rattle.cics_run.specs.Messages.Messages.{TellsFault}
use Rattle.cics_run.specs.Reading.Checks.{Checked, unchecked, tried, amiss_in, told_fault, next_fault, notice_beside, next_notice, with_found, told_notice, counted, stays_sure, checked, check, count_line, status_of}
use Rattle.cics_run.specs.Reading.Checks.{TellsIf, TellsNext, TellsBehind, TellsLines, Checks, IsLike, IsTried, IsBehind}
use Rattle.cics_run.specs.declared.messages.remarks.Remarks.{Remarks}
use Rattle.cics_run.specs.declared.session.writing.Stop.{Stop}
use Rattle.cics_run.specs.declared.reading.checking.Checker.{Checker}
use Rattle.cics_run.specs.declared.reading.checking.Found.{Found}
use Rattle.cics_run.specs.declared.session.running.Status.{Status}
use Rattle.cics_run.specs.declared.session.running.Status.TheVariants as status
use Rattle.cics_run.specs.declared.stage.stage.Fault.{Fault}
use Rattle.cics_run.specs.declared.stage.stage.Fault.TheVariants as faults
use Rattle.cics_run.specs.declared.stage.stage.Stage.{Stage}
use Rattle.cics_run.specs.declared.stage.stage.Stage.TheVariants.{Opening, Running}
use Rattle.cics_run.proofs.OfSession.Known.{appends-append}
use Rattle.cics_run.proofs.OfSession.Playing.{next-going, fault-fold}

-- what was made of a line has the fault that it has in a run, and leads to a stage like that
abbrev IsLikeStep : Step → Step → Type 0
IsLikeStep s t = (t.fault ≡ s.fault) × IsLike s.stage t.stage

like-itself : (s : Stage) → IsLike s s
like-itself (Opening o) = refl
like-itself (Running r) = (r, refl)

-- a check makes of a definition what a run does
in-opening : (o : OpeningState) (said : Result Line LineFault) → IsLikeStep (followed (Opening o) said) (tried (Opening o) said)
in-opening o (Ok Blank) = (refl, refl)
in-opening o (Ok (DefineFile name d)) = (refl, like-itself (followed (Opening o) (Ok (DefineFile name d))).stage)
in-opening o (Ok (DefineTsPrefix prefix)) = (refl, like-itself (followed (Opening o) (Ok (DefineTsPrefix prefix))).stage)
in-opening o (Ok (DefineTd name recovery)) = (refl, like-itself (followed (Opening o) (Ok (DefineTd name recovery))).stage)
in-opening o (Ok (LoadFile name content)) = (refl, like-itself (followed (Opening o) (Ok (LoadFile name content))).stage)
in-opening o (Ok (LoadTd name content)) = (refl, like-itself (followed (Opening o) (Ok (LoadTd name content))).stage)
in-opening o (Ok (Attach label transaction dtimout)) = (refl, (_, refl))
in-opening o (Ok (Clock seconds)) = (refl, (_, refl))
in-opening o (Ok (Issue label command)) = (refl, (_, refl))
in-opening o (Ok Shutdown) = (refl, (_, refl))
in-opening o (Err fault) = (refl, refl)

-- in two regions a line has the same fault
in-regions : (r other : RegionValue) (said : Result Line LineFault) → IsLikeStep (followed (Running r) said) (tried (Running other) said)
in-regions r other (Ok Blank) = (refl, (other, refl))
in-regions r other (Ok (DefineFile name d)) = (refl, (other, refl))
in-regions r other (Ok (DefineTsPrefix prefix)) = (refl, (other, refl))
in-regions r other (Ok (DefineTd name recovery)) = (refl, (other, refl))
in-regions r other (Ok (LoadFile name content)) = (refl, (other, refl))
in-regions r other (Ok (LoadTd name content)) = (refl, (other, refl))
in-regions r other (Ok (Attach label transaction dtimout)) = (refl, (_, refl))
in-regions r other (Ok (Clock seconds)) = (refl, (_, refl))
in-regions r other (Ok (Issue label command)) = (refl, (_, refl))
in-regions r other (Ok Shutdown) = (refl, (_, refl))
in-regions r other (Err fault) = (refl, (other, refl))

-- and so in stages that are alike
tried-like : (s t : Stage) (said : Result Line LineFault) → IsLike s t → IsLikeStep (followed s said) (tried t said)
tried-like (Opening o) t said e = subst (λ t. IsLikeStep (followed (Opening o) said) (tried t said)) (sym e) (in-opening o said)
tried-like (Running r) t said (other, e) = subst (λ t. IsLikeStep (followed (Running r) said) (tried t said)) (sym e) (in-regions r other said)

-- a checker stands behind one line more, with some faults and remarks
behind-more : (c : Checked) (old new : Checker) (bytes : List ℕ) (found : Found) → IsBehind old c → IsTried old.stage (line bytes) new.stage found
    → new.number ≡ old.number + 1 → new.faulty ≡ counted old.faulty (told_fault old.sure found.fault)
    → new.sure ≡ stays_sure old.sure bytes (told_fault old.sure found.fault)
    → new.remarks ≡ with_found new.stage new.number bytes old.remarks (notice_beside old.sure (told_fault old.sure found.fault) found.notice) → IsBehind new (checked c bytes)
behind-more c old new bytes found at tried-so number faulty sure remarks =
    let like = tried-like c.stage c.known (line bytes) at.like in
    let known : new.stage ≡ (tried c.known (line bytes)).stage = tried-so.stage ∙ ap (λ s. (tried s (line bytes)).stage) at.stage in
    let same : found.fault ≡ (step c.stage bytes).fault = tried-so.fault ∙ ap (λ s. (tried s (line bytes)).fault) at.stage ∙ like.0 in
    let noted : found.notice ≡ amiss_in c.known (line bytes) = tried-so.notice ∙ ap (λ s. amiss_in s (line bytes)) at.stage in
    let told : told_fault old.sure found.fault ≡ next_fault c bytes = ap (told_fault old.sure) same ∙ ap (λ b. told_fault b (step c.stage bytes).fault) at.sure in
    let beside : notice_beside old.sure (told_fault old.sure found.fault) found.notice ≡ next_notice c bytes =
    ap (notice_beside old.sure (told_fault old.sure found.fault)) noted ∙ ap (λ f. notice_beside old.sure f (amiss_in c.known (line bytes))) told
    ∙ ap (λ b. notice_beside b (next_fault c bytes) (amiss_in c.known (line bytes))) at.sure in
    record {
      stage = known;
      like = like.1;
      number = number ∙ ap (λ n. n + 1) at.number;
      faulty = faulty ∙ ap (counted old.faulty) told ∙ ap (λ n. counted n (next_fault c bytes)) at.faulty;
      sure = sure ∙ ap (stays_sure old.sure bytes) told ∙ ap (λ b. stays_sure b bytes (next_fault c bytes)) at.sure;
      remarks =
          remarks ∙ ap (with_found new.stage new.number bytes old.remarks) beside ∙ ap (λ r. with_found new.stage new.number bytes r (next_notice c bytes)) at.remarks
          ∙ ap (λ n. with_found new.stage n bytes c.remarks (next_notice c bytes)) (number ∙ ap (λ n. n + 1) at.number) ∙ ap (λ s. with_found s (c.number + 1) bytes c.remarks (next_notice c bytes)) known;
    }

-- the fault of a line is told
pub behind-told : {A E : Type 0} (c : Checked) (old new : Checker) (bytes : List ℕ) (found : Found) (fault : Fault) (r : Result A E) → IsBehind old c
    → IsTried old.stage (line bytes) new.stage found → told_fault old.sure found.fault ≡ Some fault
    → new.number ≡ old.number + 1 → new.faulty ≡ old.faulty + 1 → new.sure ≡ (old.sure && adds_nothing bytes) → new.remarks ≡ old.remarks → OnOk r (IsBehind new (checked c bytes))
behind-told c old new bytes found fault (Err e) at tried-so told number faulty sure remarks = tt
behind-told c old new bytes found fault (Ok x) at tried-so told number faulty sure remarks =
    behind-more c old new bytes found at tried-so number (faulty ∙ sym (ap (counted old.faulty) told)) (sure ∙ sym (ap (stays_sure old.sure bytes) told))
    (remarks ∙ sym (ap (λ f. with_found new.stage new.number bytes old.remarks (notice_beside old.sure f found.notice)) told))

-- no fault of a line is told, and what is amiss in it is kept
pub behind-kept : {A E : Type 0} (c : Checked) (old mid new : Checker) (bytes : List ℕ) (found : Found) (r : Result A E) → IsBehind old c
    → IsTried old.stage (line bytes) mid.stage found → told_fault old.sure found.fault ≡ None
    → mid.number ≡ old.number + 1 → mid.faulty ≡ old.faulty → mid.sure ≡ old.sure → mid.remarks ≡ old.remarks
    → OnOk r (new ≡ record mid { remarks = with_found mid.stage mid.number bytes mid.remarks (told_notice mid.sure found.notice) }) → OnOk r (IsBehind new (checked c bytes))
behind-kept c old mid new bytes found (Err e) at tried-so told number faulty sure remarks kept = tt
behind-kept c old mid new bytes found (Ok x) at tried-so told number faulty sure remarks kept =
    subst (λ k. IsBehind k (checked c bytes)) (sym kept)
    (behind-more c old (record mid { remarks = with_found mid.stage mid.number bytes mid.remarks (told_notice mid.sure found.notice) }) bytes found at tried-so number
    (faulty ∙ sym (ap (counted old.faulty) told)) (sure ∙ sym (ap (stays_sure old.sure bytes) told))
    (ap (λ r. with_found mid.stage mid.number bytes r (told_notice mid.sure found.notice)) remarks ∙ ap (λ b. with_found mid.stage mid.number bytes old.remarks (told_notice b found.notice)) sure
    ∙ sym (ap (λ f. with_found mid.stage mid.number bytes old.remarks (notice_beside old.sure f found.notice)) told)))

-- what keeps what is amiss in a line has the text and the numbers that were there
pub kept-text : {A E : Type 0} (mid new : Checker) (remarks : Remarks) (r : Result A E) → OnOk r (new ≡ record mid { remarks = remarks }) → OnOk r (new.text.items ≡ mid.text.items)
kept-text mid new remarks (Err e) kept = tt
kept-text mid new remarks (Ok x) kept = ap (λ (k : Checker). k.text.items) kept

pub kept-faulty : {A E : Type 0} (mid new : Checker) (remarks : Remarks) (r : Result A E) → mid.faulty ≤ mid.number → OnOk r (new ≡ record mid { remarks = remarks })
    → OnOk r (new.faulty ≤ new.number)
kept-faulty mid new remarks (Err e) few kept = tt
kept-faulty mid new remarks (Ok x) few kept = subst (λ (k : Checker). k.faulty ≤ k.number) (sym kept) few

-- a line that was tried has the fault that it has in a run
pub tried-fault : (c : Checked) (old : Checker) (after : Stage) (bytes : List ℕ) (found : Found) → IsBehind old c → IsTried old.stage (line bytes) after found
    → found.fault ≡ (step c.stage bytes).fault
tried-fault c old after bytes found at tried-so =
    tried-so.fault ∙ ap (λ s. (tried s (line bytes)).fault) at.stage ∙ (tried-like c.stage c.known (line bytes) at.like).0

-- what is told of the next line, by the fault that it has
tells-next : (file : Option (Bor (List ℕ))) (old : Checker) (c : Checked) (bytes text : List ℕ) (fault : Option Fault) → IsBehind old c
    → fault ≡ (step c.stage bytes).fault → TellsIf (record { file = file; line = old.number + 1 }) bytes (told_fault old.sure fault) text → TellsNext file c bytes text
tells-next file old c bytes text fault at is tells =
    subst (λ n. TellsIf (record { file = file; line = n + 1 }) bytes (told_fault c.sure (step c.stage bytes).fault) text) at.number
    (subst (λ b. TellsIf (record { file = file; line = old.number + 1 }) bytes (told_fault b (step c.stage bytes).fault) text) at.sure
    (subst (λ f. TellsIf (record { file = file; line = old.number + 1 }) bytes (told_fault old.sure f) text) is tells))

-- what is told of a line, behind a text
told-text : (origin : Origin) (bytes : List ℕ) (fault : Fault) (before now : List ℕ) → TellsFault origin bytes fault before now
    → (text : List ℕ) × TellsFault origin bytes fault [] text × (now ≡ before ++ text)
told-text origin bytes fault before now (cause, why, (None, at, is)) = (too_long origin, (cause, why, (None, at, refl)), is)
told-text origin bytes fault before now (cause, why, (Some column, at, (message, is))) =
    (advice origin column message bytes, (cause, why, (Some column, at, (message, refl))), is)

pub tells-fault : {A E : Type 0} (file : Option (Bor (List ℕ))) (old : Checker) (c : Checked) (bytes before now : List ℕ) (found : Option Fault) (fault : Fault) (r : Result A E)
    → IsBehind old c → found ≡ (step c.stage bytes).fault → told_fault old.sure found ≡ Some fault
    → OnOk r (TellsFault (record { file = file; line = old.number + 1 }) bytes fault before now) → OnOk r (TellsBehind file c bytes before now)
tells-fault file old c bytes before now found fault (Err e) at is told tells = tt
tells-fault file old c bytes before now found fault (Ok x) at is told tells =
    let (text, told_so, put) = told-text (record { file = file; line = old.number + 1 }) bytes fault before now tells in
    (text, tells-next file old c bytes text found at is (subst (λ f. TellsIf (record { file = file; line = old.number + 1 }) bytes f text) (sym told) told_so), put)

-- nothing is told of a line
pub tells-nothing : {A E : Type 0} (file : Option (Bor (List ℕ))) (old : Checker) (c : Checked) (bytes before now : List ℕ) (found : Option Fault) (r : Result A E)
    → IsBehind old c → found ≡ (step c.stage bytes).fault → told_fault old.sure found ≡ None → OnOk r (now ≡ before) → OnOk r (TellsBehind file c bytes before now)
tells-nothing file old c bytes before now found (Err e) at is told same = tt
tells-nothing file old c bytes before now found (Ok x) at is told same =
    ([], tells-next file old c bytes [] found at is (subst (λ f. TellsIf (record { file = file; line = old.number + 1 }) bytes f []) (sym told) refl), same ∙ sym (append-nil before))

-- one line more was told
pub told-more : (file : Option (Bor (List ℕ))) (c : Checked) (line told first : List ℕ) (all lines after : List (List ℕ)) → lines ≡ line ∷ after → TellsNext file c line first
    → ((more : List ℕ) → TellsLines file c lines more → TellsLines file unchecked all (told ++ more))
    → (more : List ℕ) → TellsLines file (checked c line) after more → TellsLines file unchecked all ((told ++ first) ++ more)
told-more file c line told first all lines after cut next tells more rest =
    subst (TellsLines file unchecked all) (sym (append_assoc told first more))
    (tells (first ++ more) (subst (λ ls. TellsLines file c ls (first ++ more)) (sym cut) (first, more, next, rest, refl)))

-- the first fault is always told
told-first : (fault : Option Fault) → told_fault true fault ≡ fault
told-first None = refl
told-first (Some (faults.Line fault)) = refl
told-first (Some (faults.Definition define.Duplicate)) = refl
told-first (Some (faults.Definition define.BadKey)) = refl
told-first (Some (faults.Definition define.BadLength)) = refl
told-first (Some (faults.Definition define.NotThere)) = refl
told-first (Some (faults.Definition define.NoMemory)) = refl

counted-more : (n : ℕ) (fault : Option Fault) → n ≤ counted n fault
counted-more n None = omega arith
counted-more n (Some fault) = omega arith

fold-more : (lines : List (List ℕ)) (c : Checked) → c.faulty ≤ (fold checked c lines).faulty
fold-more [] c = omega arith
fold-more (bytes ∷ lines) c = omega (arith, counted-more c.faulty (told_fault c.sure (step c.stage bytes).fault), fold-more lines (checked c bytes))

some-faulty : (n : ℕ) → 1 ≤ n → status_of n ≡ status.LineFault
some-faulty zero some = absurd (omega (arith, some))
some-faulty (suc n) some = refl

-- the status of a run
abbrev ran : Played → Status
ran p = if has_fault p then status.LineFault else status.Done

-- the status of a check of more lines, if that of the rest is known
one-more : (bytes : List ℕ) (lines : List (List ℕ)) (c : Checked) (p : Played) → c.stage ≡ p.stage → c.faulty ≡ 0 → c.sure ≡ true → has_fault p ≡ false
    → ((d : Checked) (q : Played) → d.stage ≡ q.stage → d.faulty ≡ 0 → d.sure ≡ true → has_fault q ≡ false → status_of (fold checked d lines).faulty ≡ ran (fold next q lines))
    → (fault : Option Fault) → (step p.stage bytes).fault ≡ fault → status_of (fold checked c (bytes ∷ lines)).faulty ≡ ran (fold next p (bytes ∷ lines))
one-more bytes lines c p same none sure going rest fault is = by fault is
  where
    go : next p bytes ≡ stepped p bytes (step p.stage bytes)
    go = next-going p bytes going

    told : next_fault c bytes ≡ (step p.stage bytes).fault
    told = ap (λ b. told_fault b (step c.stage bytes).fault) sure ∙ ap (λ s. told_fault true (step s bytes).fault) same ∙ told-first (step p.stage bytes).fault

    faulty : (checked c bytes).faulty ≡ counted 0 (step p.stage bytes).fault
    faulty = ap (λ n. counted n (next_fault c bytes)) none ∙ ap (counted 0) told

    by : (fault : Option Fault) → (step p.stage bytes).fault ≡ fault → status_of (fold checked c (bytes ∷ lines)).faulty ≡ ran (fold next p (bytes ∷ lines))
    by None is =
        rest (checked c bytes) (next p bytes) (ap (λ s. (step s bytes).stage) same ∙ sym (ap (λ (q : Played). q.stage) go))
        (faulty ∙ ap (counted 0) is) (ap (stays_sure c.sure bytes) (told ∙ is) ∙ sure) (ap has_fault go ∙ ap is_some is)
    by (Some fault) is =
        let stopped : has_fault (next p bytes) ≡ true = ap has_fault go ∙ ap is_some is in
        let one : (checked c bytes).faulty ≡ 1 = faulty ∙ ap (counted 0) is in
        some-faulty _ (omega (arith, one, fold-more lines (checked c bytes)))
        ∙ sym (ap ran (fault-fold lines (next p bytes) stopped) ∙ ap (λ b. if b then status.LineFault else status.Done) stopped)

-- a run stops at the first fault, and a check goes on: both end with the same status
same-status : (lines : List (List ℕ)) (c : Checked) (p : Played) → c.stage ≡ p.stage → c.faulty ≡ 0 → c.sure ≡ true → has_fault p ≡ false
    → status_of (fold checked c lines).faulty ≡ ran (fold next p lines)
same-status [] c p same none sure going = rw (none, going) refl
same-status (bytes ∷ lines) c p same none sure going =
    one-more bytes lines c p same none sure going (same-status lines) (step p.stage bytes).fault refl

-- so it is of a script
pub status-of-run : (script : List ℕ) → status_of (check (all_lines script)).faulty ≡ (if is_faulty script then status.LineFault else status.Done)
status-of-run script = same-status (all_lines script) unchecked start refl refl refl refl

-- what is put behind all lines
abbrev ending : Option (Bor (List ℕ)) → Remarks → ℕ → List ℕ
ending file remarks faulty = remark_lines file remarks ++ count_line faulty

-- no line is left
pub all-checked : (file : Option (Bor (List ℕ))) (script rest told : List ℕ) (old mid new : Option (List ℕ)) (k : Checker) (c : Checked) (r : Result Status Stop)
    → IsBehind k c → all_lines rest ≡ [] → fold checked c (all_lines rest) ≡ check (all_lines script) → Prints old mid [] k.text.items told
    → ((more : List ℕ) → TellsLines file c (all_lines rest) more → TellsLines file unchecked (all_lines script) (told ++ more))
    → OnOk r (Appends mid new (k.text.items ++ ending file k.remarks k.faulty)) → IfOk r (λ s. s ≡ status_of k.faulty) → IfOk r (Checks file script old new)
all-checked file script rest told old mid new k c (Err e) at none all (written, parts, took) tells rest_written ends = tt
all-checked file script rest told old mid new k c (Ok s) at none all (written, parts, took) tells rest_written ends =
    let done : c ≡ check (all_lines script) = sym (ap (fold checked c) none) ∙ all in
    let same : k.faulty ≡ (check (all_lines script)).faulty = at.faulty ∙ ap (λ (q : Checked). q.faulty) done in
    let noted : k.remarks ≡ (check (all_lines script)).remarks = at.remarks ∙ ap (λ (q : Checked). q.remarks) done in
    let behind : ending file k.remarks k.faulty ≡ ending file (check (all_lines script)).remarks (check (all_lines script)).faulty =
    ap (λ r. ending file r k.faulty) noted ∙ ap (ending file (check (all_lines script)).remarks) same in
    record {
      text = told;
      tells = subst (TellsLines file unchecked (all_lines script)) (append-nil told) (tells [] (subst (λ ls. TellsLines file c ls []) (sym none) refl));
      written =
          subst (Appends old new) (sym (append_assoc written k.text.items (ending file k.remarks k.faulty)) ∙ ap (λ t. t ++ ending file k.remarks k.faulty) (sym parts) ∙ ap (λ e. told ++ e) behind)
          (appends-append old mid new written (k.text.items ++ ending file k.remarks k.faulty) took rest_written);
      status = ends ∙ ap status_of same ∙ status-of-run script;
    }
