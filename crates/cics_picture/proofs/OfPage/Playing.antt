-- The lines that a run puts on a sheet, one after the other.
use Rattle.std.proofs.Common.{◌≡◌, ℕ, true, false, cond, ◌+◌, ◌<◌, List, [], ◌∷◌, ◌++◌, length, map, refl, ap, sym, ◌∙◌, subst, append_assoc, append-nil, length-append, arith, Option}
use Rattle.std.proofs.lemmas.Grind.{flat_map-append}
use Rattle.std.proofs.lemmas.List.{map-append, length-map}
use Rattle.std.specs.Prelude.{is_some}
use Rattle.std.specs.List.{fold}
use Rattle.cics_run.specs.Session.Lines.{all_lines}
use Rattle.cics_run.specs.Stage.Stages.{step}
use Rattle.cics_run.specs.Session.Running.{Played, play, has_fault, next, stepped, start, is_faulty}
use Rattle.cics_run.specs.Session.Standing.{IsNew, Keeps, next_step}
use Rattle.cics_run.specs.declared.session.session.Session.{Session}
use Rattle.cics_run.specs.declared.stage.stage.Fault.{Fault}
use Rattle.cics_run.specs.declared.stage.stage.Stage.{Stage}
use Rattle.cics_run.proofs.OfSession.Playing.{next-going, fault-fold}
use Rattle.cics_picture.specs.Draw.Pictures.{Ran, outcomes_of}
use Rattle.cics_picture.specs.Draw.Standings.{outcomes_at}
use Rattle.cics_picture.specs.declared.page.lines.Sheet.{Sheet}
use Rattle.cics_picture.specs.declared.page.notes.Note.{Note}
use Rattle.cics_picture.specs.declared.page.recording.PageStep.{PageStep}
use Rattle.cics_picture.specs.declared.page.recording.Pager.{Pager}
use Rattle.cics_picture.specs.Page.Recording.{told_by, told_in}
use Rattle.cics_picture.specs.Page.Lines.{PageLine, page_line, line_text, lines_text}
use Rattle.cics_picture.specs.Page.Sheets.{most_steps, most_bytes, HasLine}
use Rattle.cics_picture.specs.Page.Pages.{PlainLine, plain, plain_line, defined_if, plain_from, plain_lines, all_steps, next_plain, PutsLine, WouldBeTooLong, HasLines, HasTooManySteps, HasTooLongLines}
use Rattle.cics_picture.proofs.OfPage.Steps.{count, count-behind, steps-counted, line-behind}

-- Where a run stands in front of the rest of a script, none of whose lines was a fault.
pub record Goes (stage : Stage) (rest script : List ℕ) : Type 0 where
  pub played : Played
  pub at_stage : stage ≡ played.stage
  pub going : has_fault played ≡ false
  pub ends : fold next played (all_lines rest) ≡ play (all_lines script)

pub goes-first : (stage : Stage) (script : List ℕ) → stage ≡ start.stage → Goes stage script script
goes-first stage script at = record { played = start; at_stage = at; going = refl; ends = refl }

module _ (stage : Stage) (rest line behind script : List ℕ) (at : Goes stage rest script) (is : all_lines rest ≡ line ∷ all_lines behind) where
  pub going-on : next at.played line ≡ stepped at.played line (step stage line)
  going-on = next-going at.played line at.going ∙ ap (λ stage. stepped at.played line (step stage line)) (sym at.at_stage)

  pub first-ends : fold next (next at.played line) (all_lines behind) ≡ play (all_lines script)
  first-ends = ap (fold next at.played) (sym is) ∙ at.ends

  -- the line was no fault
  pub goes-next : (now : Stage) (fault : Option Fault) → now ≡ (step stage line).stage → fault ≡ (step stage line).fault → is_some fault ≡ false → Goes now behind script
  goes-next now fault at-now same passed =
      record {
        played = next at.played line;
        at_stage = at-now ∙ sym (ap (λ p. p.stage) going-on);
        going = ap has_fault going-on ∙ sym (ap is_some same) ∙ passed;
        ends = first-ends;
      }

  -- the line was a fault
  pub goes-stopped : (fault : Option Fault) → fault ≡ (step stage line).fault → is_some fault ≡ true
      → (has_fault (next at.played line) ≡ true) × (play (all_lines script) ≡ next at.played line)
  goes-stopped fault same failed =
      let stopped : has_fault (next at.played line) ≡ true = ap has_fault going-on ∙ sym (ap is_some same) ∙ failed in
      (stopped, sym first-ends ∙ fault-fold (all_lines behind) (next at.played line) stopped)

  pub stage-stopped : (now : Stage) (fault : Option Fault) → now ≡ (step stage line).stage → fault ≡ (step stage line).fault → is_some fault ≡ true → now ≡ (play (all_lines script)).stage
  stage-stopped now fault at-now same failed = at-now ∙ sym (ap (λ p. p.stage) ((goes-stopped fault same failed).1 ∙ going-on))

-- no line was left
pub goes-ended : (stage : Stage) (rest script : List ℕ) → Goes stage rest script → all_lines rest ≡ [] → (is_faulty script ≡ false) × (stage ≡ (play (all_lines script)).stage)
goes-ended stage rest script at none = (
  sym (ap has_fault at.ends) ∙ ap (λ l. has_fault (fold next at.played l)) none ∙ at.going,
  at.at_stage ∙ sym (ap (λ l. (fold next at.played l).stage) none) ∙ ap (λ p. p.stage) at.ends,
)

-- what a page has of a line, and of the lines behind it
plain-first : (p : Played) (line : List ℕ) (lines : List (List ℕ)) → has_fault p ≡ false
    → plain_from p (line ∷ lines) ≡ plain_line (p.number + 1) p.stage line ∷ plain_from (next p line) lines
plain-first p line lines going =
    let all = plain_line (p.number + 1) p.stage line ∷ plain_from (next p line) lines in
    subst (λ b. cond b [] all ≡ all) (sym going) refl

-- behind a fault no line counts
plain-none : (p : Played) (lines : List (List ℕ)) → has_fault p ≡ true → plain_from p lines ≡ []
plain-none p [] fault = refl
plain-none p (line ∷ lines) fault =
    let all = plain_line (p.number + 1) p.stage line ∷ plain_from (next p line) lines in
    subst (λ b. cond b [] all ≡ []) (sym fault) refl

-- Where such a run stands, with what is on its sheet.
pub record Stands (sheet : Sheet) (s : Session) (rest script : List ℕ) : Type 0 where
  pub goes : Goes s.stage rest script
  pub at_number : s.number ≡ goes.played.number
  pub at_line : s.line.items ≡ []
  pub lines : List PageLine
  pub so_far : map plain lines ++ plain_from goes.played (all_lines rest) ≡ plain_lines script
  pub has : sheet.text.items ≡ lines_text (outcomes_of script) 1 lines
  pub steps : sheet.steps ≡ count lines
  pub last : sheet.last ≡ (play (all_lines script)).stage

-- before the first line
pub stands-first : (sheet : Sheet) (s : Session) (script : List ℕ) → IsNew s → sheet.text.items ≡ [] → sheet.steps ≡ 0 → sheet.last ≡ (play (all_lines script)).stage → Stands sheet s script script
unfolding goes-first
stands-first sheet s script new text steps last =
    record {
      goes = goes-first s.stage script new.stage;
      at_number = new.number;
      at_line = new.line;
      lines = [];
      so_far = refl;
      has = text;
      steps = steps;
      last = last;
    }

module _ (before after : Sheet) (s t : Session) (rest line behind script : List ℕ) (at : Stands before s rest script) (is : all_lines rest ≡ line ∷ all_lines behind) where
  -- the line, as the run has it
  same : next_plain s line ≡ plain_line (at.goes.played.number + 1) at.goes.played.stage line
  same = rw (at.at_number, at.goes.at_stage) refl

  -- the lines behind it
  abbrev others : List PlainLine
  others = plain_from (next at.goes.played line) (all_lines behind)

  -- the lines so far, the line, and those behind it
  split : map plain at.lines ++ (next_plain s line ∷ others) ≡ plain_lines script
  split =
      ap (λ l. map plain at.lines ++ (l ∷ others)) same
      ∙ ap (λ ls. map plain at.lines ++ ls) (sym (plain-first at.goes.played line (all_lines behind) at.goes.going) ∙ ap (plain_from at.goes.played) (sym is)) ∙ at.so_far

  with-line : (l : PageLine) → plain l ≡ next_plain s line → map plain (at.lines ++ (l ∷ [])) ++ others ≡ plain_lines script
  with-line l plain-one =
      ap (λ ls. ls ++ others) (map-append plain at.lines (l ∷ []))
      ∙ append_assoc (map plain at.lines) (plain l ∷ []) others
      ∙ ap (λ x. map plain at.lines ++ (x ∷ others)) plain-one ∙ split

  text-behind : (text : List ℕ) (l : PageLine) → HasLine before text l → text ≡ lines_text (outcomes_of script) 1 (at.lines ++ (l ∷ []))
  text-behind text l has =
      let number : before.steps + 1 ≡ 1 + count at.lines = omega (arith, at.steps) in
      has ∙ (λ i. at.has i ++ line_text (outcomes_at (at.last i)) (number i) l) ∙ sym (line-behind (outcomes_of script) 1 at.lines l)

  -- too many steps of a line are too many of all
  pub stands-over : most_steps < before.steps + length (next_plain s line).steps → HasTooManySteps script
  stands-over over =
      let first = next_plain s line in
      let all : all_steps (map plain at.lines ++ (first ∷ others)) ≡ all_steps (map plain at.lines) ++ (first.steps ++ all_steps others) =
      flat_map-append (λ l. l.steps) (map plain at.lines) (first ∷ others) in
      subst (λ ls. most_steps < length (all_steps ls)) split
      (omega (arith, over, at.steps, steps-counted at.lines, ap length all, length-append (all_steps (map plain at.lines)) (first.steps ++ all_steps others), length-append first.steps (all_steps others)))

  -- with the line the sheet is too long
  pub stands-long : WouldBeTooLong s line before → HasTooLongLines script
  stands-long would =
      let (text, has, over) = would.long in
      record {
        lines = at.lines ++ (would.put ∷ []);
        others = others;
        first_ones = with-line would.put would.plain_one;
        long = subst (λ text. most_bytes < length text) (text-behind text would.put has) over;
      }

  module _ (ran : Ran s line t) (puts : PutsLine s line before after) where
    -- the line was no fault
    pub stands-next : t.line.items ≡ [] → false ≡ is_some t.fault → Stands after t behind script
    unfolding goes-next
    stands-next none passed =
        let on = going-on s.stage rest line behind script at.goes is in
        record {
          goes = goes-next s.stage rest line behind script at.goes is t.stage t.fault ran.stage ran.fault (sym passed);
          at_number = ran.number ∙ ap (λ n. n + 1) at.at_number ∙ sym (ap (λ p. p.number) on);
          at_line = none;
          lines = at.lines ++ (puts.put ∷ []);
          so_far = with-line puts.put puts.plain_one;
          has = text-behind after.text.items puts.put puts.has;
          steps = puts.steps ∙ ap (λ n. n + length puts.put.steps) at.steps ∙ sym (count-behind at.lines puts.put);
          last = puts.last ∙ at.last;
        }

    -- the line was a fault
    pub stands-stopped : t.line.items ≡ line → true ≡ is_some t.fault
        → HasLines script after × (is_faulty script ≡ true) × Keeps t (play (all_lines script)) × (t.stage ≡ (play (all_lines script)).stage)
    stands-stopped kept failed =
        let on = going-on s.stage rest line behind script at.goes is in
        let (stopped, ends) = goes-stopped s.stage rest line behind script at.goes is t.fault ran.fault (sym failed) in
        let keeps : Keeps t (stepped at.goes.played line (next_step s line)) = record { line = kept; number = ran.number ∙ ap (λ n. n + 1) at.at_number; fault = ran.fault } in
        let lines = at.lines ++ (puts.put ∷ []) in (
          record {
            lines = lines;
            plain_ones = sym (append-nil (map plain lines)) ∙ ap (λ ls. map plain lines ++ ls) (sym (plain-none (next at.goes.played line) (all_lines behind) stopped)) ∙ with-line puts.put puts.plain_one;
            has = text-behind after.text.items puts.put puts.has;
          },
          ap has_fault ends ∙ stopped,
          subst (Keeps t) (sym (ends ∙ on)) keeps,
          stage-stopped s.stage rest line behind script at.goes is t.stage t.fault ran.stage ran.fault (sym failed),
        )

-- no line was left
pub stands-ended : (sheet : Sheet) (s : Session) (rest script : List ℕ) → Stands sheet s rest script → all_lines rest ≡ []
    → HasLines script sheet × (is_faulty script ≡ false) × (s.stage ≡ (play (all_lines script)).stage)
stands-ended sheet s rest script at none =
    let (calm, ends) = goes-ended s.stage rest script at.goes none in (
      record {
        lines = at.lines;
        plain_ones = sym (append-nil (map plain at.lines)) ∙ ap (λ ls. map plain at.lines ++ plain_from at.goes.played ls) (sym none) ∙ at.so_far;
        has = at.has;
      },
      calm,
      ends,
    )

-- what a page has of a line that a session ran, by the steps of its pager
pub line-put :
    (s : Session) (line : List ℕ) (stage : Stage) (followed shown : Pager) (steps : List PageStep) (defined : Option Note) →
    stage ≡ (next_step s line).stage → told_in followed ≡ (next_plain s line).steps →
    shown.steps ≡ followed.steps → steps ≡ shown.steps.items → defined ≡ defined_if (told_in followed) stage line
    → (plain (page_line line steps defined) ≡ next_plain s line) × (length (next_plain s line).steps ≡ length steps)
line-put s line stage followed shown steps defined at told kept all made =
    let same : map told_by steps ≡ told_in followed = ap (map told_by) (all ∙ ap (λ v. v.items) kept) in
    let as_run : map told_by steps ≡ (next_plain s line).steps = same ∙ told in
    let defines : defined ≡ defined_if (map told_by steps) stage line = made ∙ ap (λ t. defined_if t stage line) (sym same) in
    ((λ i. record { line = line; steps = as_run i; defined = (defines ∙ (λ j. defined_if (as_run j) (at j) line)) i }), sym (ap length as_run) ∙ length-map steps told_by)
