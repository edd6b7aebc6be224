-- The lines that a run plays, one after the other.
use Rattle.std.proofs.Common.{◌≡◌, ℕ, true, false, cond, ◌+◌, ◌<◌, List, [], ◌∷◌, length, refl, ap, sym, ◌∙◌, subst, arith}
use Rattle.std.specs.Prelude.{is_some}
use Rattle.std.specs.List.{fold}
use Rattle.cics_run.specs.Session.Lines.{all_lines}
use Rattle.cics_run.specs.Stage.Stages.{step}
use Rattle.cics_run.specs.Session.Running.{Played, play, has_fault, next, stepped, is_faulty}
use Rattle.cics_run.specs.Session.Standing.{Keeps, next_step}
use Rattle.cics_run.specs.declared.session.session.Session.{Session}
use Rattle.cics_run.proofs.OfSession.Playing.{next-going, fault-fold}
use Rattle.cics_picture.specs.Lanes.{most_rows}
use Rattle.cics_picture.specs.Drawings.{Drawn, rows_of, with_line}
use Rattle.cics_picture.proofs.Counted.{line-counted, lines-counted}
use Rattle.cics_picture.specs.Draw.Pictures.{printed, Ran, next_printed, printed_from, drawing_of, HasTooMany}

-- what is drawn of the lines that a run plays from where it stands
abbrev pub drawn_from : Drawn → Played → List (List ℕ) → Drawn
drawn_from d p lines = fold with_line d (printed_from p lines)

-- what a line prints, and what the lines behind it print
pub printed-first : (p : Played) (line : List ℕ) (lines : List (List ℕ)) → has_fault p ≡ false
    → printed_from p (line ∷ lines) ≡ printed (p.number + 1) p.stage line ∷ printed_from (next p line) lines
printed-first p line lines going =
    let all = printed (p.number + 1) p.stage line ∷ printed_from (next p line) lines in
    subst (λ b. cond b [] all ≡ all) (sym going) refl

-- behind a fault nothing is printed
pub printed-none : (p : Played) (lines : List (List ℕ)) → has_fault p ≡ true → printed_from p lines ≡ []
printed-none p [] fault = refl
printed-none p (line ∷ lines) fault =
    let all = printed (p.number + 1) p.stage line ∷ printed_from (next p line) lines in
    subst (λ b. cond b [] all ≡ []) (sym fault) refl

-- a line is drawn, and then the lines behind it
line-drawn : (d : Drawn) (p : Played) (line : List ℕ) (lines : List (List ℕ)) → has_fault p ≡ false
    → drawn_from d p (line ∷ lines) ≡ drawn_from (with_line d (printed (p.number + 1) p.stage line)) (next p line) lines
line-drawn d p line lines going = ap (fold with_line d) (printed-first p line lines going)

-- behind a fault nothing is drawn
fault-drawn : (d : Drawn) (p : Played) (lines : List (List ℕ)) → has_fault p ≡ true → drawn_from d p lines ≡ d
fault-drawn d p lines fault = ap (fold with_line d) (printed-none p lines fault)

-- too many rows of a line are too many of all
too-many : (d : Drawn) (p : Played) (line : List ℕ) (lines : List (List ℕ)) → has_fault p ≡ false
    → most_rows < d.rows + length (rows_of (printed (p.number + 1) p.stage line))
    → most_rows < (drawn_from d p (line ∷ lines)).rows
too-many d p line lines going over =
    let first = printed (p.number + 1) p.stage line in
    rw (line-drawn d p line lines going) (omega (arith, over, line-counted d first, lines-counted (printed_from (next p line) lines) (with_line d first)))

-- Where a run stands in front of the rest of a script, none of whose lines was a fault, with what was drawn.
pub record Stands (d : Drawn) (s : Session) (rest script : List ℕ) : Type 0 where
  pub played : Played
  pub at_stage : s.stage ≡ played.stage
  pub at_number : s.number ≡ played.number
  pub at_line : s.line.items ≡ []
  pub going : has_fault played ≡ false
  pub drawn : drawn_from d played (all_lines rest) ≡ drawing_of script
  pub ends : fold next played (all_lines rest) ≡ play (all_lines script)

module _ (d e : Drawn) (s t : Session) (rest line after script : List ℕ) (at : Stands d s rest script) (lines : all_lines rest ≡ line ∷ all_lines after) (ran : Ran s line t) where
  -- the line's step, as the run has it
  same : next_printed s line ≡ printed (at.played.number + 1) at.played.stage line
  same = rw (at.at_number, at.at_stage) refl

  same-step : next_step s line ≡ step at.played.stage line
  same-step = ap (λ stage. step stage line) at.at_stage

  going-on : next at.played line ≡ stepped at.played line (next_step s line)
  going-on = next-going at.played line at.going ∙ ap (stepped at.played line) (sym same-step)

  same-fault : is_some t.fault ≡ has_fault (next at.played line)
  same-fault = ap is_some ran.fault ∙ sym (ap has_fault going-on)

  first-drawn : e ≡ with_line d (next_printed s line) → drawn_from e (next at.played line) (all_lines after) ≡ drawing_of script
  first-drawn is =
      ap (λ x. drawn_from x (next at.played line) (all_lines after)) (is ∙ ap (with_line d) same)
      ∙ sym (line-drawn d at.played line (all_lines after) at.going) ∙ ap (drawn_from d at.played) (sym lines) ∙ at.drawn

  first-ends : fold next (next at.played line) (all_lines after) ≡ play (all_lines script)
  first-ends = ap (fold next at.played) (sym lines) ∙ at.ends

  -- the line was no fault
  pub stands-next : e ≡ with_line d (next_printed s line) → t.line.items ≡ [] → false ≡ is_some t.fault → Stands e t after script
  stands-next is none passed =
      record {
        played = next at.played line;
        at_stage = ran.stage ∙ sym (ap (λ p. p.stage) going-on);
        at_number = ran.number ∙ ap (λ n. n + 1) at.at_number ∙ sym (ap (λ p. p.number) going-on);
        at_line = none;
        going = sym (passed ∙ same-fault);
        drawn = first-drawn is;
        ends = first-ends;
      }

  -- the line was a fault
  pub stands-stopped : e ≡ with_line d (next_printed s line) → t.line.items ≡ line → true ≡ is_some t.fault
      → (e ≡ drawing_of script) × (is_faulty script ≡ true) × Keeps t (play (all_lines script)) × (t.stage ≡ (play (all_lines script)).stage)
  stands-stopped is kept failed =
      let stopped : has_fault (next at.played line) ≡ true = sym (failed ∙ same-fault) in
      let last : play (all_lines script) ≡ next at.played line = sym first-ends ∙ fault-fold (all_lines after) (next at.played line) stopped in
      let keeps : Keeps t (stepped at.played line (next_step s line)) = record { line = kept; number = ran.number ∙ ap (λ n. n + 1) at.at_number; fault = ran.fault } in (
        sym (fault-drawn e (next at.played line) (all_lines after) stopped) ∙ first-drawn is,
        ap has_fault last ∙ stopped,
        subst (Keeps t) (sym (last ∙ going-on)) keeps,
        ran.stage ∙ sym (ap (λ p. p.stage) (last ∙ going-on)),
      )

-- a line had too many rows
pub stands-over : (d : Drawn) (s : Session) (rest line after script : List ℕ) → Stands d s rest script → all_lines rest ≡ line ∷ all_lines after
    → most_rows < d.rows + length (rows_of (next_printed s line)) → HasTooMany script
stands-over d s rest line after script at lines over =
    let same : next_printed s line ≡ printed (at.played.number + 1) at.played.stage line = rw (at.at_number, at.at_stage) refl in
    subst (λ t. most_rows < t.rows) (ap (drawn_from d at.played) (sym lines) ∙ at.drawn)
    (too-many d at.played line (all_lines after) at.going (subst (λ p. most_rows < d.rows + length (rows_of p)) same over))

-- no line was left
pub stands-ended : (d : Drawn) (s : Session) (rest script : List ℕ) → Stands d s rest script → all_lines rest ≡ []
    → (d ≡ drawing_of script) × (is_faulty script ≡ false) × (s.stage ≡ (play (all_lines script)).stage)
stands-ended d s rest script at none = (
  ap (drawn_from d at.played) (sym none) ∙ at.drawn,
  sym (ap has_fault at.ends) ∙ ap (λ l. has_fault (fold next at.played l)) none ∙ at.going,
  at.at_stage ∙ sym (ap (λ l. (fold next at.played l).stage) none) ∙ ap (λ p. p.stage) at.ends,
)
