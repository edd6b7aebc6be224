-- The bytes of a script of lines have these lines again.
use Rattle.std.proofs.Common.{◌≡◌, ◌<◌, ℕ, ◌-◌, ◌==◌, Bool, true, false, not, ◌&&◌, List, [], ◌∷◌, ◌++◌, map, length, get_or, Option, None, Some, Result, Ok, Err, refl, ap, sym, ◌∙◌, arith, append_assoc, append-nil, eqb-true, ltb-true}
use Rattle.std.proofs.lemmas.Bool.{and_parts}
use Rattle.std.proofs.lemmas.Grind.{flat_map-append}
use Rattle.std.proofs.lemmas.List.Folds.{list_all_at}
use Rattle.std.specs.Prelude.{if◌then◌else◌, nat_lt, take}
use Rattle.std.specs.List.{fold, flat_map, list_all}
use Rattle.std.specs.Io.BufRead.{ends_with_byte, strip_last}
use Rattle.cics_names.specs.Keyed.{Bytes}
use Rattle.cics_script.specs.Lines.{line, is_script_byte, is_empty_or_comment, statement}
use Rattle.cics_script.specs.Tokens.{after_blanks, tokens}
use Rattle.cics_script.specs.declared.lines.Line.{Line}
use Rattle.cics_script.specs.declared.lines.Line.TheVariants.{Blank}
use Rattle.cics_script.specs.declared.faults.LineFault.{LineFault}
use Rattle.cics_script.specs.declared.faults.LineFault.TheVariants.{TooLong, NotAscii}
use Rattle.cics_run.specs.Stage.Stages as stages
use Rattle.cics_run.specs.declared.stage.stage.Fault.{Fault}
use Rattle.cics_run.specs.Session.Lines.{Pieces, pieces, with_first, last_line, all_lines, is_in_line}
use Rattle.cics_run.specs.Session.Running.{Played, next}
use Rattle.cics_run.proofs.OfSession.Playing.{not-true}
use Rattle.cics_orders.specs.Space.Orders.{Order}
use Rattle.cics_orders.specs.Plans.Taking.{NumberedLine}
use Rattle.cics_orders.specs.declared.plans.plans.Plan.{Plan}
use Rattle.cics_orders.specs.declared.plans.plans.TaskPlan.{TaskPlan}
use Rattle.cics_orders.proofs.OfSearch.Regrouping.{Each}
use Rattle.cics_orders.specs.Report.Along.{lines_along}
use Rattle.cics_orders.specs.Report.Reporting.{script_line, attach_line, run_text}
use Rattle.cics_orders.proofs.OfReport.Opening.{bytes_of, goes}
use Rattle.cics_orders.proofs.OfReport.PlainFaults.{stays}

-- ---- Bytes

-- bytes that a line may have
abbrev pub IsText : Bytes → Type 0
IsText b = list_all is_script_byte b ≡ true

-- a line with its LF
abbrev pub with_lf : Bytes → List ℕ
with_lf b = b ++ 10 ∷ []

-- another byte than those of lines
other : (c d : ℕ) → is_script_byte c ≡ true → is_script_byte d ≡ false → (c == d) ≡ false
other c d is barred = by (c == d) refl
  where
    by : (b : Bool) → (c == d) ≡ b → b ≡ false
    by false at = refl
    by true at = let clash : true ≡ false = sym is ∙ ap is_script_byte (eqb-true c d at) ∙ barred in cc

-- a text has no LF
in_line : (b : Bytes) → IsText b → list_all is_in_line b ≡ true
in_line [] text = refl
in_line (c ∷ b) text =
    let parts = and_parts (is_script_byte c) (list_all is_script_byte b) text in
    ap (λ t. not t && list_all is_in_line b) (other c 10 parts.0 refl) ∙ in_line b parts.1

-- and no CR
no_cr : (b : Bytes) → IsText b → strip_last 13 b ≡ b
no_cr b text = by (ends_with_byte 13 b) refl
  where
    by : (e : Bool) → ends_with_byte 13 b ≡ e → (if e then take (length b - 1) b else b) ≡ b
    by false at = refl
    by true at =
        let parts = and_parts (nat_lt 0 (length b)) (get_or b (length b - 1) 0 == 13) at in
        let within : length b - 1 < length b = omega (arith, ltb-true 0 (length b) parts.0) in
        let cr : is_script_byte (get_or b (length b - 1) 0) ≡ false = ap is_script_byte (eqb-true (get_or b (length b - 1) 0) 13 parts.1) in
        let clash : true ≡ false = sym text ∙ list_all_at is_script_byte b (length b - 1) 0 within cr in
        cc

-- ---- Pieces

one_piece : (b : Bytes) (rest : List ℕ) → list_all is_in_line b ≡ true → pieces (b ++ 10 ∷ rest) ≡ (b ∷ (pieces rest).0, (pieces rest).1)
one_piece [] rest all = refl
one_piece (c ∷ b) rest all =
    let parts = and_parts (is_in_line c) (list_all is_in_line b) all in
    let behind : Pieces = pieces (b ++ 10 ∷ rest) in
    ap (λ t. if t then ([] ∷ behind.0, behind.1) else with_first c behind) (not-true (c == 10) parts.0) ∙ ap (with_first c) (one_piece b rest parts.1)

all_pieces : (lines : List Bytes) → Each IsText lines → pieces (flat_map with_lf lines) ≡ (lines, [])
all_pieces [] texts = refl
all_pieces (b ∷ lines) (text, texts) =
    ap pieces (append_assoc b (10 ∷ []) (flat_map with_lf lines)) ∙ one_piece b (flat_map with_lf lines) (in_line b text)
    ∙ ap (λ (p : Pieces). (b ∷ p.0, p.1)) (all_pieces lines texts)

none_stripped : (lines : List Bytes) → Each IsText lines → map (strip_last 13) lines ≡ lines
none_stripped [] texts = refl
none_stripped (b ∷ lines) (text, texts) = λ i. no_cr b text i ∷ none_stripped lines texts i

-- lines that are written are read again
pub lines_again : (lines : List Bytes) → Each IsText lines → all_lines (flat_map with_lf lines) ≡ lines
lines_again lines texts =
    ap (λ (p : Pieces). map (strip_last 13) p.0 ++ last_line p.1) (all_pieces lines texts)
    ∙ append-nil (map (strip_last 13) lines) ∙ none_stripped lines texts

-- ---- Lines that a run reads

-- a line that says something is a text
text_of : (b : Bytes) (says : Line) → line b ≡ Ok says → IsText b
text_of b says is =
    by (nat_lt 70000 (length b)) (list_all is_script_byte b) (if is_empty_or_comment (after_blanks b) then Ok Blank else statement (tokens b)) is
  where
    by : (long text : Bool) (r : Result Line LineFault) → (if long then Err TooLong else if not text then Err NotAscii else r) ≡ Ok says → text ≡ true
    by true text r is = cc
    by false true r is = refl
    by false false r is = cc

-- a run that has no fault had none before
none_before : (lines : List Bytes) (p : Played) → (fold next p lines).fault ≡ None → p.fault ≡ None
none_before lines p none = by p.fault refl
  where
    by : (f : Option Fault) → p.fault ≡ f → f ≡ None
    by None is = refl
    by (Some f) is = let clash : Some f ≡ None = sym is ∙ ap (λ (q : Played). q.fault) (sym (stays lines p f is)) ∙ none in cc

-- the lines of a run without a fault are texts
pub all_texts : (lines : List Bytes) (p : Played) → (fold next p lines).fault ≡ None → Each IsText lines
all_texts [] p none = tt
all_texts (b ∷ lines) p none =
    let here = none_before (b ∷ lines) p none in
    (by (line b) refl (sym (ap (λ (q : Played). q.fault) (goes p b here)) ∙ none_before lines (next p b) none), all_texts lines (next p b) none)
  where
    by : (r : Result Line LineFault) → line b ≡ r → (stages.followed p.stage r).fault ≡ None → IsText b
    by (Ok says) is none = text_of b says is
    by (Err f) is none = cc

-- ---- An order as a script

-- the lines that define and attach, and behind them those of an order
abbrev pub run_lines : Plan → Order → List Bytes
run_lines p o = bytes_of p.definitions ++ (bytes_of (map (λ task. task.attach) p.tasks) ++ bytes_of (lines_along p o))

lines_text : (lines : List NumberedLine) → flat_map script_line lines ≡ flat_map with_lf (bytes_of lines)
lines_text [] = refl
lines_text (next ∷ lines) = ap (λ t. with_lf next.1 ++ t) (lines_text lines)

attaches_text : (ts : List TaskPlan) → flat_map attach_line ts ≡ flat_map with_lf (bytes_of (map (λ t. t.attach) ts))
attaches_text [] = refl
attaches_text (t ∷ ts) = ap (λ x. with_lf t.attach.1 ++ x) (attaches_text ts)

pub run_bytes : (p : Plan) (o : Order) → run_text p o ≡ flat_map with_lf (run_lines p o)
run_bytes p o =
    let definitions = bytes_of p.definitions in
    let tasks = bytes_of (map (λ t. t.attach) p.tasks) in
    let along = bytes_of (lines_along p o) in
    (λ i. lines_text p.definitions i ++ (attaches_text p.tasks i ++ lines_text (lines_along p o) i))
    ∙ sym (flat_map-append with_lf definitions (tasks ++ along) ∙ ap (λ t. flat_map with_lf definitions ++ t) (flat_map-append with_lf tasks along))
