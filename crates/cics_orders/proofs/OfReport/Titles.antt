-- The title of a script is a comment, and ends with the only LF that it has.
use Rattle.std.proofs.Common.{◌≡◌, ◌<◌, ◌≤◌, ℕ, ◌+◌, ◌^◌, ◌%◌, ◌==◌, ◌||◌, Bool, true, false, not, ◌&&◌, List, [], ◌∷◌, ◌++◌, length, Ok, Err, refl, ap, sym, ◌∙◌, arith, append_assoc, length-append, nat_lt, le-leb, le-ltb, subst}
use Rattle.std.proofs.lemmas.Fmt.{decimal_by_steps_wide, length-decimal-le_wide}
use Rattle.std.proofs.lemmas.List.Folds.{list_all-append}
use Rattle.std.specs.Prelude.{if◌then◌else◌, codes}
use Rattle.std.specs.Fmt.{decimal}
use Rattle.cics_names.specs.Keyed.{Bytes}
use Rattle.cics_script.specs.Lines.{line, is_script_byte}
use Rattle.cics_script.specs.declared.lines.Line.TheVariants.{Blank}
use Rattle.cics_script.specs.declared.faults.LineFault.TheVariants.{TooLong, NotAscii}
use Rattle.cics_orders.specs.Space.Endings.{Reported, greatest}
use Rattle.cics_orders.specs.declared.search.exploring.Report.{Report}
use Rattle.cics_orders.specs.Report.Parts.{mark, mark_in, written_mark}
use Rattle.cics_orders.specs.Report.Reporting.{bound_text, count_text, both_text, has_parts, title_text}
use Rattle.cics_orders.specs.Report.Leads.{IsTitled}
use Rattle.cics_orders.proofs.OfReport.ScriptLines.{IsText, with_lf}

-- ---- Short texts

-- a text of at most so many bytes
record IsShort (n : ℕ) (b : Bytes) : Type 0 where
  text : IsText b
  short : length b ≤ n

behind : (m n : ℕ) (a b : Bytes) → IsShort m a → IsShort n b → IsShort (m + n) (a ++ b)
behind m n a b x y = record {
  text = list_all-append is_script_byte a b ∙ (λ i. x.text i && y.text i);
  short = omega (arith, length-append a b, x.short, y.short);
}

digit : (d : ℕ) → d < 10 → is_script_byte (48 + d) ≡ true
digit d small = (λ i. (48 + d == 9) || (le-leb 32 (48 + d) (omega arith) i && le-leb (48 + d) 126 (omega arith) i)) ∙ or_true (48 + d == 9)
  where
    or_true : (b : Bool) → b || true ≡ true
    or_true true = refl
    or_true false = refl

number : (n : ℕ) → n < 2 ^ 128 → IsShort 64 (decimal n)
number n small = record {
  text = decimal_by_steps_wide (λ m ds. IsText ds) (λ m l. ap (λ b. b && true) (digit m l)) more n (omega arith);
  short = length-decimal-le_wide 64 n (omega arith) (omega arith) (omega arith);
}
  where
    more : (m : ℕ) (ds : List ℕ) → 10 ≤ m → IsText ds → IsText (ds ++ ((48 + m % 10) ∷ []))
    more m ds l text = list_all-append is_script_byte ds ((48 + m % 10) ∷ []) ∙ (λ i. text i && (digit (m % 10) (omega arith) i && true))

count : (has_all : Bool) (n : ℕ) → n < 2 ^ 128 → IsShort 73 (count_text has_all n)
count has_all n small = behind 9 64 (bound_text has_all n) (decimal n) (by (has_all && nat_lt n greatest)) (number n small)
  where
    by : (b : Bool) → IsShort 9 (if b then [] else codes "AT LEAST ")
    by true = record { text = refl; short = omega arith }
    by false = record { text = refl; short = omega arith }

both : (r : Report) (all serial : ℕ) → all < 2 ^ 128 → serial < 2 ^ 128 → IsShort 154 (both_text r all serial)
both r all serial a b =
    behind 73 81 (count_text r.is_whole all) (codes " SERIAL " ++ count_text r.has_all_serial serial) (count r.is_whole all a)
    (behind 8 73 (codes " SERIAL ") (count_text r.has_all_serial serial) (record { text = refl; short = omega arith }) (count r.has_all_serial serial b))

marked : (b : Bool) → IsShort 9 (mark b)
marked true = record { text = refl; short = omega arith }
marked false = record { text = refl; short = omega arith }

marked_written : (b : Bool) → IsShort 11 (written_mark b)
marked_written true = record { text = refl; short = omega arith }
marked_written false = record { text = refl; short = omega arith }

-- ---- The title

module _ (r : Report) (k : ℕ) (e : Reported) where
  abbrev written : Bytes
  written = written_mark (has_parts e r.written)

  abbrev heading : Bytes
  heading = codes " ORDERS " ++ (both_text r e.orders e.serial ++ (mark_in e.ending ++ written))

  abbrev counted : Bytes
  counted = codes " OF " ++ (count_text r.is_whole (length r.endings) ++ heading)

  -- the title without its LF
  abbrev pub title : Bytes
  title = codes "* ENDING " ++ (decimal k ++ counted)

  pub title_is : title_text r k e ≡ with_lf title
  title_is =
      let lf : List ℕ = 10 ∷ [] in
      let all = both_text r e.orders e.serial in
      let endings = count_text r.is_whole (length r.endings) in
      sym (ap (λ t. codes "* ENDING " ++ t) (append_assoc (decimal k) counted lf)
      ∙ ap (λ t. codes "* ENDING " ++ (decimal k ++ (codes " OF " ++ t))) (append_assoc endings heading lf)
      ∙ ap (λ t. codes "* ENDING " ++ (decimal k ++ (codes " OF " ++ (endings ++ (codes " ORDERS " ++ t))))) (append_assoc all (mark_in e.ending ++ written) lf)
      ∙ ap (λ t. codes "* ENDING " ++ (decimal k ++ (codes " OF " ++ (endings ++ (codes " ORDERS " ++ (all ++ t)))))) (append_assoc (mark_in e.ending) written lf))

  module _ (titled : IsTitled r k e) where
    short : IsShort 332 title
    short =
        behind 9 323 (codes "* ENDING ") (decimal k ++ counted) (record { text = refl; short = omega arith })
        (behind 64 259 (decimal k) counted (number k titled.number)
        (behind 4 255 (codes " OF ") (count_text r.is_whole (length r.endings) ++ heading) (record { text = refl; short = omega arith })
        (behind 73 182 (count_text r.is_whole (length r.endings)) heading (count r.is_whole (length r.endings) titled.endings)
        (behind 8 174 (codes " ORDERS ") (both_text r e.orders e.serial ++ (mark_in e.ending ++ written)) (record { text = refl; short = omega arith })
        (behind 154 20 (both_text r e.orders e.serial) (mark_in e.ending ++ written) (both r e.orders e.serial titled.orders titled.serial)
        (behind 9 11 (mark_in e.ending) written (subst (IsShort 9) (sym titled.mark.1) (marked titled.mark.0)) (marked_written (has_parts e r.written))))))))

    -- the title says nothing
    pub is_comment : line title ≡ Ok Blank
    is_comment =
        let fits : nat_lt 70000 (length title) ≡ false = le-ltb 70000 (length title) (omega (arith, short.short)) in
        λ i. if fits i then Err TooLong else if not (short.text i) then Err NotAscii else Ok Blank
