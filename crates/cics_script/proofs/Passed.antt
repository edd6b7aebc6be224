-- The tokens of a line that were passed, and the column behind them.
use Rattle.std.proofs.Common.{◌≡◌, ℕ, zero, suc, Bool, true, false, ◌==◌, ◌+◌, ◌-◌, ◌<◌, ◌≤◌, List, [], ◌∷◌, ◌++◌, length, refl, arith, ap, sym, ◌∙◌, subst, append_assoc, Some}
use Rattle.std.proofs.lemmas.List.{length-append}
use Rattle.std.proofs.lemmas.Bool.Decides.{nat_tests}
use Rattle.std.specs.Prelude.{Result, Ok, Err, not, nat_lt, if◌then◌else◌}
use Rattle.cics_script.specs.declared.faults.LineFault.{LineFault}
use Rattle.cics_script.specs.declared.faults.LineFault.TheVariants.{TooLong, NotAscii, UnknownWord, BadLiteral, BadNumber, MissingOption, DoubledOption, OptionNotHere, DefineTooLate, NoMemory}
use Rattle.cics_script.specs.Tokens.{Token, broken, is_blank, after_blanks, token_at, tokens_in, tokens}
use Rattle.cics_script.specs.declared.lines.Line.{Line}
use Rattle.cics_script.specs.declared.lines.Line.TheVariants as line_of
use Rattle.cics_script.specs.Lines.{statement, line, is_script_byte, is_empty_or_comment}
use Rattle.std.specs.List.{list_all}
use Rattle.cics_script.specs.Columns.{IsStuck, behind_tokens, from_token, column_behind, IsTokenColumn, IsColumn, other_fault, broken_bytes}
use Rattle.cics_script.proofs.TokenSteps.{tokens-next, taken, not_taken, rest-within}
use Rattle.cics_script.proofs.Layouts.{tokens-blank, no_blank-front}
use Rattle.cics_script.proofs.Stuck.{open-probed, open-first, stuck-probed, stuck-broken}
use Rattle.cics_script.proofs.Cuts.{no_blank-behind}

-- these tokens of a line were passed: a text of them is read so whatever follows it, and the line can be read on behind them
pub record Passed (fault : LineFault) (bytes text rest : List ℕ) : Type 0 where
  pub front : List Token
  pub again : (more : List ℕ) → tokens (text ++ more) ≡ front ++ tokens more
  pub line : tokens bytes ≡ front ++ tokens rest
  pub on : IsStuck fault front → ⊥
  pub behind : rest ≡ behind_tokens (length front) bytes
  pub within : length rest ≤ length bytes

pub passed-none : (fault : LineFault) (bytes : List ℕ) → Passed fault bytes [] bytes
passed-none fault bytes = record { front = []; again = λ more. refl; line = refl; on = open-first fault; behind = refl; within = omega arith }

tokens-none : (n : ℕ) → tokens_in n [] ≡ []
tokens-none zero = refl
tokens-none (suc n) = refl

append-none : (front : List Token) → front ++ [] ≡ front
append-none [] = refl
append-none (t ∷ front) = ap (λ ts. t ∷ ts) (append-none front)

column-at : (bytes rest here : List ℕ) (n : ℕ) → rest ≡ behind_tokens n bytes → from_token rest (after_blanks rest) ≡ here → 1 + (length bytes - length here) ≡ column_behind n bytes
column-at bytes rest here n behind from =
    ap (λ h. 1 + (length bytes - length h)) (sym from) ∙ ap (λ r. 1 + (length bytes - length (from_token r (after_blanks r)))) behind

from-some : (rest here : List ℕ) → 0 < length here → from_token rest here ≡ here
from-some rest [] some = absurd (omega (arith, some))
from-some rest (c ∷ here) some = refl

pub passed-end : (fault : LineFault) (bytes text rest : List ℕ) → Passed fault bytes text rest → after_blanks rest ≡ []
    → IsTokenColumn fault bytes (1 + (length bytes - length rest))
passed-end fault bytes text rest p none =
    let left : tokens rest ≡ [] = ap (tokens_in (length rest)) none ∙ tokens-none (length rest) in
    (p.front, [], p.line ∙ ap (λ ts. p.front ++ ts) left, p.on, column-at bytes rest rest (length p.front) p.behind (ap (from_token rest) none))

pub passed-broken : (fault own : LineFault) (bytes text rest here : List ℕ) → Passed fault bytes text rest → here ≡ after_blanks rest → 0 < length here
    → token_at here ≡ (broken own, []) → statement (tokens bytes) ≡ Err fault → IsTokenColumn fault bytes (1 + (length bytes - length here))
passed-broken fault own bytes text rest here p is some at whole =
    let left : tokens rest ≡ broken own ∷ [] = not_taken rest own (subst (λ h. 0 < length h) is some) (ap token_at (sym is) ∙ at) in
    let line : tokens bytes ≡ p.front ++ broken own ∷ [] = p.line ∙ ap (λ ts. p.front ++ ts) left in (
      p.front,
      broken own ∷ [],
      line,
      (p.on, stuck-broken fault own p.front (ap statement (sym line) ∙ whole)),
      column-at bytes rest here (length p.front) p.behind (ap (from_token rest) (sym is) ∙ from-some rest here some),
    )

-- a token that is the same with a blank behind it, in a line
cut-tokens : (here run behind : List ℕ) (token : Token) → after_blanks here ≡ here → here ≡ run ++ behind → length behind < length here
    → ((more : List ℕ) → token_at (run ++ 32 ∷ more) ≡ (token, 32 ∷ more)) → (more : List ℕ) → tokens (run ++ 32 ∷ more) ≡ token ∷ tokens more
cut-tokens here [] behind token front whole less again more = absurd (omega (arith, ap length whole, less))
cut-tokens here (c ∷ run) behind token front whole less again more =
    let bytes = c ∷ (run ++ 32 ∷ more) in
    let gap : is_blank c ≡ false = no_blank-behind here (run ++ behind) c (front ∙ whole) in
    let is = no_blank-front c (run ++ 32 ∷ more) gap in
    let some : 0 < length (after_blanks bytes) = rw is (omega arith) in
    tokens-next bytes some ∙ ap (λ b. (token_at b).0 ∷ tokens (token_at b).1) is
    ∙ ap (λ t. t.0 ∷ tokens t.1) (again more) ∙ ap (λ ts. token ∷ ts) (tokens-blank more)

blanks-once : (rest here : List ℕ) → here ≡ after_blanks rest → after_blanks here ≡ here
blanks-once rest [] is = refl
blanks-once rest (c ∷ here) is = no_blank-front c here (no_blank-behind rest here c (sym is))

-- a token more, with the tokens of a text that has it behind a blank each
further : (fault : LineFault) (bytes text rest here run behind : List ℕ) (token : Token) (p : Passed fault bytes text rest) → here ≡ after_blanks rest → here ≡ run ++ behind
    → length behind < length here → ((more : List ℕ) → token_at (run ++ 32 ∷ more) ≡ (token, 32 ∷ more))
    → (more : List ℕ) → tokens (((text ++ run) ++ 32 ∷ []) ++ more) ≡ (p.front ++ token ∷ []) ++ tokens more
further fault bytes text rest here run behind token p is whole less again more =
    ap tokens (append_assoc (text ++ run) (32 ∷ []) more ∙ append_assoc text run (32 ∷ more))
    ∙ p.again (run ++ 32 ∷ more)
    ∙ ap (λ ts. p.front ++ ts) (cut-tokens here run behind token (blanks-once rest here is) whole less again more)
    ∙ sym (append_assoc p.front (token ∷ []) (tokens more))

pub behind-less : (rest here behind : List ℕ) (token : Token) → here ≡ after_blanks rest → 0 < length here → token_at here ≡ (token, behind) → length behind < length here
behind-less rest here behind token is some at =
    let same = blanks-once rest here is in
    subst (λ t. length t.1 < length here) (ap token_at same ∙ at) (rest-within here (subst (λ h. 0 < length h) (sym same) some))

-- a text that has no length is none
pub none-left : (here : List ℕ) (b : Bool) → b ≡ (length here == 0) → b ≡ true → here ≡ []
none-left [] b e t = refl
none-left (c ∷ here) b e t = let zero : length (c ∷ here) ≡ 0 = grind (arith, nat_tests) in absurd (omega arith)

pub some-left : (here : List ℕ) (b : Bool) → b ≡ (length here == 0) → b ≡ false → 0 < length here
some-left here b e f = grind (arith, nat_tests)

probe-tokens : (fault : LineFault) → tokens (broken_bytes fault) ≡ broken (other_fault fault) ∷ []
probe-tokens TooLong = refl
probe-tokens NotAscii = refl
probe-tokens UnknownWord = refl
probe-tokens BadLiteral = refl
probe-tokens BadNumber = refl
probe-tokens MissingOption = refl
probe-tokens DoubledOption = refl
probe-tokens OptionNotHere = refl
probe-tokens DefineTooLate = refl
probe-tokens NoMemory = refl

pub line-further : (fault : LineFault) (bytes text rest here behind : List ℕ) (token : Token) (p : Passed fault bytes text rest) → here ≡ after_blanks rest → 0 < length here
    → token_at here ≡ (token, behind) → (tokens bytes ≡ p.front ++ token ∷ tokens behind) × (length behind < length rest)
line-further fault bytes text rest here behind token p is some at =
    let next = taken rest token behind (subst (λ h. 0 < length h) is some) (ap token_at (sym is) ∙ at) in
    (p.line ∙ ap (λ ts. p.front ++ ts) next.0, next.1)

-- behind the token a broken one doesn't have its fault: there the line is stuck
pub passed-stuck : (fault : LineFault) (bytes text rest here run behind : List ℕ) (token : Token) (p : Passed fault bytes text rest) → here ≡ after_blanks rest → 0 < length here
    → here ≡ run ++ behind → length behind < length here → token_at here ≡ (token, behind) → ((more : List ℕ) → token_at (run ++ 32 ∷ more) ≡ (token, 32 ∷ more))
    → statement (tokens bytes) ≡ Err fault → (statement (tokens (((text ++ run) ++ 32 ∷ []) ++ broken_bytes fault)) ≡ Err (other_fault fault) → ⊥)
    → IsTokenColumn fault bytes (1 + (length bytes - length here))
passed-stuck fault bytes text rest here run behind token p is some cut less at again whole refused =
    let line = (line-further fault bytes text rest here behind token p is some at).0 in
    let read = further fault bytes text rest here run behind token p is cut less again (broken_bytes fault) ∙ ap (λ ts. (p.front ++ token ∷ []) ++ ts) (probe-tokens fault) in
    let stuck = stuck-probed fault (other_fault fault) (p.front ++ token ∷ []) (tokens behind)
    (ap statement (append_assoc p.front (token ∷ []) (tokens behind) ∙ sym line) ∙ whole)
    (λ has. refused (ap statement read ∙ has)) in (
      p.front,
      token ∷ tokens behind,
      line,
      (p.on, stuck),
      column-at bytes rest here (length p.front) p.behind (ap (from_token rest) (sym is) ∙ from-some rest here some),
    )

count-more : (front : List Token) (token : Token) → length (front ++ token ∷ []) ≡ suc (length front)
count-more front token = simp length-append (omega arith)

-- behind the token a broken one has its fault: it is passed
pub passed-more : (fault : LineFault) (bytes text rest here run behind : List ℕ) (token : Token) (p : Passed fault bytes text rest) → here ≡ after_blanks rest → 0 < length here
    → here ≡ run ++ behind → length behind < length here → token_at here ≡ (token, behind) → ((more : List ℕ) → token_at (run ++ 32 ∷ more) ≡ (token, 32 ∷ more))
    → statement (tokens (((text ++ run) ++ 32 ∷ []) ++ broken_bytes fault)) ≡ Err (other_fault fault)
    → Passed fault bytes ((text ++ run) ++ 32 ∷ []) behind
passed-more fault bytes text rest here run behind token p is some cut less at again has =
    let line = line-further fault bytes text rest here behind token p is some at in
    let read = further fault bytes text rest here run behind token p is cut less again in
    let probed = read (broken_bytes fault) ∙ ap (λ ts. (p.front ++ token ∷ []) ++ ts) (probe-tokens fault) in
    record {
      front = p.front ++ token ∷ [];
      again = read;
      line = line.0 ∙ sym (append_assoc p.front (token ∷ []) (tokens behind));
      on = open-probed fault (p.front ++ token ∷ []) (ap statement (sym probed) ∙ has);
      behind = sym (ap (λ n. behind_tokens n bytes) (count-more p.front token) ∙ ap (λ r. (token_at (after_blanks r)).1) (sym p.behind) ∙ ap (λ h. (token_at h).1) (sym is) ∙ ap (λ t. t.1) at);
      within = omega (arith, line.1, p.within);
    }

-- ---- a line

line-read : (long wrong blank : Bool) (read : Result Line LineFault) (fault : LineFault)
    → (if long then Err TooLong else if wrong then Err NotAscii else if blank then Ok line_of.Blank else read) ≡ Err fault → (fault ≡ TooLong → ⊥) → (fault ≡ NotAscii → ⊥) → read ≡ Err fault
line-read true wrong blank read fault e long ascii = let same : fault ≡ TooLong = cc in absurd (long same)
line-read false true blank read fault e long ascii = let same : fault ≡ NotAscii = cc in absurd (ascii same)
line-read false false true read fault e long ascii = cc
line-read false false false read fault e long ascii = e

-- a fault that is neither of the line's length nor of its bytes is one of its tokens
pub tokens-fault : (bytes : List ℕ) (fault : LineFault) → line bytes ≡ Err fault → (fault ≡ TooLong → ⊥) → (fault ≡ NotAscii → ⊥) → statement (tokens bytes) ≡ Err fault
tokens-fault bytes fault e long ascii =
    line-read (nat_lt 70000 (length bytes)) (not (list_all is_script_byte bytes)) (is_empty_or_comment (after_blanks bytes)) (statement (tokens bytes)) fault e long ascii

pub placed-token : (fault : LineFault) (bytes : List ℕ) (column : ℕ) → (fault ≡ TooLong → ⊥) → (fault ≡ NotAscii → ⊥) → IsTokenColumn fault bytes column → IsColumn fault bytes (Some column)
placed-token TooLong bytes column long ascii is = absurd (long refl)
placed-token NotAscii bytes column long ascii is = absurd (ascii refl)
placed-token UnknownWord bytes column long ascii is = is
placed-token BadLiteral bytes column long ascii is = is
placed-token BadNumber bytes column long ascii is = is
placed-token MissingOption bytes column long ascii is = is
placed-token DoubledOption bytes column long ascii is = is
placed-token OptionNotHere bytes column long ascii is = is
placed-token DefineTooLate bytes column long ascii is = is
placed-token NoMemory bytes column long ascii is = is
