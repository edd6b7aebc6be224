-- Tokens that were written are read back, and a line of them has no other bytes than a script may have.
use Rattle.std.proofs.Common.{◌≡◌, ℕ, suc, Bool, true, false, ◌==◌, ◌&&◌, ◌+◌, ◌*◌, ◌-◌, ◌/◌, ◌%◌, ◌≤◌, ◌<◌, ◌^◌, List, [], ◌∷◌, ◌++◌, length, take, drop, map, append_assoc, refl, arith, ap, sym, ◌∙◌, Some, None, inl, inr}
use Rattle.std.proofs.lemmas.Bool.{cases_Bool}
use Rattle.std.proofs.lemmas.Bool.Decides.{nat_tests}
use Rattle.std.proofs.lemmas.Fmt.{decimal_by_steps}
use Rattle.std.proofs.lemmas.List.Folds.{list_all-append}
use Rattle.std.proofs.lemmas.List.{length-append}
use Rattle.std.proofs.lemmas.List.Sums.{fold-append}
use Rattle.std.proofs.Math.Seq.{drop-append_seam, take-append_seam}
use Rattle.std.specs.List.{flat_map, list_all, prefix_len}
use Rattle.std.specs.Fmt.{decimal}
use Rattle.std.specs.Prelude.{nat_lt, nat_le, if◌then◌else◌, is_some}
use Rattle.cics_names.specs.Ebcdic.{Run, runs, is_within, code_in, code_of}
use Rattle.cics_script.specs.declared.literals.Notation.TheVariants.{Quoted, Hexadecimal}
use Rattle.cics_script.specs.Tokens.{Token, word, number, literal, opening, closing, broken, is_blank, is_capital, is_letter, is_digit, is_quote, is_word_byte, capital, after_blanks}
use Rattle.cics_script.specs.Tokens.{value_of, with_byte, characters_from, digit_pairs, hex_value, as_literal, as_number, behind_x, hexadecimal_or, plain_at, word_at, number_at, token_at, tokens_in, tokens}
use Rattle.cics_script.specs.Texts.{digit, doubled, hexadecimal}
use Rattle.cics_script.specs.Lines.{is_script_byte, is_empty_or_comment}
use Rattle.cics_script.specs.Layout.{is_gap, ends, token_bytes, is_in_capitals, is_word, IsWritable, AreWritable, laid_out}
use Rattle.cics_script.proofs.TokenSteps.{tokens-next, enough, blanks-within}

-- ---- runs of bytes of one kind

pub both_true : (a b : Bool) → (a && b) ≡ true → (a ≡ true) × (b ≡ true)
both_true true b e = (refl, e)
both_true false b e = let wrong : false ≡ true = e in cc

pub if-true : {A : Type 0} (b : Bool) (x y : A) → b ≡ true → (if b then x else y) ≡ x
if-true b x y e = rw e refl

pub if-false : {A : Type 0} (b : Bool) (x y : A) → b ≡ false → (if b then x else y) ≡ y
if-false b x y e = rw e refl

-- bytes of one kind, of which no gap is, before the end or a gap
pub prefix_len-all : (p : ℕ → Bool) → ((c : ℕ) → is_gap c ≡ true → p c ≡ false) → (run rest : List ℕ) → list_all p run ≡ true → ends rest ≡ true
    → prefix_len p (run ++ rest) ≡ length run
prefix_len-all p other [] [] all gap = refl
prefix_len-all p other [] (c ∷ rest) all gap = rw (other c gap) refl
prefix_len-all p other (first ∷ run) rest all gap =
    let parts = both_true (p first) (list_all p run) all in
    rw parts.0 (omega (arith, prefix_len-all p other run rest parts.1 gap))

-- bytes that pass a test pass any weaker one
all-weaker : (p q : ℕ → Bool) → ((c : ℕ) → p c ≡ true → q c ≡ true) → (run : List ℕ) → list_all p run ≡ true → list_all q run ≡ true
all-weaker p q weaker [] all = refl
all-weaker p q weaker (c ∷ run) all =
    let parts = both_true (p c) (list_all p run) all in
    rw (weaker c parts.0) (all-weaker p q weaker run parts.1)

-- ---- words

letter-capital : (c : ℕ) → is_capital c ≡ true → is_letter c ≡ true
letter-capital c e = grind (arith, nat_tests)

word_byte-in_capitals : (c : ℕ) → is_in_capitals c ≡ true → is_word_byte c ≡ true
word_byte-in_capitals c e = grind (arith, nat_tests)

capital-in_capitals : (c : ℕ) → is_in_capitals c ≡ true → capital c ≡ c
capital-in_capitals c e = grind (arith, nat_tests)

in_capitals-capital : (c : ℕ) → is_capital c ≡ true → is_in_capitals c ≡ true
in_capitals-capital c e = grind (arith, nat_tests)

no_quote-in_capitals : (c : ℕ) → is_in_capitals c ≡ true → is_quote c ≡ false
no_quote-in_capitals c e = grind (arith, nat_tests)

no_blank-in_capitals : (c : ℕ) → is_in_capitals c ≡ true → is_blank c ≡ false
no_blank-in_capitals c e = grind (arith, nat_tests)

pub no_word_byte-gap : (c : ℕ) → is_gap c ≡ true → is_word_byte c ≡ false
no_word_byte-gap c e = grind (arith, nat_tests)

pub no_digit-gap : (c : ℕ) → is_gap c ≡ true → is_digit c ≡ false
no_digit-gap c e = grind (arith, nat_tests)

no_quote-gap : (c : ℕ) → is_gap c ≡ true → is_quote c ≡ false
no_quote-gap c e = grind (arith, nat_tests)

capitals-itself : (letters : List ℕ) → list_all is_in_capitals letters ≡ true → map capital letters ≡ letters
capitals-itself [] all = refl
capitals-itself (c ∷ letters) all =
    let parts = both_true (is_in_capitals c) (list_all is_in_capitals letters) all in
    rw (capital-in_capitals c parts.0) (ap (λ cs. c ∷ cs) (capitals-itself letters parts.1))

-- a second byte that is no quote makes no hexadecimal literal
pub behind_x-no_quote : (c d : ℕ) (bytes : List ℕ) → is_quote d ≡ false → behind_x (c ∷ d ∷ bytes) ≡ None
behind_x-no_quote c d bytes e = elim (cases_Bool (capital c == 88)) [ inl x ↦ rw (x, e) refl | inr other ↦ rw other refl ]

-- a first byte that is no X makes none either
pub behind_x-other : (c : ℕ) (bytes : List ℕ) → (capital c == 88) ≡ false → behind_x (c ∷ bytes) ≡ None
behind_x-other c [] e = refl
behind_x-other c (d ∷ bytes) e = rw e refl

behind_x-word : (c : ℕ) (letters rest : List ℕ) → list_all is_in_capitals letters ≡ true → ends rest ≡ true → behind_x (c ∷ (letters ++ rest)) ≡ None
behind_x-word c [] [] all gap = refl
behind_x-word c [] (d ∷ rest) all gap = behind_x-no_quote c d rest (no_quote-gap d gap)
behind_x-word c (d ∷ letters) rest all gap = behind_x-no_quote c d (letters ++ rest) (no_quote-in_capitals d (both_true (is_in_capitals d) (list_all is_in_capitals letters) all).0)

token_at-word : (c : ℕ) (letters rest : List ℕ) → is_capital c ≡ true → list_all is_in_capitals letters ≡ true → ends rest ≡ true
    → token_at (c ∷ (letters ++ rest)) ≡ (word (c ∷ letters), rest)
token_at-word c letters rest first all gap =
    let run = c ∷ letters in
    let whole : list_all is_in_capitals run ≡ true = rw (in_capitals-capital c first) all in
    let count = prefix_len-all is_word_byte no_word_byte-gap run rest (all-weaker is_in_capitals is_word_byte word_byte-in_capitals run whole) gap in
    let at : word_at (run ++ rest) ≡ (word run, rest) =
    ap (λ n. (word (map capital (take n (run ++ rest))), drop n (run ++ rest))) count
    ∙ ap (λ w. (word (map capital w), drop (length run) (run ++ rest))) (take-append_seam run rest)
    ∙ ap (λ w. (word w, drop (length run) (run ++ rest))) (capitals-itself run whole)
    ∙ ap (λ behind. (word run, behind)) (drop-append_seam run rest) in
    ap (λ x. hexadecimal_or x (plain_at c (letters ++ rest))) (behind_x-word c letters rest all gap)
    ∙ if-true (is_letter c) _ _ (letter-capital c first) ∙ at

-- ---- numbers

-- digits, at least one, that have this value
abbrev AreDigits : ℕ → List ℕ → Type 0
AreDigits n digits = (list_all is_digit digits ≡ true) × (0 < length digits) × (value_of digits ≡ n)

digit-is : (n : ℕ) → n < 10 → is_digit (48 + n) ≡ true
digit-is n h = grind (arith, nat_tests)

one_digit : (n : ℕ) → n < 10 → AreDigits n ((48 + n) ∷ [])
one_digit n h = (rw (digit-is n h) refl, omega arith, omega arith)

digit_more : (n : ℕ) (digits : List ℕ) → 10 ≤ n → AreDigits (n / 10) digits → AreDigits n (digits ++ (48 + n % 10) ∷ [])
digit_more n digits h are =
    let last = (48 + n % 10) ∷ [] in
    let value : value_of (digits ++ last) ≡ value_of digits * 10 + (48 + n % 10 - 48) = fold-append (λ n d. n * 10 + (d - 48)) 0 digits last in (
      list_all-append is_digit digits last ∙ rw (are.0, digit-is (n % 10) (omega arith)) refl,
      simp length-append (omega (arith, are.1)),
      omega (arith, value, are.2),
    )

decimal-digits : (n : ℕ) → n < 2 ^ 64 → AreDigits n (decimal n)
decimal-digits n small = decimal_by_steps AreDigits one_digit digit_more n small

pub no_letter-digit : (c : ℕ) → is_digit c ≡ true → is_letter c ≡ false
no_letter-digit c e = grind (arith, nat_tests)

pub no_x-digit : (c : ℕ) → is_digit c ≡ true → (capital c == 88) ≡ false
no_x-digit c e = grind (arith, nat_tests)

token_at-number : (n : ℕ) (digits rest : List ℕ) → n < 2 ^ 64 → AreDigits n digits → ends rest ≡ true → token_at (digits ++ rest) ≡ (number n, rest)
token_at-number n [] rest small are gap = absurd (omega (arith, are.1))
token_at-number n (c ∷ digits) rest small are gap =
    let run = c ∷ digits in
    let first = (both_true (is_digit c) (list_all is_digit digits) are.0).0 in
    let count = prefix_len-all is_digit no_digit-gap run rest are.0 gap in
    let at : number_at (run ++ rest) ≡ as_number n rest =
    ap (λ k. as_number (value_of (take k (run ++ rest))) (drop k (run ++ rest))) count
    ∙ ap (λ ds. as_number (value_of ds) (drop (length run) (run ++ rest))) (take-append_seam run rest)
    ∙ ap (λ v. as_number v (drop (length run) (run ++ rest))) are.2
    ∙ ap (as_number n) (drop-append_seam run rest) in
    let fits : nat_lt n (2 ^ 64) ≡ true = grind (arith, nat_tests) in
    ap (λ x. hexadecimal_or x (plain_at c (digits ++ rest))) (behind_x-other c (digits ++ rest) (no_x-digit c first))
    ∙ if-false (is_letter c) _ _ (no_letter-digit c first) ∙ if-true (is_digit c) _ _ first
    ∙ at ∙ if-true (nat_lt n (2 ^ 64)) _ _ fits

-- ---- literals

quote-is : (c : ℕ) → is_quote c ≡ true → c ≡ 39
quote-is c e = grind (arith, nat_tests)

characters-quoted : (said rest : List ℕ) → list_all (λ c. is_some (code_of c)) said ≡ true → ends rest ≡ true
    → characters_from false (flat_map doubled said ++ 39 ∷ rest) ≡ Some (said, rest)
characters-quoted [] [] all gap = refl
characters-quoted [] (c ∷ rest) all gap = rw (no_quote-gap c gap) refl
characters-quoted (c ∷ said) rest all gap =
    let parts = both_true (is_some (code_of c)) (list_all (λ c. is_some (code_of c)) said) all in
    elim (cases_Bool (is_quote c)) [
      | inl quote ↦ rw quote (ap (with_byte 39) (characters-quoted said rest parts.1 gap) ∙ ap (λ q. Some (q ∷ said, rest)) (sym (quote-is c quote)))
      | inr other ↦ rw other (rw (other, parts.0) (ap (with_byte c) (characters-quoted said rest parts.1 gap)))
    ]

no_quote-digit : (n : ℕ) → n < 16 → is_quote (digit n) ≡ false
no_quote-digit n h = grind (arith, nat_tests)

hex_value-digit : (n : ℕ) → n < 16 → hex_value (digit n) ≡ Some n
hex_value-digit n h =
    elim (cases_Bool (nat_lt n 10)) [
      | inl below ↦ rw below (if-true (is_digit (n + 48)) _ _ (grind (arith, nat_tests)) ∙ ap Some (omega arith))
      | inr above ↦ rw above (
          if-false (is_digit (n + 55)) _ _ (grind (arith, nat_tests))
          ∙ if-true (nat_le 65 (n + 55) && nat_le (n + 55) 70) _ _ (grind (arith, nat_tests)) ∙ ap Some (omega arith))
    ]

pairs-hexadecimal : (bytes rest : List ℕ) → list_all (λ byte. nat_lt byte 256) bytes ≡ true → digit_pairs (flat_map hexadecimal bytes ++ 39 ∷ rest) ≡ Some (bytes, rest)
pairs-hexadecimal [] [] all = refl
pairs-hexadecimal [] (c ∷ rest) all = refl
pairs-hexadecimal (byte ∷ bytes) rest all =
    let parts = both_true (nat_lt byte 256) (list_all (λ byte. nat_lt byte 256) bytes) all in
    let within : byte < 256 = grind (arith, nat_tests, parts.0) in
    let high : byte / 16 < 16 = omega (arith, within) in
    let low : byte % 16 < 16 = omega arith in
    let back : byte / 16 * 16 + byte % 16 ≡ byte = omega arith in
    rw (no_quote-digit (byte / 16) high, hex_value-digit (byte / 16) high, hex_value-digit (byte % 16) low)
    (ap (with_byte (byte / 16 * 16 + byte % 16)) (pairs-hexadecimal bytes rest parts.1) ∙ ap (λ b. Some (b ∷ bytes, rest)) back)

-- ---- tokens

token_at-written : (token : Token) (rest : List ℕ) → IsWritable token → ends rest ≡ true → token_at (token_bytes token ++ rest) ≡ (token, rest)
token_at-written (word []) rest can gap = let wrong : false ≡ true = can in cc
token_at-written (word (c ∷ letters)) rest can gap =
    let parts = both_true (is_capital c) (list_all is_in_capitals letters) can in
    token_at-word c letters rest parts.0 parts.1 gap
token_at-written (number n) rest can gap = token_at-number n (decimal n) rest can (decimal-digits n can) gap
token_at-written (literal Quoted said) rest can gap =
    let behind = (flat_map doubled said ++ 39 ∷ []) ++ rest in
    ap (λ x. hexadecimal_or x (plain_at 39 behind)) (behind_x-other 39 behind refl)
    ∙ ap (λ b. as_literal Quoted (characters_from false b)) (append_assoc (flat_map doubled said) (39 ∷ []) rest)
    ∙ ap (as_literal Quoted) (characters-quoted said rest can gap)
token_at-written (literal Hexadecimal bytes) rest can gap =
    ap (λ b. as_literal Hexadecimal (digit_pairs b)) (append_assoc (flat_map hexadecimal bytes) (39 ∷ []) rest)
    ∙ ap (as_literal Hexadecimal) (pairs-hexadecimal bytes rest can)
token_at-written opening rest can gap = ap (λ x. hexadecimal_or x (plain_at 40 rest)) (behind_x-other 40 rest refl)
token_at-written closing rest can gap = ap (λ x. hexadecimal_or x (plain_at 41 rest)) (behind_x-other 41 rest refl)
token_at-written (broken fault) rest can gap = absurd can

pub no_blank-front : (c : ℕ) (bytes : List ℕ) → is_blank c ≡ false → after_blanks (c ∷ bytes) ≡ c ∷ bytes
no_blank-front c bytes e = rw e refl

no_blank-digit : (c : ℕ) → is_digit c ≡ true → is_blank c ≡ false
no_blank-digit c e = grind (arith, nat_tests)

front-digits : (n : ℕ) (digits rest : List ℕ) → AreDigits n digits → after_blanks (digits ++ rest) ≡ digits ++ rest
front-digits n [] rest are = absurd (omega (arith, are.1))
front-digits n (c ∷ digits) rest are = no_blank-front c (digits ++ rest) (no_blank-digit c (both_true (is_digit c) (list_all is_digit digits) are.0).0)

-- the first byte of a token that was written is no blank
front-written : (token : Token) (rest : List ℕ) → IsWritable token → after_blanks (token_bytes token ++ rest) ≡ token_bytes token ++ rest
front-written (word []) rest can = let wrong : false ≡ true = can in cc
front-written (word (c ∷ letters)) rest can =
    no_blank-front c (letters ++ rest) (no_blank-in_capitals c (in_capitals-capital c (both_true (is_capital c) (list_all is_in_capitals letters) can).0))
front-written (number n) rest can = front-digits n (decimal n) rest (decimal-digits n can)
front-written (literal Quoted said) rest can = refl
front-written (literal Hexadecimal bytes) rest can = refl
front-written opening rest can = refl
front-written closing rest can = refl
front-written (broken fault) rest can = absurd can

-- a blank in front is no token
pub tokens-blank : (bytes : List ℕ) → tokens (32 ∷ bytes) ≡ tokens bytes
tokens-blank bytes =
    let count : 1 + prefix_len is_blank bytes ≡ suc (prefix_len is_blank bytes) = omega arith in
    ap (λ k. tokens_in (suc (length bytes)) (drop k (32 ∷ bytes))) count
    ∙ enough (suc (length bytes)) (length bytes) (after_blanks bytes) (omega (arith, blanks-within bytes)) (blanks-within bytes)

pub some-written : (token : Token) → IsWritable token → 0 < length (token_bytes token)
some-written (word []) can = let wrong : false ≡ true = can in cc
some-written (word (c ∷ letters)) can = omega arith
some-written (number n) can = (decimal-digits n can).1
some-written (literal Quoted said) can = omega arith
some-written (literal Hexadecimal bytes) can = omega arith
some-written opening can = omega arith
some-written closing can = omega arith
some-written (broken fault) can = absurd can

-- a token that was written is read back, and then what stands behind it
pub tokens-written : (token : Token) (rest : List ℕ) → IsWritable token → ends rest ≡ true → tokens (token_bytes token ++ rest) ≡ token ∷ tokens rest
tokens-written token rest can gap =
    let bytes = token_bytes token ++ rest in
    let front = front-written token rest can in
    let some : 0 < length (after_blanks bytes) = rw front (simp length-append (omega (arith, some-written token can))) in
    tokens-next bytes some
    ∙ ap (λ b. (token_at b).0 ∷ tokens (token_at b).1) front
    ∙ ap (λ t. t.0 ∷ tokens t.1) (token_at-written token rest can gap)

-- anything may stand behind an opening parenthesis
pub tokens-opening : (rest : List ℕ) → tokens (40 ∷ rest) ≡ opening ∷ tokens rest
tokens-opening rest =
    let some : 0 < length (after_blanks (40 ∷ rest)) = omega arith in
    tokens-next (40 ∷ rest) some ∙ ap (λ x. (hexadecimal_or x (opening, rest)).0 ∷ tokens (hexadecimal_or x (opening, rest)).1) (behind_x-other 40 rest refl)

-- tokens that were written are read back
pub tokens-laid_out : (line : List Token) → AreWritable line → tokens (laid_out line) ≡ line
tokens-laid_out [] are = refl
tokens-laid_out (token ∷ others) are =
    tokens-written token (32 ∷ laid_out others) are.0 refl
    ∙ ap (λ ts. token ∷ ts) (tokens-blank (laid_out others) ∙ tokens-laid_out others are.1)

-- ---- the bytes of a script

script-in_capitals : (c : ℕ) → is_in_capitals c ≡ true → is_script_byte c ≡ true
script-in_capitals c e = grind (arith, nat_tests)

script-digit : (c : ℕ) → is_digit c ≡ true → is_script_byte c ≡ true
script-digit c e = grind (arith, nat_tests)

script-hexadecimal : (n : ℕ) → n < 16 → is_script_byte (digit n) ≡ true
script-hexadecimal n h = grind (arith, nat_tests)

-- a run of characters from the space to the tilde
abbrev is_printable : Run → Bool
is_printable r = nat_le 32 r.character && nat_le (r.character + r.count) 127

script-within : (r : Run) (c : ℕ) → is_printable r ≡ true → is_within r.character r.count c ≡ true → is_script_byte c ≡ true
script-within r c printable here = grind (arith, nat_tests)

script-run : (rs : List Run) (c : ℕ) → list_all is_printable rs ≡ true → is_some (code_in rs c) ≡ true → is_script_byte c ≡ true
script-run [] c all some = let wrong : false ≡ true = some in cc
script-run (r ∷ rs) c all some =
    let parts = both_true (is_printable r) (list_all is_printable rs) all in
    elim (cases_Bool (is_within r.character r.count c)) [
      | inl here ↦ script-within r c parts.0 here
      | inr other ↦ script-run rs c parts.1 (ap is_some (sym (if-false _ (Some (r.code + (c - r.character))) (code_in rs c) other)) ∙ some)
    ]

script-coded : (c : ℕ) → is_some (code_of c) ≡ true → is_script_byte c ≡ true
unfolding code_of
script-coded c some = script-run runs c refl some

script-quoted : (said : List ℕ) → list_all (λ c. is_some (code_of c)) said ≡ true → list_all is_script_byte (flat_map doubled said ++ 39 ∷ []) ≡ true
script-quoted [] all = refl
script-quoted (c ∷ said) all =
    let parts = both_true (is_some (code_of c)) (list_all (λ c. is_some (code_of c)) said) all in
    elim (cases_Bool (is_quote c)) [
      | inl quote ↦ rw quote (script-quoted said parts.1)
      | inr other ↦ rw other (rw (script-coded c parts.0) (script-quoted said parts.1))
    ]

script-hexadecimal_all : (bytes : List ℕ) → list_all (λ byte. nat_lt byte 256) bytes ≡ true → list_all is_script_byte (flat_map hexadecimal bytes ++ 39 ∷ []) ≡ true
script-hexadecimal_all [] all = refl
script-hexadecimal_all (byte ∷ bytes) all =
    let parts = both_true (nat_lt byte 256) (list_all (λ byte. nat_lt byte 256) bytes) all in
    let within : byte < 256 = grind (arith, nat_tests, parts.0) in
    rw (script-hexadecimal (byte / 16) (omega (arith, within)), script-hexadecimal (byte % 16) (omega arith)) (script-hexadecimal_all bytes parts.1)

pub script-written : (token : Token) → IsWritable token → list_all is_script_byte (token_bytes token) ≡ true
script-written (word []) can = refl
script-written (word (c ∷ letters)) can =
    let parts = both_true (is_capital c) (list_all is_in_capitals letters) can in
    rw (script-in_capitals c (in_capitals-capital c parts.0)) (all-weaker is_in_capitals is_script_byte script-in_capitals letters parts.1)
script-written (number n) can = all-weaker is_digit is_script_byte script-digit (decimal n) (decimal-digits n can).0
script-written (literal Quoted said) can = script-quoted said can
script-written (literal Hexadecimal bytes) can = script-hexadecimal_all bytes can
script-written opening can = refl
script-written closing can = refl
script-written (broken fault) can = absurd can

-- a line that was written has bytes of a script only
pub script-laid_out : (line : List Token) → AreWritable line → list_all is_script_byte (laid_out line) ≡ true
script-laid_out [] are = refl
script-laid_out (token ∷ others) are =
    list_all-append is_script_byte (token_bytes token) (32 ∷ laid_out others)
    ∙ rw (script-written token are.0) (script-laid_out others are.1)

-- a line that begins with a word is neither blank nor a comment
pub no_comment-word : (w : List ℕ) (rest : List ℕ) → is_word w ≡ true → is_empty_or_comment (after_blanks (w ++ rest)) ≡ false
no_comment-word [] rest can = let wrong : false ≡ true = can in cc
no_comment-word (c ∷ letters) rest can =
    let first = (both_true (is_capital c) (list_all is_in_capitals letters) can).0 in
    let other : (c == 42) ≡ false = grind (arith, nat_tests, first) in
    ap is_empty_or_comment (front-written (word (c ∷ letters)) rest can) ∙ other
