-- A token is read the same if a blank stands right behind it.
use Rattle.std.proofs.Common.{◌≡◌, ◌⊎◌, ℕ, suc, Bool, true, false, ◌==◌, ◌&&◌, ◌+◌, ◌*◌, ◌-◌, ◌<◌, ◌≤◌, ◌^◌, cond, List, [], ◌∷◌, ◌++◌, length, map, take, drop, refl, arith, ap, sym, ◌∙◌, subst, append_assoc, Option, Some, None, inl, inr}
use Rattle.std.proofs.lemmas.Bool.{cases_Bool}
use Rattle.std.proofs.lemmas.Bool.Decides.{nat_tests}
use Rattle.std.proofs.lemmas.List.{take-append-drop}
use Rattle.std.proofs.Math.Seq.{drop-append_seam, take-append_seam}
use Rattle.std.specs.List.{list_all, prefix_len}
use Rattle.std.specs.Prelude.{nat_lt, is_some, if◌then◌else◌}
use Rattle.cics_names.specs.Ebcdic.{code_of}
use Rattle.cics_script.specs.declared.faults.LineFault.{LineFault}
use Rattle.cics_script.specs.declared.faults.LineFault.TheVariants.{UnknownWord, BadLiteral, BadNumber}
use Rattle.cics_script.specs.declared.literals.Notation.{Notation}
use Rattle.cics_script.specs.declared.literals.Notation.TheVariants.{Quoted, Hexadecimal}
use Rattle.cics_script.specs.Tokens.{Token, Text, word, number, literal, opening, closing, broken, with_byte, with_pair, characters_from, digit_pairs, hex_value, text_in, as_literal}
use Rattle.cics_script.specs.Tokens.{is_blank, is_quote, is_letter, is_digit, is_word_byte, capital, after_blanks, value_of, number_at, as_number, behind_x, hexadecimal_or, plain_at, token_at}
use Rattle.cics_script.specs.declared.tokens.Token as made
use Rattle.cics_script.specs.declared.tokens.Token.TheVariants as made_token
use Rattle.cics_script.specs.Views.{view}
use Rattle.std.proofs.lemmas.List.{length-append}
use Rattle.cics_script.proofs.Layouts.{both_true, if-true, if-false, prefix_len-all, no_word_byte-gap, no_digit-gap, no_x-digit, no_letter-digit, behind_x-no_quote, behind_x-other}

-- a literal that these bytes begin with is the same with a blank behind it
record CutText (read : List ℕ → Text) (bytes : List ℕ) : Type 0 where
  said : List ℕ
  rest : List ℕ
  run : List ℕ
  is : read bytes ≡ Some (said, rest)
  whole : bytes ≡ run ++ rest
  again : (more : List ℕ) → read (run ++ 32 ∷ more) ≡ Some (said, 32 ∷ more)

abbrev Texts : (List ℕ → Text) → List ℕ → Type 0
Texts read bytes = (read bytes ≡ None) ⊎ CutText read bytes

cut-skip : (read after : List ℕ → Text) (c : ℕ) (bytes : List ℕ) → ((x : List ℕ) → read (c ∷ x) ≡ after x) → Texts after bytes → Texts read (c ∷ bytes)
cut-skip read after c bytes step (inl none) = inl (step bytes ∙ none)
cut-skip read after c bytes step (inr t) = inr (record {
  said = t.said;
  rest = t.rest;
  run = c ∷ t.run;
  is = step bytes ∙ t.is;
  whole = ap (λ x. c ∷ x) t.whole;
  again = λ more. step (t.run ++ 32 ∷ more) ∙ t.again more;
})

cut-byte : (read after : List ℕ → Text) (c byte : ℕ) (bytes : List ℕ) → ((x : List ℕ) → read (c ∷ x) ≡ with_byte byte (after x)) → Texts after bytes → Texts read (c ∷ bytes)
cut-byte read after c byte bytes step (inl none) = inl (step bytes ∙ ap (with_byte byte) none)
cut-byte read after c byte bytes step (inr t) = inr (record {
  said = byte ∷ t.said;
  rest = t.rest;
  run = c ∷ t.run;
  is = step bytes ∙ ap (with_byte byte) t.is;
  whole = ap (λ x. c ∷ x) t.whole;
  again = λ more. step (t.run ++ 32 ∷ more) ∙ ap (with_byte byte) (t.again more);
})

cut-end : (read : List ℕ → Text) (rest : List ℕ) → read rest ≡ Some ([], rest) → ((more : List ℕ) → read (32 ∷ more) ≡ Some ([], 32 ∷ more)) → Texts read rest
cut-end read rest is again = inr (record { said = []; rest = rest; run = []; is = is; whole = refl; again = again })

cut-last : (read : List ℕ → Text) (c : ℕ) (rest : List ℕ) → ((x : List ℕ) → read (c ∷ x) ≡ Some ([], x)) → Texts read (c ∷ rest)
cut-last read c rest step = inr (record { said = []; rest = rest; run = c ∷ []; is = step rest; whole = refl; again = λ more. step (32 ∷ more) })

cut-characters : (b : Bool) (bytes : List ℕ) → Texts (characters_from b) bytes
cut-characters false [] = inl refl
cut-characters true [] = cut-end (characters_from true) [] refl (λ more. refl)
cut-characters false (c ∷ bytes) =
    elim (cases_Bool (is_quote c)) [
      | inl quote ↦ cut-skip (characters_from false) (characters_from true) c bytes (λ x. if-true (is_quote c) _ _ quote) (cut-characters true bytes)
      | inr other ↦ elim (cases_Bool (is_some (code_of c))) [
        | inl coded ↦ cut-byte (characters_from false) (characters_from false) c c bytes
            (λ x. if-false (is_quote c) _ _ other ∙ if-true (is_some (code_of c)) _ _ coded) (cut-characters false bytes)
        | inr none ↦ inl (if-false (is_quote c) _ _ other ∙ if-false (is_some (code_of c)) _ _ none)
      ]
    ]
cut-characters true (c ∷ bytes) =
    elim (cases_Bool (is_quote c)) [
      | inl quote ↦ cut-byte (characters_from true) (characters_from false) c c bytes (λ x. if-true (is_quote c) _ _ quote) (cut-characters false bytes)
      | inr other ↦ cut-end (characters_from true) (c ∷ bytes) (if-false (is_quote c) _ _ other) (λ more. refl)
    ]

cut-pair : (o p : Option ℕ) (c d : ℕ) (bytes : List ℕ) → ((x : List ℕ) → digit_pairs (c ∷ d ∷ x) ≡ with_pair o p (digit_pairs x)) → Texts digit_pairs bytes → Texts digit_pairs (c ∷ d ∷ bytes)
cut-pair None p c d bytes step t = inl (step bytes)
cut-pair (Some high) None c d bytes step t = inl (step bytes)
cut-pair (Some high) (Some low) c d bytes step (inl none) = inl (step bytes ∙ ap (with_byte (high * 16 + low)) none)
cut-pair (Some high) (Some low) c d bytes step (inr t) = inr (record {
  said = (high * 16 + low) ∷ t.said;
  rest = t.rest;
  run = c ∷ d ∷ t.run;
  is = step bytes ∙ ap (with_byte (high * 16 + low)) t.is;
  whole = ap (λ x. c ∷ d ∷ x) t.whole;
  again = λ more. step (t.run ++ 32 ∷ more) ∙ ap (with_byte (high * 16 + low)) (t.again more);
})

quote-pairs : (c : ℕ) (x : List ℕ) → is_quote c ≡ true → digit_pairs (c ∷ x) ≡ Some ([], x)
quote-pairs c [] quote = if-true (is_quote c) _ _ quote
quote-pairs c (d ∷ x) quote = if-true (is_quote c) _ _ quote

cut-pairs : (bytes : List ℕ) → Texts digit_pairs bytes
cut-pairs [] = inl refl
cut-pairs (c ∷ []) =
    elim (cases_Bool (is_quote c)) [
      | inl quote ↦ cut-last digit_pairs c [] (λ x. quote-pairs c x quote)
      | inr other ↦ inl (if-false (is_quote c) _ _ other)
    ]
cut-pairs (c ∷ d ∷ bytes) =
    elim (cases_Bool (is_quote c)) [
      | inl quote ↦ cut-last digit_pairs c (d ∷ bytes) (λ x. quote-pairs c x quote)
      | inr other ↦ cut-pair (hex_value c) (hex_value d) c d bytes (λ x. if-false (is_quote c) _ _ other) (cut-pairs bytes)
    ]

cut-text : (notation : Notation) (bytes : List ℕ) → Texts (text_in notation) bytes
cut-text Quoted bytes = cut-characters false bytes
cut-text Hexadecimal bytes = cut-pairs bytes

-- the token in front of bytes is the same with a blank behind it
pub record CutToken (bytes : List ℕ) : Type 0 where
  pub token : Token
  pub rest : List ℕ
  pub run : List ℕ
  pub is : token_at bytes ≡ (token, rest)
  pub whole : bytes ≡ run ++ rest
  pub again : (more : List ℕ) → token_at (run ++ 32 ∷ more) ≡ (token, 32 ∷ more)

-- the token in front of bytes is broken, or the same with a blank behind it
abbrev pub Cut : List ℕ → Type 0
Cut bytes = ((fault : LineFault) × (token_at bytes ≡ (broken fault, []))) ⊎ CutToken bytes

cut-literal : (notation : Notation) (front bytes : List ℕ) → ((x : List ℕ) → token_at (front ++ x) ≡ as_literal notation (text_in notation x)) → Cut (front ++ bytes)
cut-literal notation front bytes step =
    elim (cut-text notation bytes) [
      | inl none ↦ inl (BadLiteral, step bytes ∙ ap (as_literal notation) none)
      | inr t ↦ inr (record {
        token = literal notation t.said;
        rest = t.rest;
        run = front ++ t.run;
        is = step bytes ∙ ap (as_literal notation) t.is;
        whole = ap (λ x. front ++ x) t.whole ∙ sym (append_assoc front t.run t.rest);
        again = λ more. ap token_at (append_assoc front t.run (32 ∷ more)) ∙ step (t.run ++ 32 ∷ more) ∙ ap (as_literal notation) (t.again more);
      })
    ]

-- ---- runs

passes-more : (p : ℕ → Bool) (c : ℕ) (bytes : List ℕ) (b : Bool) → p c ≡ b → list_all p (take (prefix_len p bytes) bytes) ≡ true
    → list_all p (take (cond b (1 + prefix_len p bytes) 0) (c ∷ bytes)) ≡ true
passes-more p c bytes false e all = refl
passes-more p c bytes true e all =
    let one : 1 + prefix_len p bytes ≡ suc (prefix_len p bytes) = omega arith in
    ap (λ n. list_all p (take n (c ∷ bytes))) one ∙ ap (λ b. b && list_all p (take (prefix_len p bytes) bytes)) e ∙ all

passes : (p : ℕ → Bool) (bytes : List ℕ) → list_all p (take (prefix_len p bytes) bytes) ≡ true
passes p [] = refl
passes p (c ∷ bytes) = passes-more p c bytes (p c) refl (passes p bytes)

run-count : (p : ℕ → Bool) (c : ℕ) (bytes : List ℕ) → p c ≡ true → prefix_len p (c ∷ bytes) ≡ suc (prefix_len p bytes)
run-count p c bytes e = ap (λ b. cond b (1 + prefix_len p bytes) 0) e ∙ omega arith

no_quote-word_byte : (c : ℕ) → is_word_byte c ≡ true → is_quote c ≡ false
no_quote-word_byte c e = grind (arith, nat_tests)

word_byte-letter : (c : ℕ) → is_letter c ≡ true → is_word_byte c ≡ true
word_byte-letter c e = grind (arith, nat_tests)

behind_x-run : (c : ℕ) (run more : List ℕ) → list_all is_word_byte run ≡ true → behind_x (c ∷ (run ++ 32 ∷ more)) ≡ None
behind_x-run c [] more all = behind_x-no_quote c 32 more refl
behind_x-run c (d ∷ run) more all = behind_x-no_quote c d (run ++ 32 ∷ more) (no_quote-word_byte d (both_true (is_word_byte d) (list_all is_word_byte run) all).0)

-- a token that begins no hexadecimal literal
plain : (c : ℕ) (bytes : List ℕ) → behind_x (c ∷ bytes) ≡ None → token_at (c ∷ bytes) ≡ plain_at c bytes
plain c bytes none = ap (λ x. hexadecimal_or x (plain_at c bytes)) none

cut-word : (c : ℕ) (bytes : List ℕ) → is_letter c ≡ true → behind_x (c ∷ bytes) ≡ None → Cut (c ∷ bytes)
cut-word c bytes letter none =
    let k = prefix_len is_word_byte bytes in
    let run = take k bytes in
    let all = passes is_word_byte bytes in
    let inner : is_word_byte c ≡ true = word_byte-letter c letter in
    let whole_run : list_all is_word_byte (c ∷ run) ≡ true = ap (λ b. b && list_all is_word_byte run) inner ∙ all in
    inr (record {
      token = word (map capital (c ∷ run));
      rest = drop k bytes;
      run = c ∷ run;
      is = plain c bytes none ∙ if-true (is_letter c) _ _ letter
          ∙ ap (λ n. (word (map capital (take n (c ∷ bytes))), drop n (c ∷ bytes))) (run-count is_word_byte c bytes inner);
      whole = ap (λ x. c ∷ x) (sym (take-append-drop k bytes));
      again = λ more.
          plain c (run ++ 32 ∷ more) (behind_x-run c run more all) ∙ if-true (is_letter c) _ _ letter
          ∙ ap (λ n. (word (map capital (take n (c ∷ run ++ 32 ∷ more))), drop n (c ∷ run ++ 32 ∷ more))) (prefix_len-all is_word_byte no_word_byte-gap (c ∷ run) (32 ∷ more) whole_run refl)
          ∙ ap (λ w. (word (map capital w), drop (length (c ∷ run)) ((c ∷ run) ++ 32 ∷ more))) (take-append_seam (c ∷ run) (32 ∷ more))
          ∙ ap (λ behind. (word (map capital (c ∷ run)), behind)) (drop-append_seam (c ∷ run) (32 ∷ more));
    })

cut-number : (c : ℕ) (bytes : List ℕ) → is_digit c ≡ true → Cut (c ∷ bytes)
cut-number c bytes digit =
    let k = prefix_len is_digit bytes in
    let run = take k bytes in
    let all : list_all is_digit (c ∷ run) ≡ true = ap (λ b. b && list_all is_digit run) digit ∙ passes is_digit bytes in
    let value = value_of (c ∷ run) in
    let front : (x : List ℕ) → token_at (c ∷ x) ≡ number_at (c ∷ x) =
    λ x. plain c x (behind_x-other c x (no_x-digit c digit)) ∙ if-false (is_letter c) _ _ (no_letter-digit c digit) ∙ if-true (is_digit c) _ _ digit in
    let is : token_at (c ∷ bytes) ≡ as_number value (drop k bytes) =
    front bytes ∙ ap (λ n. as_number (value_of (take n (c ∷ bytes))) (drop n (c ∷ bytes))) (run-count is_digit c bytes digit) in
    let again : (more : List ℕ) → token_at ((c ∷ run) ++ 32 ∷ more) ≡ as_number value (32 ∷ more) = λ more.
    front (run ++ 32 ∷ more)
    ∙ ap (λ n. as_number (value_of (take n ((c ∷ run) ++ 32 ∷ more))) (drop n ((c ∷ run) ++ 32 ∷ more))) (prefix_len-all is_digit no_digit-gap (c ∷ run) (32 ∷ more) all refl)
    ∙ ap (λ ds. as_number (value_of ds) (drop (length (c ∷ run)) ((c ∷ run) ++ 32 ∷ more))) (take-append_seam (c ∷ run) (32 ∷ more))
    ∙ ap (as_number value) (drop-append_seam (c ∷ run) (32 ∷ more)) in
    elim (cases_Bool (nat_lt value (2 ^ 64))) [
      | inl fits ↦ inr (record {
        token = number value;
        rest = drop k bytes;
        run = c ∷ run;
        is = is ∙ if-true (nat_lt value (2 ^ 64)) _ _ fits;
        whole = ap (λ x. c ∷ x) (sym (take-append-drop k bytes));
        again = λ more. again more ∙ if-true (nat_lt value (2 ^ 64)) _ _ fits;
      })
      | inr over ↦ inl (BadNumber, is ∙ if-false (nat_lt value (2 ^ 64)) _ _ over)
    ]

-- ---- signs

no_letter-sign : (c : ℕ) → is_quote c ≡ true → is_letter c ≡ false
no_letter-sign c e = grind (arith, nat_tests)

no_digit-sign : (c : ℕ) → is_quote c ≡ true → is_digit c ≡ false
no_digit-sign c e = grind (arith, nat_tests)

no_x-quote : (c : ℕ) → is_quote c ≡ true → (capital c == 88) ≡ false
no_x-quote c e = grind (arith, nat_tests)

cut-quoted : (c : ℕ) (bytes : List ℕ) → is_quote c ≡ true → Cut (c ∷ bytes)
cut-quoted c bytes quote =
    cut-literal Quoted (c ∷ []) bytes
    (λ x. plain c x (behind_x-other c x (no_x-quote c quote)) ∙ if-false (is_letter c) _ _ (no_letter-sign c quote)
    ∙ if-false (is_digit c) _ _ (no_digit-sign c quote) ∙ if-true (is_quote c) _ _ quote)

-- a parenthesis
cut-sign : (token : Token) (c : ℕ) (bytes : List ℕ) → ((x : List ℕ) → token_at (c ∷ x) ≡ (token, x)) → Cut (c ∷ bytes)
cut-sign token c bytes step = inr (record { token = token; rest = bytes; run = c ∷ []; is = step bytes; whole = refl; again = λ more. step (32 ∷ more) })

cut-opening : (bytes : List ℕ) → Cut (40 ∷ bytes)
cut-opening bytes = cut-sign opening 40 bytes (λ x. plain 40 x (behind_x-other 40 x refl))

cut-closing : (bytes : List ℕ) → Cut (41 ∷ bytes)
cut-closing bytes = cut-sign closing 41 bytes (λ x. plain 41 x (behind_x-other 41 x refl))

same-byte : (c d : ℕ) → (c == d) ≡ true → d ≡ c
same-byte c d e = grind (arith, nat_tests)

cut-plain : (c : ℕ) (bytes : List ℕ) → behind_x (c ∷ bytes) ≡ None → Cut (c ∷ bytes)
cut-plain c bytes none =
    elim (cases_Bool (is_letter c)) [
      | inl letter ↦ cut-word c bytes letter none
      | inr no_letter ↦ elim (cases_Bool (is_digit c)) [
        | inl digit ↦ cut-number c bytes digit
        | inr no_digit ↦ elim (cases_Bool (is_quote c)) [
          | inl quote ↦ cut-quoted c bytes quote
          | inr no_quote ↦ elim (cases_Bool (c == 40)) [
            | inl here ↦ subst (λ d. Cut (d ∷ bytes)) (same-byte c 40 here) (cut-opening bytes)
            | inr past ↦ elim (cases_Bool (c == 41)) [
              | inl here ↦ subst (λ d. Cut (d ∷ bytes)) (same-byte c 41 here) (cut-closing bytes)
              | inr no_sign ↦ inl (
                UnknownWord,
                plain c bytes none ∙ if-false (is_letter c) _ _ no_letter ∙ if-false (is_digit c) _ _ no_digit
                    ∙ if-false (is_quote c) _ _ no_quote ∙ if-false (c == 40) _ _ past ∙ if-false (c == 41) _ _ no_sign,
              )
            ]
          ]
        ]
      ]
    ]

pub cut : (c : ℕ) (bytes : List ℕ) → Cut (c ∷ bytes)
cut c [] = cut-plain c [] refl
cut c (d ∷ bytes) =
    elim (cases_Bool ((capital c == 88) && is_quote d)) [
      | inl here ↦ cut-literal Hexadecimal (c ∷ d ∷ []) bytes (λ x. ap (λ b. hexadecimal_or (if b then Some x else None) (plain_at c (d ∷ x))) here)
      | inr other ↦ cut-plain c (d ∷ bytes) (if-false ((capital c == 88) && is_quote d) _ _ other)
    ]

-- ---- tokens of a line

no_blank-more : (b : ℕ) (bytes rest : List ℕ) (c : ℕ) (t : Bool) → is_blank b ≡ t → (after_blanks bytes ≡ c ∷ rest → is_blank c ≡ false)
    → drop (cond t (1 + prefix_len is_blank bytes) 0) (b ∷ bytes) ≡ c ∷ rest → is_blank c ≡ false
no_blank-more b bytes rest c true blank others e =
    let count : suc (prefix_len is_blank bytes) ≡ 1 + prefix_len is_blank bytes = omega arith in
    others (ap (λ n. drop n (b ∷ bytes)) count ∙ e)
no_blank-more b bytes rest c false none others e =
    let first : c ≡ b = cc in
    ap is_blank first ∙ none

-- behind the blanks in front stands no blank
pub no_blank-behind : (bytes rest : List ℕ) (c : ℕ) → after_blanks bytes ≡ c ∷ rest → is_blank c ≡ false
no_blank-behind [] rest c e = cc
no_blank-behind (b ∷ bytes) rest c e = no_blank-more b bytes rest c (is_blank b) refl (no_blank-behind bytes rest c) e

-- ---- a token that was read

cut-of : (bytes rest : List ℕ) (token : Token) → 0 < length bytes → token_at bytes ≡ (token, rest) → ((fault : LineFault) → token ≡ broken fault → ⊥)
    → (run : List ℕ) × (bytes ≡ run ++ rest) × ((more : List ℕ) → token_at (run ++ 32 ∷ more) ≡ (token, 32 ∷ more))
cut-of [] rest token some at whole = absurd (omega (arith, some))
cut-of (c ∷ bytes) rest token some at whole =
    elim (cut c bytes) [
      | inl b ↦ absurd (whole b.0 (ap (λ t. t.0) (sym at ∙ b.1)))
      | inr t ↦ (
        t.run,
        t.whole ∙ ap (λ r. t.run ++ r) (ap (λ t. t.1) (sym t.is ∙ at)),
        λ more. t.again more ∙ ap (λ k. (k, 32 ∷ more)) (ap (λ t. t.0) (sym t.is ∙ at)),
      )
    ]

pub cut-within : (bytes rest : List ℕ) (token : Token) → 0 < length bytes → token_at bytes ≡ (token, rest) → ((fault : LineFault) → token ≡ broken fault → ⊥) → length rest ≤ length bytes
cut-within bytes rest token some at whole =
    let found = cut-of bytes rest token some at whole in
    omega (arith, ap length found.1, length-append found.0 rest)

pub cut-off : (bytes rest front back : List ℕ) (token : Token) → 0 < length bytes → token_at bytes ≡ (token, rest) → ((fault : LineFault) → token ≡ broken fault → ⊥)
    → front ≡ take (length bytes - length rest) bytes → back ≡ drop (length bytes - length rest) bytes
    → (token : Token) × (token_at bytes ≡ (token, back)) × (bytes ≡ front ++ back) × ((more : List ℕ) → token_at (front ++ 32 ∷ more) ≡ (token, 32 ∷ more))
cut-off bytes rest front back token some at whole is_front is_back =
    let found = cut-of bytes rest token some at whole in
    let run = found.0 in
    let count : length bytes - length rest ≡ length run = omega (arith, ap length found.1, length-append run rest) in
    let here : front ≡ run = is_front ∙ ap (λ n. take n bytes) count ∙ ap (take (length run)) found.1 ∙ take-append_seam run rest in
    let there : back ≡ rest = is_back ∙ ap (λ n. drop n bytes) count ∙ ap (drop (length run)) found.1 ∙ drop-append_seam run rest in (
      token,
      at ∙ ap (λ r. (token, r)) (sym there),
      found.1 ∙ ap (λ r. run ++ r) (sym there) ∙ ap (λ f. f ++ back) (sym here),
      λ more. ap (λ f. token_at (f ++ 32 ∷ more)) here ∙ found.2 more,
    )

-- a token that was read is not broken
pub unbroken : (t : made.Token) (fault : LineFault) → view t ≡ broken fault → ⊥
unbroken (made_token.Word w) fault e = cc
unbroken (made_token.Number n) fault e = cc
unbroken (made_token.Literal l) fault e = cc
unbroken made_token.Opening fault e = cc
unbroken made_token.Closing fault e = cc
