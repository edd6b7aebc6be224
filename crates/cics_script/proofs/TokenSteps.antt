-- Tokens, one further.
use Rattle.std.proofs.Common.{◌≡◌, ℕ, zero, suc, Bool, true, false, ◌==◌, ◌&&◌, ◌+◌, ◌*◌, ◌≤◌, ◌<◌, ◌≢◌, ◌^◌, cond, List, [], ◌∷◌, length, map, take, drop, refl, arith, ap, sym, ◌∙◌, subst, Option, Some, None, inl, inr, length-drop}
use Rattle.std.proofs.lemmas.Bool.{cases_Bool}
use Rattle.std.proofs.lemmas.Bool.Decides.{nat_tests}
use Rattle.std.specs.List.{prefix_len}
use Rattle.std.specs.Prelude.{nat_lt, if◌then◌else◌, IfSome, is_some, option_map, unwrap_or, Result, Ok, Err, IsErrAnd}
use Rattle.std.specs.Result.{result_ok}
use Rattle.std.specs.Borrow.{Bor}
use Rattle.cics_names.specs.Ebcdic.{code_of}
use Rattle.cics_script.specs.declared.faults.LineFault.{LineFault}
use Rattle.cics_script.specs.declared.faults.LineFault.TheVariants.{UnknownWord, BadLiteral}
use Rattle.cics_script.specs.declared.literals.Notation.{Notation}
use Rattle.cics_script.specs.declared.literals.Notation.TheVariants.{Quoted, Hexadecimal}
use Rattle.cics_script.specs.declared.tokens.Token as made
use Rattle.cics_script.specs.Literals.{said}
use Rattle.cics_script.specs.Views.{view, GivesToken, Takes}
use Rattle.cics_script.specs.Tokens.{Text, Token, word, word_at, broken, literal, opening, closing, with_byte, with_pair, characters_from, digit_pairs, text_in, hex_value, as_literal}
use Rattle.cics_script.specs.Tokens.{as_number, number_at, behind_x, hexadecimal_or, plain_at, token_at, tokens_in, tokens, after_blanks, is_blank, is_quote, is_letter, is_digit, is_word_byte, capital}

some-same : {A : Type 0} (x y : A) → Some y ≡ Some x → x ≡ y
some-same x y e = ap (λ o. unwrap_or o y) (sym e)

pub token_at-hexadecimal : (bytes digits : List ℕ) → Some digits ≡ behind_x bytes → token_at bytes ≡ as_literal Hexadecimal (text_in Hexadecimal digits)
token_at-hexadecimal [] digits e = cc
token_at-hexadecimal (c ∷ bytes) digits e = ap (λ x. hexadecimal_or x (plain_at c bytes)) (sym e)

-- a fault that was handed on
pub fault-same : {A : Type 0} (result : Result A LineFault) (fault : LineFault) → IsErrAnd result (λ e. e ≡ fault) → result ≡ Err fault
fault-same (Ok x) fault same = absurd same
fault-same (Err e) fault same = ap Err same

-- a literal as a token, by what follows it
pub as_literal-ends : (notation : Notation) (t : Text) (rest : List ℕ) → Some rest ≡ option_map (λ t. t.1) t → as_literal notation t ≡ (literal notation (said t), rest)
as_literal-ends notation None rest e = cc
as_literal-ends notation (Some t) rest e = ap (λ r. (literal notation t.0, r)) (some-same t.1 rest e)

pub as_literal-broken : (notation : Notation) (t : Text) → None ≡ option_map (λ t. t.1) t → as_literal notation t ≡ (broken BadLiteral, [])
as_literal-broken notation None e = refl
as_literal-broken notation (Some t) e = cc

-- a literal's rest is no longer than the bytes that it was read from
abbrev RestWithin : Text → ℕ → Type 0
RestWithin t n = IfSome t (λ p. length p.1 ≤ n)

byte-within : (t : Text) (byte n m : ℕ) → n ≤ m → RestWithin t n → RestWithin (with_byte byte t) m
byte-within None byte n m h w = tt
byte-within (Some p) byte n m h w = omega (arith, w)

pair-within : (o p : Option ℕ) (t : Text) (n m : ℕ) → n ≤ m → RestWithin t n → RestWithin (with_pair o p t) m
pair-within None p t n m h w = tt
pair-within (Some high) None t n m h w = tt
pair-within (Some high) (Some low) t n m h w = byte-within t (high * 16 + low) n m h w

either-within : (b : Bool) (s t : Text) (n : ℕ) → RestWithin s n → RestWithin t n → RestWithin (cond b s t) n
either-within true s t n v w = v
either-within false s t n v w = w

more-within : (t : Text) (n m : ℕ) → n ≤ m → RestWithin t n → RestWithin t m
more-within None n m h w = tt
more-within (Some p) n m h w = omega (arith, w)

characters-within : (b : Bool) (bytes : List ℕ) → RestWithin (characters_from b bytes) (length bytes)
characters-within false [] = tt
characters-within true [] = omega arith
characters-within false (c ∷ bytes) =
    either-within (is_quote c) _ _ _ (more-within (characters_from true bytes) _ _ (omega arith) (characters-within true bytes))
    (either-within (is_some (code_of c)) _ _ _ (byte-within (characters_from false bytes) c (length bytes) _ (omega arith) (characters-within false bytes)) tt)
characters-within true (c ∷ bytes) =
    either-within (is_quote c) _ _ _ (byte-within (characters_from false bytes) c (length bytes) _ (omega arith) (characters-within false bytes)) (omega arith)

pairs-within : (bytes : List ℕ) → RestWithin (digit_pairs bytes) (length bytes)
pairs-within [] = tt
pairs-within (c ∷ []) = either-within (is_quote c) _ _ _ (omega arith) tt
pairs-within (c ∷ d ∷ bytes) =
    either-within (is_quote c) _ _ _ (omega arith) (pair-within (hex_value c) (hex_value d) (digit_pairs bytes) (length bytes) _ (omega arith) (pairs-within bytes))

text-within : (notation : Notation) (bytes : List ℕ) → RestWithin (text_in notation bytes) (length bytes)
text-within Quoted bytes = characters-within false bytes
text-within Hexadecimal bytes = pairs-within bytes

literal-within : (notation : Notation) (t : Text) (n : ℕ) → RestWithin t n → length (as_literal notation t).1 ≤ n
literal-within notation None n w = omega arith
literal-within notation (Some p) n w = w

-- what begins with a byte of the kind has less behind it
run-within : (k c : ℕ) (bytes : List ℕ) → length (drop (1 + k) (c ∷ bytes)) ≤ length bytes
run-within k c bytes = simp length-drop (omega arith)

number-within : (n : ℕ) (rest : List ℕ) (m : ℕ) → length rest ≤ m → length (as_number n rest).1 ≤ m
number-within n rest m h = elim (cases_Bool (nat_lt n (2 ^ 64))) [ inl fits ↦ rw fits h | inr over ↦ rw over (omega arith) ]

sign-within : (c : ℕ) (bytes : List ℕ) → length (if is_quote c then as_literal Quoted (text_in Quoted bytes) else if c == 40 then (opening, bytes) else if c == 41 then (closing, bytes) else (broken UnknownWord, [])).1 ≤ length bytes
sign-within c bytes =
    elim (cases_Bool (is_quote c)) [
      | inl quote ↦ rw quote (literal-within Quoted (text_in Quoted bytes) (length bytes) (text-within Quoted bytes))
      | inr other ↦ rw other (
          elim (cases_Bool (c == 40)) [
            | inl paren ↦ rw paren (omega arith)
            | inr past ↦ rw past (elim (cases_Bool (c == 41)) [ inl paren ↦ rw paren (omega arith) | inr none ↦ rw none (omega arith) ])
          ])
    ]

plain-within : (c : ℕ) (bytes : List ℕ) → length (plain_at c bytes).1 ≤ length bytes
plain-within c bytes =
    elim (cases_Bool (is_letter c)) [
      | inl letter ↦ rw letter (run-within (prefix_len is_word_byte bytes) c bytes)
      | inr other ↦ rw other (
          elim (cases_Bool (is_digit c)) [
            | inl digit ↦ rw digit (number-within _ _ _ (run-within (prefix_len is_digit bytes) c bytes))
            | inr sign ↦ rw sign (sign-within c bytes)
          ])
    ]

hexadecimal_or-within : (c d : ℕ) (bytes : List ℕ) (other : Token × List ℕ) → length other.1 ≤ suc (length bytes)
    → length (hexadecimal_or (behind_x (c ∷ d ∷ bytes)) other).1 ≤ suc (length bytes)
hexadecimal_or-within c d bytes other h =
    elim (cases_Bool ((capital c == 88) && is_quote d)) [
      | inl here ↦ rw here (omega (arith, literal-within Hexadecimal (text_in Hexadecimal bytes) (length bytes) (text-within Hexadecimal bytes)))
      | inr none ↦ rw none h
    ]

pub token-within : (c : ℕ) (bytes : List ℕ) → length (token_at (c ∷ bytes)).1 ≤ length bytes
token-within c [] = plain-within c []
token-within c (d ∷ bytes) = hexadecimal_or-within c d bytes (plain_at c (d ∷ bytes)) (plain-within c (d ∷ bytes))

pub blanks-within : (bytes : List ℕ) → length (after_blanks bytes) ≤ length bytes
blanks-within bytes = simp length-drop (omega arith)

-- so many tokens or more are all of them
pub enough : (n m : ℕ) (bytes : List ℕ) → length bytes ≤ n → length bytes ≤ m → tokens_in n bytes ≡ tokens_in m bytes
enough zero zero bytes h k = refl
enough zero (suc m) [] h k = refl
enough zero (suc m) (c ∷ bytes) h k = absurd (omega arith)
enough (suc n) zero [] h k = refl
enough (suc n) zero (c ∷ bytes) h k = absurd (omega arith)
enough (suc n) (suc m) [] h k = refl
enough (suc n) (suc m) (c ∷ bytes) h k =
    let t = token_at (c ∷ bytes) in
    let less : length (after_blanks t.1) ≤ length bytes = omega (arith, blanks-within t.1, token-within c bytes) in
    ap (λ ts. t.0 ∷ ts) (enough n m (after_blanks t.1) (omega (arith, h, less)) (omega (arith, k, less)))

tokens-front : (n : ℕ) (front : List ℕ) → length front ≤ n → 0 < length front → tokens_in n front ≡ (token_at front).0 ∷ tokens (token_at front).1
tokens-front n [] h some = absurd (omega arith)
tokens-front zero (c ∷ bytes) h some = absurd (omega arith)
tokens-front (suc n) (c ∷ bytes) h some =
    let t = token_at (c ∷ bytes) in
    ap (λ ts. t.0 ∷ ts) (enough n (length t.1) (after_blanks t.1) (omega (arith, blanks-within t.1, token-within c bytes)) (blanks-within t.1))

-- the first token, and the others
pub tokens-next : (bytes : List ℕ) → 0 < length (after_blanks bytes) → tokens bytes ≡ (token_at (after_blanks bytes)).0 ∷ tokens (token_at (after_blanks bytes)).1
tokens-next bytes some = tokens-front (length bytes) (after_blanks bytes) (blanks-within bytes) some

front-within : (front : List ℕ) → 0 < length front → length (token_at front).1 < length front
front-within [] some = absurd (omega arith)
front-within (c ∷ bytes) some = omega (arith, token-within c bytes)

pub rest-within : (bytes : List ℕ) → 0 < length (after_blanks bytes) → length (token_at (after_blanks bytes)).1 < length bytes
rest-within bytes some = omega (arith, front-within (after_blanks bytes) some, blanks-within bytes)

-- the token that was read first, or the fault
pub taken : (bytes : List ℕ) (token : Token) (rest : List ℕ) → 0 < length (after_blanks bytes) → token_at (after_blanks bytes) ≡ (token, rest)
    → (tokens bytes ≡ token ∷ tokens rest) × (length rest < length bytes)
taken bytes token rest some e =
    (tokens-next bytes some ∙ ap (λ t. t.0 ∷ tokens t.1) e, subst (λ t. length t.1 < length bytes) e (rest-within bytes some))

pub not_taken : (bytes : List ℕ) (fault : LineFault) → 0 < length (after_blanks bytes) → token_at (after_blanks bytes) ≡ (broken fault, []) → tokens bytes ≡ broken fault ∷ []
not_taken bytes fault some e = (taken bytes (broken fault) [] some e).0

-- a word whose first letter is no X
token_at-letter : (c : ℕ) (others : List ℕ) → is_letter c ≡ true → (capital c == 88) ≡ false → token_at (c ∷ others) ≡ word_at (c ∷ others)
token_at-letter c [] letter other = rw letter refl
token_at-letter c (d ∷ others) letter other = rw (other, letter) refl

pub taken_word : (bytes front w rest : List ℕ) (c : ℕ) (others : List ℕ) (n : ℕ) → front ≡ after_blanks bytes → front ≡ c ∷ others
    → is_letter c ≡ true → capital c ≢ 88 → n ≡ prefix_len is_word_byte front → w ≡ take n front → rest ≡ drop n front
    → (tokens bytes ≡ word (map capital w) ∷ tokens rest) × (length rest < length bytes)
taken_word bytes front w rest c others n here is letter no_x count whole behind =
    let other : (capital c == 88) ≡ false = grind (arith, nat_tests, no_x) in
    let read : word_at front ≡ (word (map capital w), rest) = rw (whole, behind, count) refl in
    let some : 0 < length (after_blanks bytes) = rw (sym here ∙ is) (omega arith) in
    taken bytes (word (map capital w)) rest some
    (ap token_at (sym here ∙ is) ∙ token_at-letter c others letter other ∙ ap word_at (sym is) ∙ read)

-- a literal in quotes, with no blank in front
quote-front : (behind : List ℕ) → token_at (39 ∷ behind) ≡ as_literal Quoted (text_in Quoted behind)
quote-front [] = refl
quote-front (d ∷ behind) = refl

taken_quoted : (bytes behind : List ℕ) (c : ℕ) (token : Token) (rest : List ℕ) → bytes ≡ c ∷ behind → is_quote c ≡ true → as_literal Quoted (text_in Quoted behind) ≡ (token, rest)
    → (tokens bytes ≡ token ∷ tokens rest) × (length rest < length bytes)
taken_quoted bytes behind c token rest is quote read =
    let same : c ≡ 39 = grind (arith, nat_tests, quote) in
    let here : bytes ≡ 39 ∷ behind = is ∙ ap (λ q. q ∷ behind) same in
    subst (λ b. (tokens b ≡ token ∷ tokens rest) × (length rest < length b)) (sym here)
    (taken (39 ∷ behind) token rest (omega arith) (quote-front behind ∙ read))

-- a number, with no blank in front
digit-front : (c : ℕ) (others : List ℕ) → is_digit c ≡ true → token_at (c ∷ others) ≡ number_at (c ∷ others)
digit-front c [] digit =
    let letter : is_letter c ≡ false = grind (arith, nat_tests, digit) in
    rw (letter, digit) refl
digit-front c (d ∷ others) digit =
    let letter : is_letter c ≡ false = grind (arith, nat_tests, digit) in
    let no_x : (capital c == 88) ≡ false = grind (arith, nat_tests, digit) in
    rw (no_x, letter, digit) refl

taken_number : (bytes others : List ℕ) (c : ℕ) (token : Token) (rest : List ℕ) → bytes ≡ c ∷ others → is_digit c ≡ true → number_at bytes ≡ (token, rest)
    → (tokens bytes ≡ token ∷ tokens rest) × (length rest < length bytes)
taken_number bytes others c token rest is digit read =
    let blank : is_blank c ≡ false = grind (arith, nat_tests, digit) in
    let front : after_blanks bytes ≡ bytes = rw is (rw blank refl) in
    let some : 0 < length (after_blanks bytes) = rw front (rw is (omega arith)) in
    taken bytes token rest some (ap token_at front ∙ ap token_at is ∙ digit-front c others digit ∙ ap number_at (sym is) ∙ read)

-- a token that was read in this way, if it isn't broken
pub found-quoted : (bytes behind : List ℕ) (c : ℕ) (result : Result (made.Token × Bor (List ℕ)) LineFault) → bytes ≡ c ∷ behind → is_quote c ≡ true
    → GivesToken result (as_literal Quoted (text_in Quoted behind)) → IfSome (result_ok result) (λ found. Takes bytes (Ok (Some found)))
found-quoted bytes behind c (Ok found) is quote gives = taken_quoted bytes behind c (view found.0) found.1.now is quote gives
found-quoted bytes behind c (Err fault) is quote gives = tt

pub found-number : (bytes others : List ℕ) (c : ℕ) (result : Result (made.Token × Bor (List ℕ)) LineFault) → bytes ≡ c ∷ others → is_digit c ≡ true
    → GivesToken result (number_at bytes) → IfSome (result_ok result) (λ found. Takes bytes (Ok (Some found)))
found-number bytes others c (Ok found) is digit gives = taken_number bytes others c (view found.0) found.1.now is digit gives
found-number bytes others c (Err fault) is digit gives = tt
