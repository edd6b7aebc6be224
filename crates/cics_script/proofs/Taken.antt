-- Copying a literal that takes a known number of bytes, one character or two digits at a time.
use Rattle.std.proofs.Common.{◌≡◌, ◌<◌, ◌≤◌, ℕ, suc, Bool, true, false, List, [], ◌∷◌, ◌++◌, ◌+◌, ◌-◌, ◌*◌, ◌/◌, length, take, drop, refl, ap, sym, ◌∙◌, arith, Option, Some, None, append-nil, get_or, set, subst, length-drop, length-append, inl, inr}
use Rattle.std.specs.Prelude.{option_map, is_some, not, cond, ◌&&◌, nat_le, MatchOption}
use Rattle.std.specs.Int.{from_bool}
use Rattle.std.specs.List.{list_all}
use Rattle.std.specs.Char.{is_ascii_hexdigit}
use Rattle.std.proofs.lemmas.Bool.{cases_Bool, and_parts}
use Rattle.std.proofs.lemmas.List.{take-set, get_or-drop, drop-drop, take-append-drop}
use Rattle.std.proofs.Math.Seq.{drop-cons}
use Rattle.std.proofs.lemmas.Grind.{take-set_at}
use Rattle.cics_names.specs.Ebcdic.{code_of}
use Rattle.cics_script.specs.declared.literals.Encoding.{Encoding}
use Rattle.cics_script.specs.declared.literals.Notation.{Notation}
use Rattle.cics_script.specs.declared.literals.Notation.TheVariants.{Quoted, Hexadecimal}
use Rattle.cics_script.specs.Tokens.{Text, with_byte, with_pair, characters_from, digit_pairs, hex_value, is_digit, is_quote, text_in}
use Rattle.cics_script.specs.Literals.{said, encoded, encoded_text, Takes}
use Rattle.cics_script.proofs.Tables.{eqb-eq}
use Rattle.cics_script.proofs.Copies.{with_front, coded, copied-more, copied-all, rest-with_byte, rest-with_front}

-- what follows a text
abbrev pub behind : Text → Option (List ℕ)
behind t = option_map (λ t. t.1) t

-- a text whose rest is known
all-said : (t : Text) (rest : List ℕ) → behind t ≡ Some rest → said t ≡ [] → t ≡ Some ([], rest)
all-said None rest e none = cc
all-said (Some t) rest e none = let same : t.1 ≡ rest = cc in ap (λ p. Some p) (ap (λ x. (x, t.1)) none ∙ ap (λ y. ([], y)) same)

some-size : (xs ys : List ℕ) → Some xs ≡ Some ys → length xs ≡ length ys
some-size xs ys e = let same : xs ≡ ys = cc in ap length same

-- the rest of a text, if it is known how long it is
record IsEnd (t : Text) (n all : ℕ) : Type 0 where
  rest : List ℕ
  ends : behind t ≡ Some rest
  size : n + length rest ≡ all

end-of : (t : Text) (n all : ℕ) → option_map (λ t. n + length t.1) t ≡ Some all → IsEnd t n all
end-of None n all e = cc
end-of (Some t) n all e = record { rest = t.1; ends = refl; size = cc }

-- what follows the rest of a literal follows the literal
coded-behind : (encoding : Encoding) (t : Text) → behind (coded encoding t) ≡ behind t
coded-behind encoding None = refl
coded-behind encoding (Some t) = refl

still-left : (encoding : Encoding) (front rest : List ℕ) (whole here : Text) → with_front front (coded encoding here) ≡ coded encoding whole
    → behind whole ≡ Some rest → behind here ≡ Some rest
still-left encoding front rest whole here so_far left =
    sym (rest-with_front front (coded encoding here) ∙ coded-behind encoding here) ∙ ap behind so_far ∙ coded-behind encoding whole ∙ left

-- what is copied if nothing is left to say
copied-end : (encoding : Encoding) (front rest : List ℕ) (whole here : Text) → with_front front (coded encoding here) ≡ coded encoding whole
    → behind here ≡ Some rest → said here ≡ [] → front ≡ encoded_text encoding (said whole)
copied-end encoding front rest whole here so_far left none =
    sym (append-nil front) ∙ copied-all encoding front rest whole here so_far (all-said here rest left none)

-- characters take a byte at least, or none behind a quote
abbrev least : Bool → ℕ
least false = 1
least true = 0

characters-take : (odd : Bool) (bytes rest : List ℕ) → behind (characters_from odd bytes) ≡ Some rest → least odd + length rest ≤ length bytes
characters-take false [] rest e = cc
characters-take true [] rest e = let size = some-size [] rest e in omega (arith, size)
characters-take false (c ∷ bytes) rest e =
    elim (cases_Bool (is_quote c)) [
      | inl quote ↦ let on = characters-take true bytes rest (rw quote at e) in omega (arith, on)
      | inr other ↦
          elim (cases_Bool (is_some (code_of c))) [
            | inl code ↦ let on = characters-take false bytes rest (sym (rest-with_byte c (characters_from false bytes)) ∙ rw (other, code) at e) in omega (arith, on)
            | inr none ↦ let wrong : None ≡ Some rest = rw (other, none) at e in cc
          ]
    ]
characters-take true (c ∷ bytes) rest e =
    elim (cases_Bool (is_quote c)) [
      | inl quote ↦ let on = characters-take false bytes rest (sym (rest-with_byte c (characters_from false bytes)) ∙ rw quote at e) in omega (arith, on)
      | inr other ↦ let size = some-size (c ∷ bytes) rest (rw other at e) in omega (arith, size)
    ]

-- one character further
characters-step : (encoding : Encoding) (front : List ℕ) (odd : Bool) (c : ℕ) (bytes rest : List ℕ) (whole : Text)
    → with_front front (coded encoding (characters_from odd (c ∷ bytes))) ≡ whole
    → behind (characters_from odd (c ∷ bytes)) ≡ Some rest → length rest ≤ length bytes
    → with_front (front ++ cond (is_quote c && not odd) [] (encoded encoding c ∷ [])) (coded encoding (characters_from (is_quote c && not odd) bytes)) ≡ whole
characters-step encoding front false c bytes rest whole so_far left short =
    elim (cases_Bool (is_quote c)) [
      | inl quote ↦ rw (quote, append-nil) (rw quote at so_far)
      | inr other ↦
          elim (cases_Bool (is_some (code_of c))) [
            | inl code ↦ rw other (copied-more encoding front c whole (characters_from false (c ∷ bytes)) (characters_from false bytes) so_far (rw (other, code) refl))
            | inr none ↦ let wrong : None ≡ Some rest = rw (other, none) at left in cc
          ]
    ]
characters-step encoding front true c bytes rest whole so_far left short =
    elim (cases_Bool (is_quote c)) [
      | inl quote ↦ rw quote (copied-more encoding front c whole (characters_from true (c ∷ bytes)) (characters_from false bytes) so_far (rw quote refl))
      | inr other ↦ let size = some-size (c ∷ bytes) rest (rw other at left) in absurd (omega (arith, size, short))
    ]

-- at the end of the literal nothing more is said
characters-end : (odd : Bool) (bytes rest : List ℕ) → behind (characters_from odd bytes) ≡ Some rest → length rest ≡ length bytes → said (characters_from odd bytes) ≡ []
characters-end false bytes rest left size = let short = characters-take false bytes rest left in absurd (omega (arith, short, size))
characters-end true [] rest left size = refl
characters-end true (c ∷ bytes) rest left size =
    elim (cases_Bool (is_quote c)) [
      | inl quote ↦ let short = characters-take false bytes rest (sym (rest-with_byte c (characters_from false bytes)) ∙ rw quote at left) in absurd (omega (arith, short, size))
      | inr other ↦ rw other refl
    ]

-- a byte is written over a text, and counted unless it is the first of two quotes
put-one : (text : List ℕ) (count more value : ℕ) (is_first : Bool) → count < length text → more ≡ from_bool (not is_first)
    → take (count + more) (set text count value) ≡ take count text ++ cond is_first [] (value ∷ [])
put-one text count more value true short e = let none : count + more ≡ count = omega (arith, e) in rw none (take-set text count value ∙ sym (append-nil _))
put-one text count more value false short e = take-set_at text count (count + more) value (omega (arith, e)) short

pub one-at-most : (more : ℕ) (is_first : Bool) → more ≡ from_bool (not is_first) → more ≤ 1
one-at-most more true e = omega (arith, e)
one-at-most more false e = omega (arith, e)

pub put-character : (encoding : Encoding) (text bytes : List ℕ) (n count i more value : ℕ) (odd first : Bool)
    → Takes Quoted bytes n → length text ≡ n → count ≤ i → i < n
    → first ≡ (is_quote (get_or bytes i 0) && not odd) → value ≡ encoded encoding (get_or bytes i 0) → more ≡ from_bool (not first)
    → with_front (take count text) (coded encoding (characters_from odd (drop i bytes))) ≡ coded encoding (characters_from false bytes)
    → with_front (take (count + more) (set text count value)) (coded encoding (characters_from first (drop (i + 1) bytes))) ≡ coded encoding (characters_from false bytes)
put-character encoding text bytes n count i more value odd first takes size within below state put counted so_far =
    let end = end-of (characters_from false bytes) n (length bytes) takes.ends in
    let byte = get_or bytes i 0 in
    let next : suc i ≡ i + 1 = omega arith in
    let fits : i < length bytes = omega (arith, below, end.size) in
    let here : drop i bytes ≡ byte ∷ drop (i + 1) bytes = drop-cons bytes i 0 fits ∙ ap (λ k. byte ∷ drop k bytes) next in
    let next_size : length (drop (i + 1) bytes) ≡ length bytes - (i + 1) = length-drop (i + 1) bytes in
    let short : length end.rest ≤ length (drop (i + 1) bytes) = omega (arith, next_size, below, end.size) in
    let room : count < length text = omega (arith, size, within, below) in
    let left = still-left encoding (take count text) end.rest (characters_from false bytes) (characters_from odd (drop i bytes)) so_far end.ends in
    rw (put-one text count more value first room counted, state, put)
    (characters-step encoding (take count text) odd byte (drop (i + 1) bytes) end.rest _ (rw here at so_far) (rw here at left) short)

pub characters-put : (encoding : Encoding) (front bytes : List ℕ) (n i : ℕ) (odd : Bool) → Takes Quoted bytes n → i ≡ n
    → with_front front (coded encoding (characters_from odd (drop i bytes))) ≡ coded encoding (characters_from false bytes)
    → front ≡ encoded_text encoding (said (characters_from false bytes))
characters-put encoding front bytes n i odd takes at so_far =
    let end = end-of (characters_from false bytes) n (length bytes) takes.ends in
    let size : length (drop i bytes) ≡ length bytes - i = length-drop i bytes in
    let left = still-left encoding front end.rest (characters_from false bytes) (characters_from odd (drop i bytes)) so_far end.ends in
    copied-end encoding front end.rest _ _ so_far left (characters-end odd (drop i bytes) end.rest left (omega (arith, size, at, end.size)))

-- if two digits, or what stands for them, begin a text, what follows the text is the same
pair-left : (high low : Option ℕ) (t : Text) (rest : List ℕ) → behind (with_pair high low t) ≡ Some rest → behind t ≡ Some rest
pair-left None low t rest e = cc
pair-left (Some high) None t rest e = cc
pair-left (Some high) (Some low) t rest e = sym (rest-with_byte (high * 16 + low) t) ∙ e

-- a hexadecimal literal takes pairs, and the quote
digits-take : (bytes rest : List ℕ) → behind (digit_pairs bytes) ≡ Some rest → (pairs : ℕ) × (length bytes ≡ 2 * pairs + 1 + length rest)
digits-take [] rest e = cc
digits-take (c ∷ []) rest e =
    elim (cases_Bool (is_quote c)) [
      | inl quote ↦ let size = some-size [] rest (rw quote at e) in (0, omega (arith, size))
      | inr other ↦ let wrong : None ≡ Some rest = rw other at e in cc
    ]
digits-take (c ∷ d ∷ bytes) rest e =
    elim (cases_Bool (is_quote c)) [
      | inl quote ↦ let size = some-size (d ∷ bytes) rest (rw quote at e) in (0, omega (arith, size))
      | inr other ↦ let on = digits-take bytes rest (pair-left (hex_value c) (hex_value d) (digit_pairs bytes) rest (rw other at e)) in (suc on.0, two-more on.0 (length bytes) (length rest) on.1)
    ]
  where
    two-more : (pairs n k : ℕ) → n ≡ 2 * pairs + 1 + k → suc (suc n) ≡ 2 * suc pairs + 1 + k
    two-more pairs n k e = omega (arith, e)

-- the value read for a byte: that of the digit, or at least 16
abbrev pub IsRead : ℕ → ℕ → Type 0
IsRead c value = MatchOption (hex_value c) (16 ≤ value) (λ v. (value ≡ v) × (v < 16))

-- bytes that begin with two digits of these values
pub record IsPair (bytes : List ℕ) (high low : ℕ) : Type 0 where
  pub first : high < 16
  pub second : low < 16
  pub read : digit_pairs bytes ≡ with_byte (high * 16 + low) (digit_pairs (drop 2 bytes))

pair-of : (bytes rest : List ℕ) (c d high low : ℕ) (h l : Option ℕ) → is_quote c ≡ false → hex_value c ≡ h → hex_value d ≡ l
    → IsRead c high → IsRead d low → behind (with_pair h l (digit_pairs bytes)) ≡ Some rest → IsPair (c ∷ d ∷ bytes) high low
pair-of bytes rest c d high low None l other first second one two e = cc
pair-of bytes rest c d high low (Some h) None other first second one two e = cc
pair-of bytes rest c d high low (Some h) (Some l) other first second one two e =
    let upper : (high ≡ h) × (h < 16) = rw first at one in
    let lower : (low ≡ l) × (l < 16) = rw second at two in
    record {
      first = subst (λ v. v < 16) (sym upper.0) upper.1;
      second = subst (λ v. v < 16) (sym lower.0) lower.1;
      read = rw (upper.0, lower.0, other, first, second) refl;
    }

digits-pair : (bytes rest : List ℕ) (high low : ℕ) → IsRead (get_or bytes 0 0) high → IsRead (get_or bytes 1 0) low
    → behind (digit_pairs bytes) ≡ Some rest → length rest + 1 < length bytes → IsPair bytes high low
digits-pair [] rest high low one two e short = absurd (omega (arith, short))
digits-pair (c ∷ []) rest high low one two e short = absurd (omega (arith, short))
digits-pair (c ∷ d ∷ bytes) rest high low one two e short =
    elim (cases_Bool (is_quote c)) [
      | inl quote ↦ let size = some-size (d ∷ bytes) rest (rw quote at e) in absurd (omega (arith, size, short))
      | inr other ↦ pair-of bytes rest c d high low (hex_value c) (hex_value d) other refl refl one two (rw other at e)
    ]

-- at the quote nothing more is said
digits-end : (bytes rest : List ℕ) → behind (digit_pairs bytes) ≡ Some rest → length rest + 1 ≡ length bytes → said (digit_pairs bytes) ≡ []
digits-end [] rest left size = refl
digits-end (c ∷ []) rest left size =
    elim (cases_Bool (is_quote c)) [
      | inl quote ↦ rw quote refl
      | inr other ↦ rw other refl
    ]
digits-end (c ∷ d ∷ bytes) rest left size =
    elim (cases_Bool (is_quote c)) [
      | inl quote ↦ rw quote refl
      | inr other ↦
          let on = (digits-take bytes rest (pair-left (hex_value c) (hex_value d) (digit_pairs bytes) rest (rw other at left))).1 in
          absurd (omega (arith, on, size))
    ]

-- two digits further, over a text
pub pair-here : (encoding : Encoding) (front digits : List ℕ) (n i high low : ℕ) → Takes Hexadecimal digits (2 * n + 1) → i < n
    → IsRead (get_or digits (2 * i) 0) high → IsRead (get_or digits (2 * i + 1) 0) low
    → with_front front (coded encoding (digit_pairs (drop (2 * i) digits))) ≡ coded encoding (digit_pairs digits)
    → IsPair (drop (2 * i) digits) high low
pair-here encoding front digits n i high low takes below one two so_far =
    let end = end-of (digit_pairs digits) (2 * n + 1) (length digits) takes.ends in
    let size : length (drop (2 * i) digits) ≡ length digits - 2 * i = length-drop (2 * i) digits in
    let same : 2 * i ≡ 2 * i + 0 = omega arith in
    digits-pair (drop (2 * i) digits) end.rest high low
    (subst (λ c. IsRead c high) (ap (λ k. get_or digits k 0) same ∙ sym (get_or-drop (2 * i) digits 0 0)) one) (subst (λ c. IsRead c low) (sym (get_or-drop (2 * i) digits 1 0)) two)
    (still-left encoding front end.rest (digit_pairs digits) (digit_pairs (drop (2 * i) digits)) so_far end.ends) (omega (arith, size, below, end.size))

pub put-byte : (encoding : Encoding) (text digits : List ℕ) (i high low value : ℕ) → i < length text → IsPair (drop (2 * i) digits) high low
    → value ≡ encoded encoding (high * 16 + low)
    → with_front (take i text) (coded encoding (digit_pairs (drop (2 * i) digits))) ≡ coded encoding (digit_pairs digits)
    → with_front (take (i + 1) (set text i value)) (coded encoding (digit_pairs (drop (2 * (i + 1)) digits))) ≡ coded encoding (digit_pairs digits)
put-byte encoding text digits i high low value room pair put so_far =
    let next : drop (2 * (i + 1)) digits ≡ drop 2 (drop (2 * i) digits) =
    let twice : 2 * (i + 1) ≡ 2 * i + 2 = omega arith in ap (λ k. drop k digits) twice ∙ sym (drop-drop 2 (2 * i) digits) in
    rw (take-set_at text i (i + 1) value refl room, next, put) (copied-more encoding (take i text) (high * 16 + low) _ _ _ so_far pair.read)

pub digits-put : (encoding : Encoding) (front digits : List ℕ) (n i : ℕ) → Takes Hexadecimal digits (2 * n + 1) → i ≡ n
    → with_front front (coded encoding (digit_pairs (drop (2 * i) digits))) ≡ coded encoding (digit_pairs digits)
    → front ≡ encoded_text encoding (said (digit_pairs digits))
digits-put encoding front digits n i takes at so_far =
    let end = end-of (digit_pairs digits) (2 * n + 1) (length digits) takes.ends in
    let size : length (drop (2 * i) digits) ≡ length digits - 2 * i = length-drop (2 * i) digits in
    let left = still-left encoding front end.rest (digit_pairs digits) (digit_pairs (drop (2 * i) digits)) so_far end.ends in
    copied-end encoding front end.rest _ _ so_far left (digits-end (drop (2 * i) digits) end.rest left (omega (arith, size, at, end.size)))

-- a run of digits
digit-value : (c : ℕ) → is_ascii_hexdigit c ≡ true → (v : ℕ) × (hex_value c ≡ Some v) × (is_quote c ≡ false)
digit-value c e =
    let plain : is_quote c ≡ false =
    elim (cases_Bool (is_quote c)) [
      | inl quote ↦ let same : c ≡ 39 = eqb-eq c 39 quote in let wrong : is_ascii_hexdigit 39 ≡ true = subst (λ n. is_ascii_hexdigit n ≡ true) same e in cc
      | inr other ↦ other
    ] in
    elim (cases_Bool (is_digit c)) [
      | inl digit ↦ (c - 48, rw digit refl, plain)
      | inr other ↦
          elim (cases_Bool (nat_le 65 c && nat_le c 70)) [
            | inl capital ↦ (c - 55, rw (other, capital) refl, plain)
            | inr none ↦ let small : (nat_le 97 c && nat_le c 102) ≡ true = rw (other, none) at e in (c - 87, rw (other, none, small) refl, plain)
          ]
    ]

one-less : (n k : ℕ) → suc (suc k) ≡ 2 * n → k ≡ 2 * (n - 1)
one-less n k e = omega (arith, e)

pub digits-run : (n : ℕ) (run rest : List ℕ) → length run ≡ 2 * n → list_all is_ascii_hexdigit run ≡ true
    → behind (digit_pairs rest) ≡ behind (digit_pairs (run ++ rest))
digits-run n [] rest even all = refl
digits-run n (c ∷ []) rest even all = absurd (omega (arith, even))
digits-run n (c ∷ d ∷ run) rest even all =
    let first = digit-value c (and_parts _ _ all).0 in
    let others = and_parts _ _ (and_parts _ _ all).1 in
    let second = digit-value d others.0 in
    digits-run (n - 1) run rest (one-less n (length run) even) others.1
    ∙ sym (rw (first.2, first.1, second.1) (rest-with_byte (first.0 * 16 + second.0) (digit_pairs (run ++ rest))))

pub run-left : (notation : Notation) (bytes run rest : List ℕ) → notation ≡ Hexadecimal → run ≡ take 16 bytes → rest ≡ drop 16 bytes → length rest + 16 ≡ length bytes
    → list_all is_ascii_hexdigit run ≡ true → behind (text_in notation rest) ≡ behind (text_in notation bytes)
run-left Quoted bytes run rest is front back size all = cc
run-left Hexadecimal bytes run rest is front back size all =
    let whole : run ++ rest ≡ bytes = ap (λ x. x ++ rest) front ∙ ap (λ x. take 16 bytes ++ x) back ∙ take-append-drop 16 bytes in
    let sizes : length run + length rest ≡ length bytes = sym (length-append run rest) ∙ ap length whole in
    digits-run 8 run rest (omega (arith, sizes, size)) all ∙ ap (λ b. behind (digit_pairs b)) whole

-- a literal takes the bytes before what follows it
pub takes : (notation : Notation) (bytes rest : List ℕ) → behind (text_in notation bytes) ≡ Some rest → Takes notation bytes (length bytes - length rest)
takes notation bytes rest ends =
    let short = at_least notation bytes rest ends in
    let size : length bytes - length rest + length rest ≡ length bytes = omega (arith, short) in
    record { some = omega (arith, short); within = omega arith; ends = sized _ (text_in notation bytes) rest ends ∙ ap Some size }
  where
    sized : (n : ℕ) (t : Text) (rest : List ℕ) → behind t ≡ Some rest → option_map (λ t. n + length t.1) t ≡ Some (n + length rest)
    sized n None rest e = cc
    sized n (Some t) rest e = let same = some-size t.1 rest e in ap (λ k. Some (n + k)) same

    at_least : (notation : Notation) (bytes rest : List ℕ) → behind (text_in notation bytes) ≡ Some rest → length rest < length bytes
    at_least Quoted bytes rest ends = let short = characters-take false bytes rest ends in omega (arith, short)
    at_least Hexadecimal bytes rest ends = let size = (digits-take bytes rest ends).1 in omega (arith, size)

-- a hexadecimal literal takes an odd number of bytes
pub takes-odd : (notation : Notation) (bytes : List ℕ) (n half : ℕ) → notation ≡ Hexadecimal → Takes notation bytes n → half ≡ n / 2 → Takes Hexadecimal bytes (2 * half + 1)
takes-odd Quoted bytes n half is taken same = cc
takes-odd Hexadecimal bytes n half is taken same =
    let end = end-of (digit_pairs bytes) n (length bytes) taken.ends in
    let size = (digits-take bytes end.rest end.ends).1 in
    let whole : n ≡ 2 * half + 1 = omega (arith, size, end.size, same) in
    subst (λ k. Takes Hexadecimal bytes k) whole taken

-- plain characters are all but the quote
pub plain-size : (bytes front rest : List ℕ) (n : ℕ) → n ≤ length bytes → front ≡ drop n bytes → suc (length rest) ≡ length front → n ≡ length bytes - length rest - 1
plain-size bytes front rest n within back end =
    let size : length front ≡ length bytes - n = ap length back ∙ length-drop n bytes in omega (arith, size, end, within)
