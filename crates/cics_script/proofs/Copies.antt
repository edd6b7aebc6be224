-- Literals, one byte further.
use Rattle.std.proofs.Common.{◌≡◌, ℕ, true, false, List, [], ◌∷◌, ◌++◌, length, take, drop, map, refl, ap, sym, ◌∙◌, Some, None, append_assoc, append-nil, inl, inr}
use Rattle.std.proofs.lemmas.Bool.{cases_Bool}
use Rattle.std.proofs.lemmas.List.{take_at, length-map}
use Rattle.std.proofs.Math.Numerals.{one-add}
use Rattle.std.specs.List.{prefix_len}
use Rattle.std.specs.Prelude.{option_map, is_some}
use Rattle.cics_names.specs.Ebcdic.{code_of}
use Rattle.cics_script.specs.declared.literals.Encoding.{Encoding}
use Rattle.cics_script.specs.declared.literals.Encoding.TheVariants.{AsWritten, Ebcdic}
use Rattle.cics_script.specs.declared.literals.Notation.{Notation}
use Rattle.cics_script.specs.declared.literals.Notation.TheVariants.{Quoted, Hexadecimal}
use Rattle.cics_script.specs.Tokens.{Text, with_byte, characters_from, is_quote, text_in}
use Rattle.cics_script.specs.Literals.{said, encoded, encoded_text, recorded, is_plain}

-- a text with several bytes more at its start; none if there is none
abbrev pub with_front : List ℕ → Text → Text
with_front front None = None
with_front front (Some t) = Some (front ++ t.0, t.1)

-- a text whose bytes are in an encoding; what follows it stays
abbrev pub coded : Encoding → Text → Text
coded encoding None = None
coded encoding (Some t) = Some (encoded_text encoding t.0, t.1)

-- a byte behind the front
with_front-byte : (front : List ℕ) (byte : ℕ) (t : Text) → with_front (front ++ byte ∷ []) t ≡ with_front front (with_byte byte t)
with_front-byte front byte None = refl
with_front-byte front byte (Some t) = ap (λ x. Some (x, t.1)) (append_assoc front (byte ∷ []) t.0)

coded-with_byte : (encoding : Encoding) (byte : ℕ) (t : Text) → coded encoding (with_byte byte t) ≡ with_byte (encoded encoding byte) (coded encoding t)
coded-with_byte encoding byte None = refl
coded-with_byte AsWritten byte (Some t) = refl
coded-with_byte Ebcdic byte (Some t) = refl

-- one byte more of a literal is copied
pub copied-more : (encoding : Encoding) (front : List ℕ) (byte : ℕ) (whole : Text) (here after : Text)
    → with_front front (coded encoding here) ≡ whole → here ≡ with_byte byte after
    → with_front (front ++ encoded encoding byte ∷ []) (coded encoding after) ≡ whole
copied-more encoding front byte whole here after so_far step =
    with_front-byte front (encoded encoding byte) (coded encoding after)
    ∙ ap (with_front front) (sym (coded-with_byte encoding byte after) ∙ ap (coded encoding) (sym step))
    ∙ so_far

-- what was copied at the literal's end
said-coded : (encoding : Encoding) (t : Text) → said (coded encoding t) ≡ encoded_text encoding (said t)
said-coded AsWritten None = refl
said-coded Ebcdic None = refl
said-coded encoding (Some t) = refl

encoded_text-nil : (encoding : Encoding) → encoded_text encoding [] ≡ []
encoded_text-nil AsWritten = refl
encoded_text-nil Ebcdic = refl

pub copied-all : (encoding : Encoding) (front : List ℕ) (rest : List ℕ) (whole here : Text)
    → with_front front (coded encoding here) ≡ coded encoding whole → here ≡ Some ([], rest) → front ++ [] ≡ encoded_text encoding (said whole)
copied-all encoding front rest whole here so_far end =
    ap (λ text. front ++ text) (sym (encoded_text-nil encoding))
    ∙ ap (λ t. said (with_front front (coded encoding t))) (sym end) ∙ ap said so_far ∙ said-coded encoding whole

pub recorded-hexadecimal : (notation : Notation) (bytes : List ℕ) → notation ≡ Hexadecimal → bytes ≡ recorded notation bytes
recorded-hexadecimal Quoted bytes e = cc
recorded-hexadecimal Hexadecimal bytes e = refl

-- what follows a literal, one byte further
pub rest-with_byte : (byte : ℕ) (t : Text) → option_map (λ t. t.1) (with_byte byte t) ≡ option_map (λ t. t.1) t
rest-with_byte byte None = refl
rest-with_byte byte (Some t) = refl

pub rest-more : (byte : ℕ) (whole here after : Text) → option_map (λ t. t.1) here ≡ option_map (λ t. t.1) whole → here ≡ with_byte byte after
    → option_map (λ t. t.1) after ≡ option_map (λ t. t.1) whole
rest-more byte whole here after so_far step = sym (rest-with_byte byte after) ∙ ap (option_map (λ t. t.1)) (sym step) ∙ so_far

-- characters that stand for themselves, in front of a text
pub with_front-nil : (t : Text) → with_front [] t ≡ t
with_front-nil None = refl
with_front-nil (Some t) = refl

with_front-cons : (c : ℕ) (front : List ℕ) (t : Text) → with_front (c ∷ front) t ≡ with_byte c (with_front front t)
with_front-cons c front None = refl
with_front-cons c front (Some t) = refl

characters-plain : (bytes : List ℕ) → characters_from false bytes ≡ with_front (take (prefix_len is_plain bytes) bytes) (characters_from false (drop (prefix_len is_plain bytes) bytes))
characters-plain [] = refl
characters-plain (c ∷ bytes) =
    elim (cases_Bool (is_quote c)) [
      | inl quote ↦ rw (quote, quote) (sym (with_front-nil (characters_from true bytes)))
      | inr other ↦ rw other (
          elim (cases_Bool (is_some (code_of c))) [
            | inl code ↦ rw (code, one-add) (ap (with_byte c) (characters-plain bytes) ∙ sym (with_front-cons c _ _))
            | inr none ↦ rw (none, other, none) refl
          ])
    ]

-- what follows a literal, behind characters that stand for themselves
pub rest-with_front : (front : List ℕ) (t : Text) → option_map (λ t. t.1) (with_front front t) ≡ option_map (λ t. t.1) t
rest-with_front front None = refl
rest-with_front front (Some t) = refl

pub rest-plain : (front : List ℕ) (whole here behind : Text) → option_map (λ t. t.1) here ≡ option_map (λ t. t.1) whole → here ≡ with_front front behind
    → option_map (λ t. t.1) behind ≡ option_map (λ t. t.1) whole
rest-plain front whole here behind so_far step = sym (rest-with_front front behind) ∙ ap (option_map (λ t. t.1)) (sym step) ∙ so_far

-- a literal of such characters alone
pub said-plain : (front rest : List ℕ) (whole behind : Text) → whole ≡ with_front front behind → behind ≡ Some ([], rest) → said whole ≡ front
said-plain front rest whole behind step end = ap said step ∙ ap (λ t. said (with_front front t)) end ∙ append-nil front

-- the characters in front, and the text behind them
pub characters-front : (bytes plain behind : List ℕ) (n : ℕ) → n ≡ prefix_len is_plain bytes → plain ≡ take n bytes → behind ≡ drop n bytes
    → characters_from false bytes ≡ with_front plain (characters_from false behind)
characters-front bytes plain behind n count front rest = rw (front, rest, count) (characters-plain bytes)

-- what follows a literal that ends here, or is none
pub rest-ends : (rest : List ℕ) (whole here : Text) → option_map (λ t. t.1) here ≡ option_map (λ t. t.1) whole → here ≡ Some ([], rest)
    → Some rest ≡ option_map (λ t. t.1) whole
rest-ends rest whole here so_far end = sym (ap (option_map (λ t. t.1)) end) ∙ so_far

pub rest-none : (whole here : Text) → option_map (λ t. t.1) here ≡ option_map (λ t. t.1) whole → here ≡ None → None ≡ option_map (λ t. t.1) whole
rest-none whole here so_far bad = sym (ap (option_map (λ t. t.1)) bad) ∙ so_far

-- some bytes that are read at once
pub run-quoted : (notation : Notation) (bytes plain behind : List ℕ) (n : ℕ) → notation ≡ Quoted → n ≡ prefix_len is_plain bytes → plain ≡ take n bytes → behind ≡ drop n bytes
    → text_in notation bytes ≡ with_front plain (text_in notation behind)
run-quoted Quoted bytes plain behind n is count front rest = characters-front bytes plain behind n count front rest
run-quoted Hexadecimal bytes plain behind n is count front rest = cc

-- and what follows them
pub rest-run : (notation : Notation) (front bytes behind : List ℕ) → text_in notation bytes ≡ with_front front (text_in notation behind)
    → option_map (λ t. t.1) (text_in notation behind) ≡ option_map (λ t. t.1) (text_in notation bytes)
rest-run notation front bytes behind step = sym (rest-with_front front (text_in notation behind)) ∙ ap (option_map (λ t. t.1)) (sym step)

-- all bytes are replaced
pub put-whole : (f : ℕ → ℕ) (bytes items text : List ℕ) (n : ℕ) → items ≡ bytes → text ≡ map f bytes → n ≡ length items
    → take n (text ++ drop (length text) items) ≡ map f bytes
put-whole f bytes items text n here put count =
    let size : length text ≡ length items = ap length put ∙ length-map bytes f ∙ sym (ap length here) in
    ap (λ k. take k (text ++ drop (length text) items)) (count ∙ sym size) ∙ take_at text (drop (length text) items) _ refl ∙ put
