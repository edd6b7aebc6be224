-- A name that is written in its own characters is read back.
use Rattle.std.proofs.Common.{◌≡◌, ℕ, zero, suc, Bool, true, false, ◌==◌, ◌&&◌, ◌-◌, ◌≤◌, List, [], ◌∷◌, ◌++◌, length, map, replicate, refl, arith, ap, sym, ◌∙◌, subst, inl, inr, Option, Some, None}
use Rattle.std.proofs.lemmas.Bool.{cases_Bool}
use Rattle.std.proofs.lemmas.Bool.Decides.{nat_tests}
use Rattle.std.proofs.lemmas.List.{length-append, length-map, length-replicate}
use Rattle.std.proofs.lemmas.List.Folds.{list_all-append}
use Rattle.std.specs.List.{list_all}
use Rattle.std.specs.Option.{option_and_then}
use Rattle.std.specs.Prelude.{Result, Ok, Err, IfSome, nat_lt, if◌then◌else◌, is_some, option_map, unwrap_or}
use Rattle.cics_names.specs.Ebcdic.{code_of, character_of, codes_of}
use Rattle.cics_names.specs.EbcdicLaws.{IfSome-code_of, code_of-character_of}
use Rattle.cics_names.specs.Names.{blank, filled_up, name_of, name_of_codes}
use Rattle.cics_names.specs.declared.names.NameFault.{NameFault}
use Rattle.cics_names.specs.declared.names.NameFault.TheVariants.{Empty, TooLong, BadCharacter}
use Rattle.cics_script.specs.Spelling.Spelling.{IsName}
use Rattle.cics_script.specs.Texts.{unfilled}
use Rattle.cics_script.proofs.Layouts.{both_true, if-false}

-- the character of a code
abbrev pub character : ℕ → ℕ
character code = unwrap_or (character_of code) 32

-- whether a byte is the code of a character
abbrev pub is_coded : ℕ → Bool
is_coded b = is_some (character_of b)

-- the codes of a text of so many characters, if it has codes
abbrev AreCodes : ℕ → Option (List ℕ) → Type 0
AreCodes n None = Unit {0}
AreCodes n (Some codes) = (list_all is_coded codes ≡ true) × (length codes ≡ n)

coded : (c : ℕ) (code : Option ℕ) → IfSome code (λ b. character_of b ≡ Some c) → IfSome code (λ b. is_coded b ≡ true)
coded c None is = tt
coded c (Some b) is = ap is_some is

codes-more : (n : ℕ) (first : Option ℕ) (others : Option (List ℕ)) → IfSome first (λ b. is_coded b ≡ true) → AreCodes n others
    → AreCodes (suc n) (option_and_then (λ code. option_map (λ codes. code ∷ codes) others) first)
codes-more n None others first_is are = tt
codes-more n (Some code) None first_is are = tt
codes-more n (Some code) (Some codes) first_is are = (rw first_is are.0, ap suc are.1)

codes-are : (said : List ℕ) → AreCodes (length said) (codes_of said)
codes-are [] = (refl, refl)
codes-are (c ∷ said) = codes-more (length said) (code_of c) (codes_of said) (coded c (code_of c) (IfSome-code_of c)) (codes-are said)

-- what makes a name: codes that fit its width, not all of them blank, filled up
record Named (width : ℕ) (name : List ℕ) : Type 0 where
  codes : List ℕ
  are_codes : list_all is_coded codes ≡ true
  fits : length codes ≤ width
  says : list_all (λ b. b == blank) codes ≡ false
  filled : filled_up width codes ≡ name

ok_same : (read : Result (List ℕ) NameFault) (first second : List ℕ) → read ≡ Ok first → read ≡ Ok second → first ≡ second
ok_same read first second e f = cc

named-codes : (width : ℕ) (codes name : List ℕ) (blanks : Bool) → list_all is_coded codes ≡ true → length codes ≤ width
    → list_all (λ b. b == blank) codes ≡ blanks → (if blanks then Err Empty else Ok (filled_up width codes)) ≡ Ok name → Named width name
named-codes width codes name true are fits all e = let wrong : Err Empty ≡ Ok name = e in cc
named-codes width codes name false are fits some e =
    record { codes = codes; are_codes = are; fits = fits; says = some; filled = ok_same (Ok (filled_up width codes)) (filled_up width codes) name refl e }

named-text : (width : ℕ) (said name : List ℕ) (long : Bool) (codes : Option (List ℕ)) → nat_lt width (length said) ≡ long → AreCodes (length said) codes
    → (if long then Err TooLong else name_of_codes width codes) ≡ Ok name → Named width name
named-text width said name true codes too are e = let wrong : Err TooLong ≡ Ok name = e in cc
named-text width said name false None short are e = let wrong : Err BadCharacter ≡ Ok name = e in cc
named-text width said name false (Some codes) short are e =
    let fits : length codes ≤ width = grind (arith, nat_tests, short, are.1) in
    named-codes width codes name (list_all (λ b. b == blank) codes) are.0 fits refl e

named : (width : ℕ) (name : List ℕ) → IsName width name → Named width name
named width name is = named-text width is.0 name (nat_lt width (length is.0)) (codes_of is.0) refl (codes-are is.0) is.1

blanks-coded : (n : ℕ) → list_all is_coded (replicate n blank) ≡ true
unfolding character_of
blanks-coded zero = refl
blanks-coded (suc n) = blanks-coded n

pub code-found : (b : ℕ) (found : Option ℕ) → character_of b ≡ found → is_some found ≡ true → code_of (unwrap_or found 32) ≡ Some b
code-found b None is some = let wrong : false ≡ true = some in cc
code-found b (Some c) is some = code_of-character_of b c is

-- bytes that are codes, as the characters that have them
codes-back : (bytes : List ℕ) → list_all is_coded bytes ≡ true → codes_of (map character bytes) ≡ Some bytes
codes-back [] all = refl
codes-back (b ∷ bytes) all =
    let parts = both_true (is_coded b) (list_all is_coded bytes) all in
    ap (option_and_then (λ code. option_map (λ codes. code ∷ codes) (codes_of (map character bytes)))) (code-found b (character_of b) refl parts.0)
    ∙ ap (option_map (λ codes. b ∷ codes)) (codes-back bytes parts.1)

not_blank : (some : Bool) (rest : Bool) → some ≡ false → (some && rest) ≡ false
not_blank some rest e = rw e refl

all-blank : (name : List ℕ) → list_all (λ b. b == blank) name ≡ true → replicate (length name) blank ≡ name
all-blank [] all = refl
all-blank (b ∷ name) all =
    let parts = both_true (b == blank) (list_all (λ b. b == blank) name) all in
    let is : b ≡ blank = grind (arith, nat_tests, parts.0) in
    ap (λ bytes. blank ∷ bytes) (all-blank name parts.1) ∙ ap (λ b. b ∷ name) (sym is)

-- a name without the blanks that fill it up, filled up again
unfilled-again : (name : List ℕ) → filled_up (length name) (unfilled name) ≡ name
unfilled-again [] = refl
unfilled-again (b ∷ name) =
    let none : suc (length name) - 0 ≡ suc (length name) = omega arith in
    let one : suc (length name) - suc (length (unfilled name)) ≡ length name - length (unfilled name) = omega arith in
    elim (cases_Bool (list_all (λ b. b == blank) (b ∷ name))) [
      | inl all ↦ rw all (ap (λ n. replicate n blank) none ∙ all-blank (b ∷ name) all)
      | inr some ↦ rw some (ap (λ n. b ∷ (unfilled name ++ replicate n blank)) one ∙ ap (λ bytes. b ∷ bytes) (unfilled-again name))
    ]

unfilled-all : (p : ℕ → Bool) (name : List ℕ) → list_all p name ≡ true → list_all p (unfilled name) ≡ true
unfilled-all p [] all = refl
unfilled-all p (b ∷ name) all =
    let parts = both_true (p b) (list_all p name) all in
    elim (cases_Bool (list_all (λ b. b == blank) (b ∷ name))) [
      | inl blanks ↦ rw blanks refl
      | inr some ↦ rw some (rw parts.0 (unfilled-all p name parts.1))
    ]

unfilled-within : (name : List ℕ) → length (unfilled name) ≤ length name
unfilled-within [] = omega arith
unfilled-within (b ∷ name) =
    elim (cases_Bool (list_all (λ b. b == blank) (b ∷ name))) [
      | inl blanks ↦ rw blanks (omega arith)
      | inr some ↦ rw some (omega (arith, unfilled-within name))
    ]

unfilled-says : (name : List ℕ) → list_all (λ b. b == blank) name ≡ false → list_all (λ b. b == blank) (unfilled name) ≡ false
unfilled-says [] some = some
unfilled-says (b ∷ name) some =
    rw some (
    elim (cases_Bool (b == blank)) [
      | inl is ↦ rw is (unfilled-says name (rw is at some))
      | inr other ↦ rw other refl
    ])

-- a name that is made of codes
record Whole (width : ℕ) (name : List ℕ) : Type 0 where
  are_codes : list_all is_coded name ≡ true
  says : list_all (λ b. b == blank) name ≡ false
  wide : length name ≡ width

whole : (width : ℕ) (name : List ℕ) → Named width name → Whole width name
whole width name is =
    let behind = replicate (width - length is.codes) blank in
    let behind_length : length behind ≡ width - length is.codes = length-replicate (width - length is.codes) blank in
    let filled_length : length (filled_up width is.codes) ≡ width = length-append is.codes behind ∙ omega (arith, behind_length, is.fits) in
    record {
      are_codes = subst (λ bytes. list_all is_coded bytes ≡ true) is.filled (list_all-append is_coded is.codes behind ∙ rw (is.are_codes, blanks-coded (width - length is.codes)) refl);
      says = subst (λ bytes. list_all (λ b. b == blank) bytes ≡ false) is.filled
          (list_all-append (λ b. b == blank) is.codes behind ∙ not_blank _ (list_all (λ b. b == blank) behind) is.says);
      wide = subst (λ bytes. length bytes ≡ width) is.filled filled_length;
    }

whole-back : (width : ℕ) (name : List ℕ) → Whole width name → name_of width (map character (unfilled name)) ≡ Ok name
whole-back width name is =
    let said = unfilled name in
    let text_length : length (map character said) ≡ length said = length-map said character in
    let short : nat_lt width (length (map character said)) ≡ false = grind (arith, nat_tests, text_length, is.wide, unfilled-within name) in
    if-false (nat_lt width (length (map character said))) (Err TooLong) _ short
    ∙ ap (name_of_codes width) (codes-back said (unfilled-all is_coded name is.are_codes))
    ∙ if-false (list_all (λ b. b == blank) said) (Err Empty) _ (unfilled-says name is.says)
    ∙ ap Ok (ap (λ n. filled_up n said) (sym is.wide) ∙ unfilled-again name)

-- a name in its characters, without the blanks that fill it up
pub name-back : (width : ℕ) (name : List ℕ) → IsName width name → name_of width (map character (unfilled name)) ≡ Ok name
name-back width name is = whole-back width name (whole width name (named width name is))

-- each byte of a name has a character
pub name-coded : (width : ℕ) (name : List ℕ) → IsName width name → list_all is_coded (unfilled name) ≡ true
name-coded width name is = unfilled-all is_coded name (whole width name (named width name is)).are_codes
