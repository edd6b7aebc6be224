-- Characters are read back one by one, among the pieces and in a value.
use Rattle.std.proofs.Common.{◌≡◌, ℕ, suc, Bool, true, false, ◌==◌, cond, List, [], ◌∷◌, ◌++◌, refl, ap, sym, ◌∙◌, arith, Some, option_map, append_assoc}
use Rattle.std.proofs.lemmas.List.{append-nil}
use Rattle.std.proofs.lemmas.Bool.{and_parts, false_from_ne_true}
use Rattle.std.specs.List.{list_all}
use Rattle.cics_picture.specs.Xml.Characters.{digits, is_plain, character_text, text_of}
use Rattle.cics_picture.specs.declared.xml.names.Tag.{Tag}
use Rattle.cics_picture.specs.declared.xml.names.Key.{Key}
use Rattle.cics_picture.specs.Xml.Documents.{Attribute}
use Rattle.cics_picture.specs.Xml.Reading.{Piece, Sign, Place, Between, Reference, Value, ValueReference, is_gathered, from_turn, pieces_from}
use Rattle.cics_picture.proofs.OfXml.Digits.{digits-read, is_within}

-- bytes that are gathered
pub gathers : (bs rest : List ℕ) (place : Place) (g : List ℕ) → list_all (is_gathered place) bs ≡ true → pieces_from (bs ++ rest) place g ≡ pieces_from rest place (g ++ bs)
unfolding pieces_from
gathers [] rest place g all = ap (pieces_from rest place) (sym (append-nil g))
gathers (c ∷ bs) rest place g all =
    let parts = and_parts (is_gathered place c) (list_all (is_gathered place) bs) all in
    rw (parts.0, pieces_from) (gathers bs rest place (g ++ (c ∷ [])) parts.1 ∙ ap (pieces_from rest place) (append_assoc g (c ∷ []) bs))

-- a plain character is none that isn't
differs : (c k : ℕ) → is_plain c ≡ true → is_plain k ≡ false → (c == k) ≡ false
differs c k plain not_plain = false_from_ne_true (c == k) (λ e. let same : c ≡ k = grind (arith, e) in let wrong : true ≡ false = sym plain ∙ ap is_plain same ∙ not_plain in cc)

plain-text : (c : ℕ) → is_plain c ≡ true → character_text c ≡ c ∷ []
plain-text c plain = rw plain refl

-- the third of four choices
chosen : {X : Type 0} (a b p : Bool) (x y z w : X) → a ≡ false → b ≡ false → p ≡ true → cond a x (cond b y (cond p z w)) ≡ z
chosen a b p x y z w first second third = ap (λ t. cond t x (cond b y (cond p z w))) first ∙ ap (λ t. cond t y (cond p z w)) second ∙ ap (λ t. cond t z w) third

-- what stands behind & in a reference, up to its end
reference : (c : ℕ) (rest : List ℕ) (place : Place) → ((bs : List ℕ) → list_all is_within bs ≡ true → list_all (is_gathered place) bs ≡ true)
    → pieces_from ((35 ∷ (digits (suc c) c ++ (59 ∷ []))) ++ rest) place [] ≡ pieces_from (59 ∷ rest) place (35 ∷ digits (suc c) c)
reference c rest place within =
    ap (λ bs. pieces_from (35 ∷ bs) place []) (append_assoc (digits (suc c) c) (59 ∷ []) rest)
    ∙ gathers (35 ∷ digits (suc c) c) (59 ∷ rest) place [] (within (35 ∷ digits (suc c) c) (digits-read (suc c) c (omega arith)).1)

sign_by : (b : Bool) (c : ℕ) (rest : List ℕ) (pieces : List Piece) → is_plain c ≡ b → pieces_from rest Between [] ≡ Some pieces → pieces_from (character_text c ++ rest) Between [] ≡ Some (Sign c ∷ pieces)
unfolding pieces_from
sign_by true c rest pieces plain h =
    let less = differs c 60 plain refl in
    let ampersand = differs c 38 plain refl in
    ap (λ text. pieces_from (text ++ rest) Between []) (plain-text c plain)
    ∙ ap (λ t. from_turn t (λ next. pieces_from rest next [])) (chosen (c == 60) (c == 38) (is_plain c) _ _ _ _ less ampersand plain)
    ∙ ap (option_map (λ more. (Sign c ∷ []) ++ more)) h
sign_by false c rest pieces plain h =
    let value = (digits-read (suc c) c (omega arith)).0 in
    rw (plain, reference c rest Reference (λ bs all. all), value, h) refl

-- a character among the pieces
pub sign-read : (c : ℕ) (rest : List ℕ) (pieces : List Piece) → pieces_from rest Between [] ≡ Some pieces → pieces_from (character_text c ++ rest) Between [] ≡ Some (Sign c ∷ pieces)
sign-read c rest pieces h = sign_by (is_plain c) c rest pieces refl h

value_by : (b : Bool) (c : ℕ) (rest : List ℕ) (pieces : List Piece) (tag : Tag) (before : List Attribute) (key : Key) (value : List ℕ) → is_plain c ≡ b
    → pieces_from rest (Value tag before key (value ++ (c ∷ []))) [] ≡ Some pieces → pieces_from (character_text c ++ rest) (Value tag before key value) [] ≡ Some pieces
unfolding pieces_from
value_by true c rest pieces tag before key value plain h =
    let quote = differs c 34 plain refl in
    let ampersand = differs c 38 plain refl in
    ap (λ text. pieces_from (text ++ rest) (Value tag before key value) []) (plain-text c plain)
    ∙ ap (λ t. from_turn t (λ next. pieces_from rest next [])) (chosen (c == 34) (c == 38) (is_plain c) _ _ _ _ quote ampersand plain)
    ∙ ap (option_map (λ more. [] ++ more)) h
value_by false c rest pieces tag before key value plain h =
    let number_is = (digits-read (suc c) c (omega arith)).0 in
    rw (plain, reference c rest (ValueReference tag before key value) (λ bs all. all), number_is, h) refl

-- the characters of a value
pub value-read : (cs rest : List ℕ) (pieces : List Piece) (tag : Tag) (before : List Attribute) (key : Key) (value : List ℕ)
    → pieces_from rest (Value tag before key (value ++ cs)) [] ≡ Some pieces → pieces_from (text_of cs ++ rest) (Value tag before key value) [] ≡ Some pieces
value-read [] rest pieces tag before key value h = ap (λ v. pieces_from rest (Value tag before key v) []) (sym (append-nil value)) ∙ h
value-read (c ∷ cs) rest pieces tag before key value h =
    let more = ap (λ v. pieces_from rest (Value tag before key v) []) (append_assoc value (c ∷ []) cs) ∙ h in
    ap (λ bs. pieces_from bs (Value tag before key value) []) (append_assoc (character_text c) (text_of cs) rest)
    ∙ value_by (is_plain c) c (text_of cs ++ rest) pieces tag before key value refl (value-read cs rest pieces tag before key (value ++ (c ∷ [])) more)
