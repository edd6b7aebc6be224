-- What the loop of `padded` keeps: codes in front, blanks behind.
use Rattle.std.proofs.Common.{◌≡◌, ℕ, suc, ◌+◌, ◌-◌, ◌<◌, ◌≤◌, Bool, true, false, List, [], ◌∷◌, ◌++◌, length, get_or, replicate, set, drop, refl, ap, arith, sym, ◌∙◌, length-append, append_assoc, add-one}
use Rattle.std.proofs.Math.Seq.{set-append_seam, drop-cons}
use Rattle.std.specs.Prelude.{Option, Some, None, option_map, option_and_then, ◌==◌, ◌&&◌}
use Rattle.std.specs.List.{list_all}
use Rattle.cics_names.specs.Ebcdic.{codes_of, code_of}
use Rattle.cics_names.specs.Names.{blank}

pub record Filled (width : ℕ) (text : List ℕ) (at : ℕ) (bytes : List ℕ) (is_blank : Bool) : Type 0 where
  pub done : List ℕ
  pub count : length done ≡ at
  pub fits : length text ≤ width
  pub filled : bytes ≡ done ++ replicate (width - at) blank
  pub blanks : is_blank ≡ list_all (λ b. b == blank) done
  pub rest : codes_of text ≡ option_map (λ r. done ++ r) (codes_of (drop at text))

and_assoc : (a b c : Bool) → ((a && b) && c) ≡ (a && (b && c))
and_assoc true b c = refl
and_assoc false b c = refl

and_true : (a : Bool) → (a && true) ≡ a
and_true true = refl
and_true false = refl

list_all-more : (p : ℕ → Bool) (xs : List ℕ) (y : ℕ) → (list_all p xs && p y) ≡ list_all p (xs ++ y ∷ [])
list_all-more p [] y = sym (and_true (p y))
list_all-more p (x ∷ xs) y = and_assoc (p x) (list_all p xs) (p y) ∙ ap (λ b. p x && b) (list_all-more p xs y)

mapped_more : (done : List ℕ) (code : ℕ) (o : Option (List ℕ)) →
    option_map (λ r. done ++ r) (option_map (λ r. code ∷ r) o) ≡ option_map (λ r. (done ++ code ∷ []) ++ r) o
mapped_more done code None = refl
mapped_more done code (Some r) = ap Some (sym (append_assoc done (code ∷ []) r))

codes_of-cons : (c code : ℕ) (cs : List ℕ) → code_of c ≡ Some code →
    codes_of (c ∷ cs) ≡ option_map (λ r. code ∷ r) (codes_of cs)
codes_of-cons c code cs is = ap (option_and_then (λ x. option_map (λ r. x ∷ r) (codes_of cs))) is

one_filled : (done : List ℕ) (code n m : ℕ) → n ≡ suc m →
    set (done ++ replicate n blank) (length done) code ≡ (done ++ code ∷ []) ++ replicate m blank
one_filled done code n m e =
    ap (λ k. set (done ++ replicate k blank) (length done) code) e
    ∙ set-append_seam done blank (replicate m blank) code
    ∙ sym (append_assoc done (code ∷ []) (replicate m blank))

pub Filled-more : (width : ℕ) (text : List ℕ) (at : ℕ) (bytes : List ℕ) (b : Bool) (code : ℕ) →
    Filled width text at bytes b → at < length text → code_of (get_or text at 0) ≡ Some code →
    Filled width text (at + 1) (set bytes at code) (b && (code == blank))
Filled-more width text at bytes b code f below is =
    record {
      done = f.done ++ code ∷ [];
      count = length-append f.done (code ∷ []) ∙ ap (λ n. n + 1) f.count;
      fits = f.fits;
      filled =
          ap (λ bs. set bs at code) f.filled
          ∙ ap (λ k. set (f.done ++ replicate (width - at) blank) k code) (sym f.count)
          ∙ one_filled f.done code (width - at) (width - (at + 1)) (let fits : length text ≤ width = f.fits in omega arith);
      blanks = ap (λ x. x && (code == blank)) f.blanks ∙ list_all-more (λ x. x == blank) f.done code;
      rest =
          f.rest
          ∙ ap (λ t. option_map (λ r. f.done ++ r) (codes_of t)) (drop-cons text at 0 below)
          ∙ ap (option_map (λ r. f.done ++ r)) (codes_of-cons (get_or text at 0) code (drop (suc at) text) is)
          ∙ mapped_more f.done code (codes_of (drop (suc at) text))
          ∙ ap (λ k. option_map (λ r. (f.done ++ code ∷ []) ++ r) (codes_of (drop k text))) (sym (add-one at));
    }
