-- What is printed, one text further.
use Rattle.std.proofs.Common.{◌≡◌, ℕ, List, [], ◌++◌, refl, ap, sym, ◌∙◌, append_assoc, append-nil, Option, subst}
use Rattle.std.specs.Prelude.{Result, Ok, Err, OnOk, OnErr}
use Rattle.std.specs.Io.KnownBytes.{Appends}
use Rattle.cics_run.specs.Session.Printing.{IsFront, AppendsFront, Prints}
use Rattle.cics_run.proofs.OfSession.Known.{appends-append, appends-nothing}

-- nothing was printed
pub prints-nothing : (a : Option (List ℕ)) (pending : List ℕ) → Prints a a pending pending []
prints-nothing a pending = ([], append-nil pending, appends-nothing a)

-- a text was put behind what is pending
pub prints-pushed : (a : Option (List ℕ)) (pending text : List ℕ) → Prints a a pending (pending ++ text) text
prints-pushed a pending text = ([], refl, appends-nothing a)

-- all was written
pub prints-written : (a b : Option (List ℕ)) (pending text : List ℕ) → Appends a b (pending ++ text) → Prints a b pending [] text
prints-written a b pending text took = (pending ++ text, sym (append-nil (pending ++ text)), took)

-- nothing is pending now
pub prints-all : (a b : Option (List ℕ)) (pending text : List ℕ) → Prints a b pending [] text → Appends a b (pending ++ text)
prints-all a b pending text (written, e, took) = subst (Appends a b) (sym (e ∙ append-nil written)) took

-- one text behind the other
pub prints-prints : (a b c : Option (List ℕ)) (p q r t u : List ℕ) → Prints a b p q t → Prints b c q r u → Prints a c p r (t ++ u)
prints-prints a b c p q r t u (v, e, took) (w, f, more) = (
  v ++ w,
  sym (append_assoc p t u) ∙ ap (λ x. x ++ u) e ∙ append_assoc v q u ∙ ap (λ x. v ++ x) f ∙ sym (append_assoc v w r),
  appends-append a b c v w took more,
)

-- a text stands behind what was pending, and some of both may be written
pub behind-pending : (a b : Option (List ℕ)) (pending all left text : List ℕ) → all ≡ pending ++ text → Prints a b all left [] → Prints a b pending left text
behind-pending a b pending all left text pushed (written, parts, took) = (written, sym pushed ∙ sym (append-nil all) ∙ parts, took)

-- a text, and a front of what is pending behind it and of the next one
pub prints-front : (a b c : Option (List ℕ)) (p q t u : List ℕ) → Prints a b p q t → AppendsFront b c (q ++ u) → AppendsFront a c (p ++ (t ++ u))
prints-front a b c p q t u (v, e, took) (front, (rest, f), more) = (
  v ++ front,
  (rest, sym (append_assoc p t u) ∙ ap (λ x. x ++ u) e ∙ append_assoc v q u ∙ ap (λ x. v ++ x) f ∙ sym (append_assoc v front rest)),
  appends-append a b c v front took more,
)

-- a text, of which a part may still be pending
pub prints-part : (a b : Option (List ℕ)) (p q t : List ℕ) → Prints a b p q t → AppendsFront a b (p ++ t)
prints-part a b p q t (v, e, took) = (v, (q, e), took)

-- a front of a text is a front of a longer one
pub front-longer : (a b : Option (List ℕ)) (text longer : List ℕ) → IsFront text longer → AppendsFront a b text → AppendsFront a b longer
front-longer a b text longer (more, e) (front, (rest, f), took) =
    (front, (rest ++ more, e ∙ ap (λ x. x ++ more) f ∙ append_assoc front rest more), took)

-- what is so is so of an answer, and of an error
pub on-ok : {A E : Type 0} (P : Type 0) (r : Result A E) → P → OnOk r P
on-ok P (Ok x) p = p
on-ok P (Err e) p = tt

pub on-err : {A E : Type 0} (P : Type 0) (r : Result A E) → P → OnErr r P
on-err P (Ok x) p = tt
on-err P (Err e) p = p
