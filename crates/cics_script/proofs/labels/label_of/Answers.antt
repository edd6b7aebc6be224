use Rattle.std.proofs.Common.{◌≡◌, ℕ, ◌-◌, ◌||◌, true, false, cond, List, [], ◌∷◌, map, refl, ap, sym, ◌∙◌, None, arith}
use Rattle.std.proofs.lemmas.Bool.Decides.{nat_tests}
use Rattle.std.proofs.lemmas.Bool.{and_parts}
use Rattle.std.specs.List.{list_all}
use Rattle.std.specs.Prelude.{Result, Ok, Err}
use Rattle.std.specs.Result.{result_or}
use Rattle.cics_names.specs.declared.names.NameFault.{NameFault}
use Rattle.cics_script.specs.declared.faults.LineFault.TheVariants.{UnknownWord}
use Rattle.cics_names.specs.Names.{name_of}
use Rattle.cics_script.specs.Tokens.{capital, is_capital, is_digit, is_small}
use Rattle.cics_script.specs.Words.{lookup, starts}
use Rattle.cics_script.specs.Lines.{label_in, as_label}
use Rattle.cics_script.proofs.labels.label_of.Goals as goal

-- a capital or a digit is no small letter
no_small : (c : ℕ) → (is_capital c || is_digit c) ≡ true → is_small c ≡ false
no_small c e = grind (arith, nat_tests)

-- so it is its own capital, and so are those of a word
stays : (c : ℕ) → (is_capital c || is_digit c) ≡ true → capital c ≡ c
stays c e = ap (λ small. cond small (c - 32) c) (no_small c e)

all_stay : (w : List ℕ) → list_all (λ c. is_capital c || is_digit c) w ≡ true → map capital w ≡ w
all_stay [] all = refl
all_stay (c ∷ w) all =
    let parts = and_parts (is_capital c || is_digit c) (list_all (λ c. is_capital c || is_digit c) w) all in
    rw (stays c parts.0, all_stay w parts.1) refl

-- the label of a word in capitals
label_is : (w : List ℕ) → lookup (map capital w) starts ≡ None → list_all (λ c. is_capital c || is_digit c) w ≡ true
    → label_in (map capital w) ≡ as_label (name_of 8 w)
label_is w none all = rw (none, all_stay w all, all) refl

or_label : (name : Result (List ℕ) NameFault) → result_or name (Err UnknownWord) ≡ as_label name
or_label (Ok name) = refl
or_label (Err fault) = refl

pub returns-then-is_in_capitals : goal.returns-then-is_in_capitals
returns-then-is_in_capitals c =
    c.or.ensures ∙ or_label c.new.result ∙ ap as_label c.new.ensures
    ∙ sym (label_is c.args.word.now c.requires (sym c.is_in_capitals.ensures ∙ c.if-is_in_capitals.true))
