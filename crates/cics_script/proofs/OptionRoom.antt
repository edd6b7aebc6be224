-- A line has each of its options once, so it has no more of them than its form has rows: 13 at most.
use Rattle.std.proofs.Common.{◌≡◌, ◌<◌, ◌≤◌, true, false, List, [], ◌∷◌, ◌++◌, length, refl, ap, sym, ◌∙◌, subst, arith, Option, Some, None, ◌⊎◌, inl, inr}
use Rattle.std.specs.Prelude.{Ok, ◌||◌}
use Rattle.std.specs.Cmp.{IsEquivalence, nat_eq_equiv, on_equiv}
use Rattle.std.specs.List.{IsDistinct, list_any}
use Rattle.std.specs.Map.{keys_of}
use Rattle.std.proofs.lemmas.Bool.{cases_Bool, or_cases, false≢true}
use Rattle.std.proofs.lemmas.List.{map-append, length-append}
use Rattle.std.proofs.lemmas.List.Folds.{list_any-append}
use Rattle.std.proofs.lemmas.Map.Entries.{length-keys_of}
use Rattle.std.proofs.lemmas.Map.Keys.{IsDistinct-push}
use Rattle.std.proofs.lemmas.Map.Made.{length-le_from_is_member}
use Rattle.std.proofs.lemmas.Map.Steps.{list_any_congr}
use Rattle.cics_script.specs.declared.words.DefineObject.TheVariants as defined
use Rattle.cics_script.specs.declared.words.LoadObject.TheVariants as loaded
use Rattle.cics_script.specs.declared.words.CommandWord.{CommandWord}
use Rattle.cics_script.specs.declared.words.CommandWord.TheVariants as command
use Rattle.cics_script.specs.declared.words.LineForm.{LineForm}
use Rattle.cics_script.specs.declared.words.LineForm.TheVariants as form
use Rattle.cics_script.specs.declared.words.OptionWord.{OptionWord}
use Rattle.cics_script.specs.declared.words.ValueKind.{ValueKind}
use Rattle.cics_script.specs.Words.{place, same, excludes, kind_in, own_options, shared_options}
use Rattle.cics_script.specs.Options.{Content, Entry, allowed}

-- what a line of this form may have
abbrev pub rows_of : LineForm → List OptionWord
rows_of f = own_options f ++ shared_options f

-- options that a line of this form may have, each of them once
pub record AreOnce (f : LineForm) (found : List Entry) : Type 0 where
  pub apart : IsDistinct same (keys_of found)
  pub here : (q : OptionWord) → list_any (same q) (keys_of found) ≡ true → list_any (same q) (rows_of f) ≡ true

laws : IsEquivalence same
laws = on_equiv place nat_eq_equiv

rows-most-command : (verb : CommandWord) → length (rows_of (form.Command verb)) ≤ 13
rows-most-command command.Read = omega arith
rows-most-command verb = omega arith

rows-most : (f : LineForm) → length (rows_of f) ≤ 13
rows-most (form.Define defined.File) = omega arith
rows-most (form.Define defined.TsPrefix) = omega arith
rows-most (form.Define defined.TdQueue) = omega arith
rows-most (form.Load loaded.File) = omega arith
rows-most (form.Load loaded.TdQueue) = omega arith
rows-most form.Attach = omega arith
rows-most form.Clock = omega arith
rows-most form.Shutdown = omega arith
rows-most (form.Command verb) = rows-most-command verb

once-most : (f : LineForm) (found : List Entry) → AreOnce f found → length found ≤ 13
once-most f found once =
    omega (arith, length-keys_of found, rows-most f, length-le_from_is_member laws (keys_of found) (rows_of f) once.apart once.here)

in_form : (f : LineForm) (option : OptionWord) (kind : ValueKind) → kind_in f option ≡ Some kind → list_any (same option) (rows_of f) ≡ true
in_form f option kind is =
    list_any-append (same option) (own_options f) (shared_options f)
    ∙ elim (cases_Bool (list_any (same option) (own_options f) || list_any (same option) (shared_options f))) [
      | inl here ↦ here
      | inr none ↦ absurd (let wrong = rw none at is in cc)
    ]

-- an option that may stand is one of the form's, and not yet there
allowed_parts : (found : List Entry) (option : OptionWord) (k : Option ValueKind) (kind : ValueKind) → allowed found option k ≡ Ok kind
    → (k ≡ Some kind) × (list_any (λ entry. same entry.0 option) found ≡ false)
allowed_parts found option None kind may = absurd (cc)
allowed_parts found option (Some k) kind may =
    elim (cases_Bool (list_any (λ entry. same entry.0 option) found)) [
      | inl doubled ↦ absurd (let wrong = rw doubled at may in cc)
      | inr fresh ↦ elim (cases_Bool (list_any (λ entry. excludes entry.0 option) found)) [
        | inl excluded ↦ absurd (let wrong = rw (fresh, excluded) at may in cc)
        | inr alone ↦ (let is = rw (fresh, alone) at may in cc, fresh)
      ]
    ]

not_there : (found : List Entry) (option : OptionWord) → list_any (same option) (keys_of found) ≡ list_any (λ entry. same entry.0 option) found
not_there [] option = refl
not_there (entry ∷ found) option = rw (laws.symm option entry.0, not_there found option) refl

keys-more : (found : List Entry) (option : OptionWord) (content : Content) → keys_of (found ++ (option, content) ∷ []) ≡ keys_of found ++ option ∷ []
keys-more found option content = map-append (λ entry. entry.0) found ((option, content) ∷ [])

among_more : (q option : OptionWord) (options : List OptionWord) → list_any (same q) (options ++ option ∷ []) ≡ true
    → (list_any (same q) options ≡ true) ⊎ (same q option ≡ true)
among_more q option options is =
    elim (or_cases _ _ (sym (list_any-append (same q) options (option ∷ [])) ∙ is)) [
      | inl before ↦ inl before
      | inr last ↦ elim (or_cases _ _ last) [ inl it ↦ inr it | inr none ↦ absurd (false≢true none) ]
    ]

pub once-none : (f : LineForm) → AreOnce f []
unfolding IsDistinct
once-none f = record { apart = tt; here = λ q is. absurd (false≢true is) }

pub once-more : (f : LineForm) (found : List Entry) (option : OptionWord) (content : Content) (kind : ValueKind) → AreOnce f found
    → allowed found option (kind_in f option) ≡ Ok kind → AreOnce f (found ++ (option, content) ∷ [])
once-more f found option content kind once may =
    let parts = allowed_parts found option (kind_in f option) kind may in
    let keys = keys-more found option content in
    record {
      apart = subst (IsDistinct same) (sym keys) (IsDistinct-push laws (keys_of found) option once.apart (not_there found option ∙ parts.1));
      here = λ q is. elim (among_more q option (keys_of found) (ap (list_any (same q)) (sym keys) ∙ is)) [
        | inl before ↦ once.here q before
        | inr it ↦ list_any_congr laws q option (rows_of f) it ∙ in_form f option kind parts.0
      ];
    }

-- where an option may stand, there is room for it
pub once-room : (f : LineForm) (found : List Entry) (option : OptionWord) (kind : ValueKind) → AreOnce f found
    → allowed found option (kind_in f option) ≡ Ok kind → length found < 13
once-room f found option kind once may =
    let most = once-most f (found ++ (option, Content.nothing) ∷ []) (once-more f found option Content.nothing kind once may) in
    omega (arith, length-append found ((option, Content.nothing) ∷ []))
