-- Each command has a spelling.
use Rattle.std.proofs.Common.{◌≡◌, Bool, true, false, not, ◌&&◌, ◌||◌, ℕ, List, [], ◌∷◌, length, map, refl, ap, sym, ◌∙◌, subst, arith, Option, Some, None, inl, inr}
use Rattle.std.proofs.lemmas.Bool.{cases_Bool}
use Rattle.std.proofs.lemmas.Bool.Decides.{nat_tests}
use Rattle.std.specs.Prelude.{◌⊎◌, Ok, IsTrue, IfSome, nat_lt, if◌then◌else◌, is_some, option_map, unwrap_or}
use Rattle.std.specs.List.{list_any, list_all}
use Rattle.cics_names.specs.Names.{blank}
use Rattle.cics_names.specs.Ebcdic.{code_of, character_of}
use Rattle.cics_names.specs.declared.commands.Command.{Command}
use Rattle.cics_names.specs.declared.commands.Verb.{Verb}
use Rattle.cics_names.specs.declared.commands.Verb.TheVariants as verb
use Rattle.cics_script.specs.declared.words.CommandWord.{CommandWord}
use Rattle.cics_script.specs.declared.words.CommandWord.TheVariants as command
use Rattle.cics_script.specs.declared.words.LineForm.{LineForm}
use Rattle.cics_script.specs.declared.words.LineForm.TheVariants as form
use Rattle.cics_script.specs.declared.words.OptionWord.{OptionWord}
use Rattle.cics_script.specs.declared.words.OptionWord.TheVariants.{KeyLength, Length, Generic, Equal, Gteq, Update, Item, NoSuspend, AbCode, Resp, NoHandle}
use Rattle.cics_script.specs.declared.words.ValueKind.{ValueKind}
use Rattle.cics_script.specs.declared.words.ValueKind.TheVariants.{Flag, Text, Name8, Name4, Number, Area}
use Rattle.cics_script.specs.Words.{same, excludes, kind_in}
use Rattle.cics_script.specs.Options.{Content, text, name8, name4, amount, nothing, content_in, Entry}
use Rattle.cics_script.specs.Values.{has}
use Rattle.cics_script.specs.Layout.{IsWritable}
use Rattle.cics_script.specs.Literals.{ebcdic}
use Rattle.cics_script.specs.Texts.{unfilled}
use Rattle.cics_script.specs.Tokens.{Token, number, literal}
use Rattle.cics_script.specs.declared.literals.Notation.TheVariants.{Quoted, Hexadecimal}
use Rattle.cics_script.specs.Spelling.WrittenOut.{asked_of}
use Rattle.cics_script.specs.Spelling.Spelling.{Written, AreOptions, IsWritten, AreApart, flag, options_of, word_of, AllGiven, AreWritten, CanBeGiven, AllCanBeGiven, go_together, Spelling}
use Rattle.cics_script.proofs.Layouts.{both_true}
use Rattle.cics_script.proofs.OfSpelling.Orders.{both_false, has-gives}
use Rattle.cics_script.proofs.OfSpelling.NamesBack.{character, is_coded, code-found, name-back, name-coded}

-- options, each with what it is to give, or with nothing
abbrev pub Asked : Type 0
Asked = List (OptionWord × Option Content)

abbrev with_content : OptionWord → Option Content → List Entry → List Entry
with_content option None entries = entries
with_content option (Some content) entries = (option, content) ∷ entries

-- the options that give something
abbrev present : Asked → List Entry
present [] = []
present (row ∷ rows) = with_content row.0 row.1 (present rows)

-- no option stands twice, and no two that give something exclude each other
abbrev are_plain : Asked → Bool
are_plain [] = true
are_plain (row ∷ rows) =
    (not (list_any (λ later. same row.0 later.0) rows)
    && not (list_any (λ later. excludes row.0 later.0 && (is_some row.1 && is_some later.1)) rows))
    && are_plain rows

not-true : (b : Bool) → not b ≡ true → b ≡ false
not-true true e = let wrong : false ≡ true = e in cc
not-true false e = refl

record Plain (option : OptionWord) (content : Option Content) (rows : Asked) : Type 0 where
  others : list_any (λ later. same option later.0) rows ≡ false
  free : list_any (λ later. excludes option later.0 && (is_some content && is_some later.1)) rows ≡ false
  rest : are_plain rows ≡ true

plain : (row : OptionWord × Option Content) (rows : Asked) → are_plain (row ∷ rows) ≡ true → Plain row.0 row.1 rows
plain row rows e =
    let parts = both_true _ (are_plain rows) e in
    let tests = both_true _ _ parts.0 in
    record { others = not-true _ tests.0; free = not-true _ tests.1; rest = parts.1 }

same-sym : (first second : OptionWord) → same first second ≡ same second first
same-sym first second = grind (arith, nat_tests)

-- an option that isn't among the rows isn't among those that give something
has-present : (option : OptionWord) (rows : Asked) → list_any (λ later. same option later.0) rows ≡ false → has option (present rows) ≡ false
has-present option [] others = refl
has-present option ((other, None) ∷ rows) others = has-present option rows (both_false (same option other) _ others).1
has-present option ((other, Some content) ∷ rows) others =
    let parts = both_false (same option other) _ others in
    rw (same-sym other option ∙ parts.0) (has-present option rows parts.1)

and-true : (b : Bool) → (b && true) ≡ false → b ≡ false
and-true true e = let wrong : true ≡ false = e in cc
and-true false e = refl

apart-present-first : (option : OptionWord) (rows : Asked) → list_any (λ later. same option later.0) rows ≡ false
    → list_any (λ later. excludes option later.0 && (true && is_some later.1)) rows ≡ false
    → list_any (λ later. same option later.0 || excludes option later.0) (present rows) ≡ false
apart-present-first option [] others free = refl
apart-present-first option ((other, None) ∷ rows) others free =
    apart-present-first option rows (both_false (same option other) _ others).1 (both_false (excludes option other && false) _ free).1
apart-present-first option ((other, Some content) ∷ rows) others free =
    let new = both_false (same option other) _ others in
    let clear = both_false (excludes option other && true) _ free in
    let apart : excludes option other ≡ false = and-true (excludes option other) clear.0 in
    rw (new.0, apart) (apart-present-first option rows new.1 clear.1)

apart-present : (rows : Asked) → are_plain rows ≡ true → AreApart (present rows)
apart-present [] e = tt
apart-present ((option, None) ∷ rows) e = apart-present rows (plain (option, None) rows e).rest
apart-present ((option, Some content) ∷ rows) e =
    let p = plain (option, Some content) rows e in
    (apart-present-first option rows p.others p.free, apart-present rows p.rest)

-- one option more in front, which is none of these
given-more : (rows : Asked) (entry : Entry) (entries : List Entry) → list_any (λ later. same entry.0 later.0) rows ≡ false → AllGiven rows entries → AllGiven rows (entry ∷ entries)
given-more [] entry entries others given = tt
given-more ((option, None) ∷ rows) entry entries others given =
    let parts = both_false (same entry.0 option) _ others in
    (rw parts.0 given.0, given-more rows entry entries parts.1 given.1)
given-more ((option, Some content) ∷ rows) entry entries others given =
    (inr given.0, given-more rows entry entries (both_false (same entry.0 option) _ others).1 given.1)

given-present : (rows : Asked) → are_plain rows ≡ true → AllGiven rows (present rows)
given-present [] e = tt
given-present ((option, None) ∷ rows) e =
    let p = plain (option, None) rows e in
    (has-present option rows p.others, given-present rows p.rest)
given-present ((option, Some content) ∷ rows) e =
    let p = plain (option, Some content) rows e in
    (inl refl, given-more rows (option, content) (present rows) p.others (given-present rows p.rest))

-- ---- what is written

-- a record as the literal that prints it
abbrev pub literal_of : List ℕ → Token
literal_of bytes = if list_all is_coded bytes then literal Quoted (map character bytes) else literal Hexadecimal bytes

-- a name as the literal that prints it
abbrev pub name_literal : List ℕ → Token
name_literal name = literal Quoted (map character (unfilled name))

-- what an option gives, as the token that prints it
abbrev pub token_of : Content → Option Token
token_of (text bytes) = Some (literal_of bytes)
token_of (name8 name) = Some (name_literal name)
token_of (name4 name) = Some (name_literal name)
token_of (amount n) = Some (number n)
token_of nothing = None

-- the options that are to be there, as they are written
abbrev pub options_written : Asked → List Written
options_written [] = []
options_written ((option, None) ∷ rows) = options_written rows
options_written ((option, Some content) ∷ rows) = record { option = option; value = token_of content } ∷ options_written rows

-- the characters of coded bytes write them
ebcdic-back : (bytes : List ℕ) → list_all is_coded bytes ≡ true → map ebcdic (map character bytes) ≡ bytes
ebcdic-back [] all = refl
ebcdic-back (b ∷ bytes) all =
    let parts = both_true (is_coded b) (list_all is_coded bytes) all in
    ap (λ code. unwrap_or code blank ∷ map ebcdic (map character bytes)) (code-found b (character_of b) refl parts.0)
    ∙ ap (λ codes. b ∷ codes) (ebcdic-back bytes parts.1)

-- and have codes
pub characters-coded : (bytes : List ℕ) → list_all is_coded bytes ≡ true → list_all (λ c. is_some (code_of c)) (map character bytes) ≡ true
characters-coded [] all = refl
characters-coded (b ∷ bytes) all =
    let parts = both_true (is_coded b) (list_all is_coded bytes) all in
    rw (ap is_some (code-found b (character_of b) refl parts.0)) (characters-coded bytes parts.1)

literal-back : (bytes : List ℕ) → content_in Text (literal_of bytes) ≡ Ok (text bytes)
literal-back bytes =
    elim (cases_Bool (list_all is_coded bytes)) [
      | inl all ↦ rw all (ap (λ codes. Ok (text codes)) (ebcdic-back bytes all))
      | inr some ↦ rw some refl
    ]

pub literal-writable : (bytes : List ℕ) → IsTrue (list_all (λ byte. nat_lt byte 256) bytes) → IsWritable (literal_of bytes)
literal-writable bytes can =
    elim (cases_Bool (list_all is_coded bytes)) [
      | inl all ↦ rw all (characters-coded bytes all)
      | inr some ↦ rw some can
    ]

-- the kind of the options that give this
abbrev kind_giving : Content → ValueKind
kind_giving (text bytes) = Text
kind_giving (name8 name) = Name8
kind_giving (name4 name) = Name4
kind_giving (amount n) = Number
kind_giving nothing = Flag

-- what an option takes is of a kind that gives this; a number is given by an area too
abbrev IsKind : Option ValueKind → Content → Type 0
IsKind kind (amount n) = (kind ≡ Some Number) ⊎ (kind ≡ Some Area)
IsKind kind content = kind ≡ Some (kind_giving content)

-- what an option gives, as it is written where a line takes this
record Spelled (kind : Option ValueKind) (content : Content) : Type 0 where
  is_written : (others : List Written) → IsWritten kind (token_of content) content others
  is_writable : IfSome (token_of content) IsWritable

of_kind : (content : Content) (kind found : Option ValueKind) → found ≡ kind → Spelled kind content → Spelled found content
of_kind content kind found is spelled = subst (λ kind. Spelled kind content) (sym is) spelled

spelled-content : (kind : Option ValueKind) (content : Content) → IsKind kind content → CanBeGiven content → Spelled kind content
spelled-content kind (text bytes) is can = of_kind (text bytes) (Some Text) kind is (record { is_written = λ others. (literal-back bytes, tt); is_writable = literal-writable bytes can })
spelled-content kind (name8 name) is can =
    let back = name-back 8 name can in
    of_kind (name8 name) (Some Name8) kind is (record { is_written = λ others. (rw back refl, tt); is_writable = characters-coded (unfilled name) (name-coded 8 name can) })
spelled-content kind (name4 name) is can =
    let back = name-back 4 name can in
    of_kind (name4 name) (Some Name4) kind is (record { is_written = λ others. (rw back refl, tt); is_writable = characters-coded (unfilled name) (name-coded 4 name can) })
spelled-content kind (amount n) (inl is) can = of_kind (amount n) (Some Number) kind is (record { is_written = λ others. (refl, tt); is_writable = can })
spelled-content kind (amount n) (inr is) can = of_kind (amount n) (Some Area) kind is (record { is_written = λ others. (refl, tt); is_writable = can })
spelled-content kind nothing is can = of_kind nothing (Some Flag) kind is (record { is_written = λ others. ((refl, refl), tt); is_writable = tt })

-- options of which each that gives something is of the kind that gives it
abbrev AreOfKind : LineForm → Asked → Type 0
AreOfKind line [] = Unit {0}
AreOfKind line (row ∷ rows) = IfSome row.1 (IsKind (kind_in line row.0)) × AreOfKind line rows

-- options as they are written give what they are to give
all-spelled : (line : LineForm) (rows : Asked) → AreOfKind line rows → AllCanBeGiven rows
    → AreOptions line (options_written rows) (present rows) × AreWritten (options_written rows)
all-spelled line [] of_kind can = (tt, tt)
all-spelled line ((option, None) ∷ rows) of_kind can = all-spelled line rows of_kind.1 can.1
all-spelled line ((option, Some content) ∷ rows) of_kind can =
    let rest = all-spelled line rows of_kind.1 can.1 in
    let one = spelled-content (kind_in line option) content of_kind.0 can.0 in
    ((refl, one.is_written (options_written rows), rest.0), (one.is_writable, rest.1))

-- ---- commands

pub flag-given : (b : Bool) → IfSome (flag b) CanBeGiven
flag-given true = tt
flag-given false = tt

-- a command whose word takes its options
record Fits (asked : Command) : Type 0 where
  first : CommandWord
  word : word_of asked.verb ≡ Some first
  plain : are_plain (asked_of asked) ≡ true
  other : list_any (λ later. same Resp later.0) (asked_of asked) ≡ false
  of_kind : AreOfKind (form.Command first) (asked_of asked)

fits-of : (asked : Command) (first : CommandWord) → word_of asked.verb ≡ Some first → are_plain (asked_of asked) ≡ true
    → list_any (λ later. same Resp later.0) (asked_of asked) ≡ false → AreOfKind (form.Command first) (asked_of asked) → Fits asked
fits-of asked first is apart other of_kind = record { first = first; word = is; plain = apart; other = other; of_kind = of_kind }

module _ (P : Content → Type 0) where
  flags : (b : Bool) → P nothing → IfSome (flag b) P
  flags true h = h
  flags false h = tt

  amounts : (n : Option ℕ) → ((m : ℕ) → P (amount m)) → IfSome (option_map amount n) P
  amounts None h = tt
  amounts (Some m) h = h m

  texts : (said : Option (List ℕ)) → ((bytes : List ℕ) → P (text bytes)) → IfSome (option_map text said) P
  texts None h = tt
  texts (Some bytes) h = h bytes

  name4s : (name : Option (List ℕ)) → ((bytes : List ℕ) → P (name4 bytes)) → IfSome (option_map name4 name) P
  name4s None h = tt
  name4s (Some bytes) h = h bytes

-- what an option of a command gives is of the kind that it takes
abbrev Takes : CommandWord → OptionWord → Content → Type 0
Takes first option content = IsKind (kind_in (form.Command first) option) content

read-plain : (resp : Bool) (file ridfld : List ℕ) (key_length length : Option ℕ) (generic gteq update : Bool) → not (update && (generic || gteq)) ≡ true
    → are_plain (asked_of (record { verb = verb.Read file ridfld key_length length generic gteq update; resp = resp })) ≡ true
read-plain resp file ridfld key_length length true true false together = refl
read-plain resp file ridfld key_length length true true true together = let wrong : false ≡ true = together in cc
read-plain resp file ridfld key_length length true false false together = refl
read-plain resp file ridfld key_length length true false true together = let wrong : false ≡ true = together in cc
read-plain resp file ridfld key_length length false true false together = refl
read-plain resp file ridfld key_length length false true true together = let wrong : false ≡ true = together in cc
read-plain resp file ridfld key_length length false false false together = refl
read-plain resp file ridfld key_length length false false true together = refl

-- each command whose options go together has a word that takes them
fits : (asked : Verb) (resp : Bool) → IsTrue (go_together asked) → Fits (record { verb = asked; resp = resp })
fits (verb.Read file ridfld key_length length generic gteq update) resp together =
    fits-of (record { verb = verb.Read file ridfld key_length length generic gteq update; resp = resp }) command.Read refl (read-plain resp file ridfld key_length length generic gteq update together) refl (
      flags (Takes command.Read NoHandle) resp refl,
      (
        refl,
        (
          refl,
          (
            amounts (Takes command.Read KeyLength) key_length (λ x. inl refl),
            (
              amounts (Takes command.Read Length) length (λ x. inl refl),
              (flags (Takes command.Read Generic) generic refl, (flags (Takes command.Read Gteq) gteq refl, (flags (Takes command.Read Update) update refl, tt))),
            ),
          ),
        ),
      ),
    )
fits (verb.Write file ridfld key_length from length) resp together =
    fits-of (record { verb = verb.Write file ridfld key_length from length; resp = resp }) command.Write refl refl refl
    (flags (Takes command.Write NoHandle) resp refl, (refl, (refl, (amounts (Takes command.Write KeyLength) key_length (λ x. inl refl), (refl, (amounts (Takes command.Write Length) length (λ x. inl refl), tt))))))
fits (verb.Rewrite file from length) resp together =
    fits-of (record { verb = verb.Rewrite file from length; resp = resp }) command.Rewrite refl refl refl
    (flags (Takes command.Rewrite NoHandle) resp refl, (refl, (refl, (amounts (Takes command.Rewrite Length) length (λ x. inl refl), tt))))
fits (verb.Delete file None (Some key_length) generic) resp together = let wrong : false ≡ true = together in cc
fits (verb.Delete file None None true) resp together = let wrong : false ≡ true = together in cc
fits (verb.Delete file None None false) resp together =
    fits-of (record { verb = verb.Delete file None None false; resp = resp }) command.Delete refl refl refl
    (flags (Takes command.Delete NoHandle) resp refl, (refl, (tt, (tt, (tt, (tt, tt))))))
fits (verb.Delete file (Some ridfld) key_length generic) resp together =
    fits-of (record { verb = verb.Delete file (Some ridfld) key_length generic; resp = resp }) command.Delete refl refl refl
    (flags (Takes command.Delete NoHandle) resp refl, (refl, (refl, (amounts (Takes command.Delete KeyLength) key_length (λ x. inl refl), (flags (Takes command.Delete Generic) generic refl, tt)))))
fits (verb.Unlock file) resp together =
    fits-of (record { verb = verb.Unlock file; resp = resp }) command.Unlock refl refl refl
    (flags (Takes command.Unlock NoHandle) resp refl, (refl, tt))
fits (verb.StartBr file ridfld key_length generic equal) resp together =
    fits-of (record { verb = verb.StartBr file ridfld key_length generic equal; resp = resp }) command.StartBr refl refl refl
    (flags (Takes command.StartBr NoHandle) resp refl, (refl, (refl, (amounts (Takes command.StartBr KeyLength) key_length (λ x. inl refl), (flags (Takes command.StartBr Generic) generic refl, (flags (Takes command.StartBr Equal) equal refl, tt))))))
fits (verb.ResetBr file ridfld key_length generic equal) resp together =
    fits-of (record { verb = verb.ResetBr file ridfld key_length generic equal; resp = resp }) command.ResetBr refl refl refl
    (flags (Takes command.ResetBr NoHandle) resp refl, (refl, (refl, (amounts (Takes command.ResetBr KeyLength) key_length (λ x. inl refl), (flags (Takes command.ResetBr Generic) generic refl, (flags (Takes command.ResetBr Equal) equal refl, tt))))))
fits (verb.ReadNext file length) resp together =
    fits-of (record { verb = verb.ReadNext file length; resp = resp }) command.ReadNext refl refl refl
    (flags (Takes command.ReadNext NoHandle) resp refl, (refl, (amounts (Takes command.ReadNext Length) length (λ x. inl refl), tt)))
fits (verb.ReadPrev file length) resp together =
    fits-of (record { verb = verb.ReadPrev file length; resp = resp }) command.ReadPrev refl refl refl
    (flags (Takes command.ReadPrev NoHandle) resp refl, (refl, (amounts (Takes command.ReadPrev Length) length (λ x. inl refl), tt)))
fits (verb.EndBr file) resp together =
    fits-of (record { verb = verb.EndBr file; resp = resp }) command.EndBr refl refl refl
    (flags (Takes command.EndBr NoHandle) resp refl, (refl, tt))
fits (verb.Enq resource length nosuspend) resp together =
    fits-of (record { verb = verb.Enq resource length nosuspend; resp = resp }) command.Enq refl refl refl
    (flags (Takes command.Enq NoHandle) resp refl, (refl, (inl refl, (flags (Takes command.Enq NoSuspend) nosuspend refl, tt))))
fits (verb.Deq resource length) resp together =
    fits-of (record { verb = verb.Deq resource length; resp = resp }) command.Deq refl refl refl
    (flags (Takes command.Deq NoHandle) resp refl, (refl, (inl refl, tt)))
fits verb.Syncpoint resp together =
    fits-of (record { verb = verb.Syncpoint; resp = resp }) command.Syncpoint refl refl refl
    (flags (Takes command.Syncpoint NoHandle) resp refl, (tt, tt))
fits verb.Rollback resp together =
    fits-of (record { verb = verb.Rollback; resp = resp }) command.Syncpoint refl refl refl
    (flags (Takes command.Syncpoint NoHandle) resp refl, (refl, tt))
fits verb.Return resp together =
    fits-of (record { verb = verb.Return; resp = resp }) command.Return refl refl refl
    (flags (Takes command.Return NoHandle) resp refl, tt)
fits (verb.Abend code) resp together =
    fits-of (record { verb = verb.Abend code; resp = resp }) command.Abend refl refl refl
    (flags (Takes command.Abend NoHandle) resp refl, (name4s (Takes command.Abend AbCode) code (λ x. refl), tt))
fits (verb.WriteqTs queue from length None) resp together =
    fits-of (record { verb = verb.WriteqTs queue from length None; resp = resp }) command.WriteqTs refl refl refl
    (flags (Takes command.WriteqTs NoHandle) resp refl, (refl, (refl, (amounts (Takes command.WriteqTs Length) length (λ x. inl refl), (tt, tt)))))
fits (verb.WriteqTs queue from length (Some item)) resp together =
    fits-of (record { verb = verb.WriteqTs queue from length (Some item); resp = resp }) command.WriteqTs refl refl refl
    (flags (Takes command.WriteqTs NoHandle) resp refl, (refl, (refl, (amounts (Takes command.WriteqTs Length) length (λ x. inl refl), (refl, (inr refl, tt))))))
fits (verb.ReadqTs queue length item) resp together =
    fits-of (record { verb = verb.ReadqTs queue length item; resp = resp }) command.ReadqTs refl refl refl
    (flags (Takes command.ReadqTs NoHandle) resp refl, (refl, (amounts (Takes command.ReadqTs Length) length (λ x. inl refl), (amounts (Takes command.ReadqTs Item) item (λ x. inl refl), tt))))
fits (verb.DeleteqTs queue) resp together =
    fits-of (record { verb = verb.DeleteqTs queue; resp = resp }) command.DeleteqTs refl refl refl
    (flags (Takes command.DeleteqTs NoHandle) resp refl, (refl, tt))
fits (verb.WriteqTd queue from length) resp together =
    fits-of (record { verb = verb.WriteqTd queue from length; resp = resp }) command.WriteqTd refl refl refl
    (flags (Takes command.WriteqTd NoHandle) resp refl, (refl, (refl, (amounts (Takes command.WriteqTd Length) length (λ x. inl refl), tt))))
fits (verb.ReadqTd queue length nosuspend) resp together =
    fits-of (record { verb = verb.ReadqTd queue length nosuspend; resp = resp }) command.ReadqTd refl refl refl
    (flags (Takes command.ReadqTd NoHandle) resp refl, (refl, (amounts (Takes command.ReadqTd Length) length (λ x. inl refl), (flags (Takes command.ReadqTd NoSuspend) nosuspend refl, tt))))
fits (verb.DeleteqTd queue) resp together =
    fits-of (record { verb = verb.DeleteqTd queue; resp = resp }) command.DeleteqTd refl refl refl
    (flags (Takes command.DeleteqTd NoHandle) resp refl, (refl, tt))

-- and has a spelling
pub spelling : (asked : Command) → IsTrue (go_together asked.verb) → AllCanBeGiven (options_of asked.verb) → Spelling asked
spelling asked together can =
    let fit = fits asked.verb asked.resp together in
    let rows = asked_of asked in
    let all = all-spelled (form.Command fit.first) rows fit.of_kind (flag-given asked.resp, can) in
    let clear = apart-present rows fit.plain in
    let given = given-present rows fit.plain in
    let handled = has-gives (present rows) clear NoHandle asked.resp given.0 in
    record {
      first = fit.first;
      options = options_written rows;
      entries = present rows;
      spells = record { word = fit.word; are_options = all.0; are_apart = clear; says = (given.1, rw (has-present Resp rows fit.other) handled) };
      are_written = all.1;
    }

-- its options are those of the command, in their order
pub spelled-options : (asked : Command) (together : IsTrue (go_together asked.verb)) (can : AllCanBeGiven (options_of asked.verb))
    → (spelling asked together can).options ≡ options_written (asked_of asked)
unfolding spelling
spelled-options asked together can = refl
