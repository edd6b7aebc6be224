-- Options that are written one after another are read one after another, whatever their order.
use Rattle.std.proofs.Common.{◌≡◌, ◌≢◌, Bool, true, false, ◌||◌, ℕ, List, [], ◌∷◌, ◌++◌, refl, ap, sym, ◌∙◌, subst, Option, Some, None, inl, inr, append-nil, append_assoc}
use Rattle.std.specs.Prelude.{Result, Ok, Err, if◌then◌else◌, is_some, option_map, IfSome}
use Rattle.std.specs.List.{list_any, flat_map}
use Rattle.std.proofs.lemmas.List.Folds.{list_any-append}
use Rattle.cics_script.specs.declared.words.LineForm.{LineForm}
use Rattle.cics_script.specs.declared.words.OptionWord.{OptionWord}
use Rattle.cics_script.specs.declared.words.OptionWord.TheVariants.{File, TsPrefix, TdQueue, KeyLength, KeyOffset, RecordSize, Recoverable, Unrecoverable, Logical, Physical, Unrecovered, From, Transid, Dtimout, Ridfld, Length, Into, Generic, Equal}
use Rattle.cics_script.specs.declared.words.OptionWord.TheVariants.{Gteq, Update, NumRec, Queue, Item, Next, Rewrite, Main, Auxiliary, Resource, NoSuspend, Rollback, AbCode, Cancel, NoDump, Resp, Resp2, NoHandle, EndExec}
use Rattle.cics_script.specs.declared.words.ValueKind.{ValueKind}
use Rattle.cics_script.specs.declared.words.ValueKind.TheVariants.{Flag, Text, Name8, Name4, Number, Area, Last}
use Rattle.cics_script.specs.Faults.{◌>>=◌}
use Rattle.cics_script.specs.Tokens.{Token, word, number, literal, opening, closing, broken}
use Rattle.cics_script.specs.Words.{lookup, option_word, option_words, commands, queue_words, same, excludes, kind_in}
use Rattle.cics_script.specs.Options.{Content, Entry, Place, name8, name4, text, amount, content_in, nothing, at_option, at_value, at_closing, behind_option, moves, reads, entered, allowed, options}
use Rattle.cics_script.specs.Values.{content_at, has, amount_at, text_at, name4_at, name8_at}
use Rattle.cics_script.specs.Commands.{verb_in, is_handled}
use Rattle.cics_names.specs.declared.commands.Command.{Command}
use Rattle.cics_names.specs.declared.commands.Verb.{Verb}
use Rattle.cics_names.specs.declared.commands.Verb.TheVariants as verb
use Rattle.cics_script.specs.declared.faults.LineFault.TheVariants.{BadLiteral}
use Rattle.cics_script.specs.declared.lines.Line.TheVariants.{Issue}
use Rattle.cics_script.specs.declared.words.CommandWord.{CommandWord}
use Rattle.cics_script.specs.Lines.{command_line, known, taken, command_at, issued}
use Rattle.cics_script.specs.declared.lines.Line.{Line}
use Rattle.cics_script.specs.declared.faults.LineFault.{LineFault}
use Rattle.std.proofs.lemmas.Bool.{cases_Bool}
use Rattle.cics_script.specs.declared.words.CommandWord.TheVariants as command
use Rattle.cics_script.specs.Spelling.Spelling.{Written, command_word, value_tokens, option_tokens, is_bare, IsValue, MayPrecede, IsWritten, AreOptions, AreApart, Stands, Gives, flag, options_of, word_of, AllGiven, queue_tokens, verb_tokens, Spells}
use Rattle.cics_script.proofs.OptionSteps.{entered-value, reads-entered, reads-further}
use lib.Chars.{codes}

lookup-option_word : (option : OptionWord) → Some option ≡ lookup (option_word option) option_words
lookup-option_word File = refl
lookup-option_word TsPrefix = refl
lookup-option_word TdQueue = refl
lookup-option_word KeyLength = refl
lookup-option_word KeyOffset = refl
lookup-option_word RecordSize = refl
lookup-option_word Recoverable = refl
lookup-option_word Unrecoverable = refl
lookup-option_word Logical = refl
lookup-option_word Physical = refl
lookup-option_word Unrecovered = refl
lookup-option_word From = refl
lookup-option_word Transid = refl
lookup-option_word Dtimout = refl
lookup-option_word Ridfld = refl
lookup-option_word Length = refl
lookup-option_word Into = refl
lookup-option_word Generic = refl
lookup-option_word Equal = refl
lookup-option_word Gteq = refl
lookup-option_word Update = refl
lookup-option_word NumRec = refl
lookup-option_word Queue = refl
lookup-option_word Item = refl
lookup-option_word Next = refl
lookup-option_word Rewrite = refl
lookup-option_word Main = refl
lookup-option_word Auxiliary = refl
lookup-option_word Resource = refl
lookup-option_word NoSuspend = refl
lookup-option_word Rollback = refl
lookup-option_word AbCode = refl
lookup-option_word Cancel = refl
lookup-option_word NoDump = refl
lookup-option_word Resp = refl
lookup-option_word Resp2 = refl
lookup-option_word NoHandle = refl
lookup-option_word EndExec = refl

pub both_false : (a b : Bool) → (a || b) ≡ false → (a ≡ false) × (b ≡ false)
both_false true b e = let wrong : true ≡ false = e in cc
both_false false b e = (refl, e)

or_false : (a b : Bool) → a ≡ false → b ≡ false → (a || b) ≡ false
or_false a b e f = ap (λ x. x || b) e ∙ f

-- what a later option has nothing to do with
apart_later : (found : List Entry) (entry : Entry) (later : List Entry) → AreApart (found ++ entry ∷ later)
    → (list_any (λ earlier. same earlier.0 entry.0) found ≡ false) × (list_any (λ earlier. excludes earlier.0 entry.0) found ≡ false)
apart_later [] entry later apart = (refl, refl)
apart_later (first ∷ found) entry later apart =
    let clashes : Entry → Bool = λ x. same first.0 x.0 || excludes first.0 x.0 in
    let parts = both_false (list_any clashes found) (list_any clashes (entry ∷ later)) (sym (list_any-append clashes found (entry ∷ later)) ∙ apart.0) in
    let here = both_false (same first.0 entry.0) (excludes first.0 entry.0) (both_false (clashes entry) (list_any clashes later) parts.1).0 in
    let rest = apart_later found entry later apart.1 in
    (or_false _ _ here.0 rest.0, or_false _ _ here.1 rest.1)

allowed-apart : (found : List Entry) (option : OptionWord) (kind : ValueKind)
    → list_any (λ earlier. same earlier.0 option) found ≡ false → list_any (λ earlier. excludes earlier.0 option) found ≡ false
    → Ok kind ≡ allowed found option (Some kind)
allowed-apart found option kind new free = rw new (rw free refl)

-- the place behind a value
abbrev behind_value : OptionWord → ValueKind → List Entry → Content → Place × List Entry
behind_value option kind found content = (at_closing option kind content, found)

content_in-broken : (kind : ValueKind) (fault : LineFault) → content_in kind (broken fault) ≡ Err fault
content_in-broken Flag fault = refl
content_in-broken Text fault = refl
content_in-broken Name8 fault = refl
content_in-broken Name4 fault = refl
content_in-broken Number fault = refl
content_in-broken Area fault = refl
content_in-broken Last fault = refl

-- a token where a value has to stand
moves-value : (form : LineForm) (option : OptionWord) (kind : ValueKind) (found : List Entry) (value : Token)
    → moves form (at_value option kind) found value ≡ content_in kind value >>= λ content. Ok (behind_value option kind found content)
moves-value form option kind found (word w) = refl
moves-value form option kind found (number n) = refl
moves-value form option kind found (literal notation said) = refl
moves-value form option kind found opening = refl
moves-value form option kind found closing = refl
moves-value form option kind found (broken fault) = ap (λ r. r >>= λ content. Ok (behind_value option kind found content)) (sym (content_in-broken kind fault))

-- an option that stands alone is whole behind its word
entered-bare : (option : OptionWord) (found : List Entry) (kind : ValueKind) → is_bare kind ≡ true → entered option found kind ≡ (behind_option kind, found ++ (option, nothing) ∷ [])
entered-bare option found Flag bare = refl
entered-bare option found Last bare = refl
entered-bare option found Text bare = let wrong : false ≡ true = bare in cc
entered-bare option found Name8 bare = let wrong : false ≡ true = bare in cc
entered-bare option found Name4 bare = let wrong : false ≡ true = bare in cc
entered-bare option found Number bare = let wrong : false ≡ true = bare in cc
entered-bare option found Area bare = let wrong : false ≡ true = bare in cc

-- a kind that has values doesn't stand alone
no_value : (kind : ValueKind) (token : Token) (content : Content) → is_bare kind ≡ true → content_in kind token ≡ Ok content → ⊥
no_value Flag (word w) content bare e = let wrong : Err BadLiteral ≡ Ok content = e in cc
no_value Flag (number n) content bare e = let wrong : Err BadLiteral ≡ Ok content = e in cc
no_value Flag (literal notation said) content bare e = let wrong : Err BadLiteral ≡ Ok content = e in cc
no_value Flag opening content bare e = let wrong : Err BadLiteral ≡ Ok content = e in cc
no_value Flag closing content bare e = let wrong : Err BadLiteral ≡ Ok content = e in cc
no_value Flag (broken fault) content bare e = let wrong : Err fault ≡ Ok content = e in cc
no_value Last (word w) content bare e = let wrong : Err BadLiteral ≡ Ok content = e in cc
no_value Last (number n) content bare e = let wrong : Err BadLiteral ≡ Ok content = e in cc
no_value Last (literal notation said) content bare e = let wrong : Err BadLiteral ≡ Ok content = e in cc
no_value Last opening content bare e = let wrong : Err BadLiteral ≡ Ok content = e in cc
no_value Last closing content bare e = let wrong : Err BadLiteral ≡ Ok content = e in cc
no_value Last (broken fault) content bare e = let wrong : Err fault ≡ Ok content = e in cc
no_value Text token content bare e = let wrong : false ≡ true = bare in cc
no_value Name8 token content bare e = let wrong : false ≡ true = bare in cc
no_value Name4 token content bare e = let wrong : false ≡ true = bare in cc
no_value Number token content bare e = let wrong : false ≡ true = bare in cc
no_value Area token content bare e = let wrong : false ≡ true = bare in cc

valued : (kind bare : ValueKind) (token : Token) (content : Content) → is_bare bare ≡ true → content_in kind token ≡ Ok content → kind ≢ bare
valued kind bare token content stands value = λ is. no_value bare token content stands (subst (λ k. content_in k token ≡ Ok content) is value)

module _ (form : LineForm) (last : Option ValueKind) (found : List Entry) (option : OptionWord) (rest : List Token) (kind : ValueKind) (content : Content) where
  -- an option as it is written, and the place behind it
  reads-written : (value : Option Token) → kind_in form option ≡ Some kind → IsValue kind value content
      → list_any (λ earlier. same earlier.0 option) found ≡ false → list_any (λ earlier. excludes earlier.0 option) found ≡ false
      → reads form (at_option last) found (word (option_word option) ∷ (value_tokens value ++ rest)) ≡ reads form (behind_option kind) (found ++ (option, content) ∷ []) rest
  reads-written None is holds new free =
      reads-entered form last found (option_word option) option kind rest
      (sym (lookup-option_word option)) (allowed-apart found option kind new free ∙ ap (allowed found option) (sym is))
      ∙ ap (λ s. reads form s.0 s.1 rest) (entered-bare option found kind holds.0)
      ∙ ap (λ c. reads form (behind_option kind) (found ++ (option, c) ∷ []) rest) holds.1
  reads-written (Some value) is holds new free =
      reads-entered form last found (option_word option) option kind (opening ∷ value ∷ closing ∷ rest)
      (sym (lookup-option_word option)) (allowed-apart found option kind new free ∙ ap (allowed found option) (sym is))
      ∙ ap (λ s. reads form s.0 s.1 (opening ∷ value ∷ closing ∷ rest)) (entered-value option found kind (valued kind Flag value content refl holds) (valued kind Last value content refl holds))
      ∙ ap (λ r. r >>= λ s. reads form s.0 s.1 (closing ∷ rest)) (moves-value form option kind found value)
      ∙ ap (λ r. (r >>= λ c. Ok (behind_value option kind found c)) >>= λ s. reads form s.0 s.1 (closing ∷ rest)) holds
      ∙ reads-further form kind (found ++ (option, content) ∷ []) rest (valued kind Last value content refl holds)

module _ (form : LineForm) (found : List Entry) (entry : Entry) where
  -- behind END-EXEC stands nothing, and behind any other option what can be read behind it
  reads-others : (kind : ValueKind) (others : List Written) (entries : List Entry) → MayPrecede kind others → AreOptions form others entries
      → ((last : Option ValueKind) → reads form (at_option last) (found ++ entry ∷ []) (flat_map option_tokens others) ≡ Ok (found ++ entry ∷ entries))
      → reads form (behind_option kind) (found ++ entry ∷ []) (flat_map option_tokens others) ≡ Ok (found ++ entry ∷ entries)
  reads-others Last [] [] may are others_read = refl
  reads-others Last [] (later ∷ entries) may are others_read = absurd are
  reads-others Last (other ∷ others) entries may are others_read = absurd may
  reads-others Flag others entries may are others_read = others_read (Some Flag)
  reads-others Text others entries may are others_read = others_read (Some Text)
  reads-others Name8 others entries may are others_read = others_read (Some Name8)
  reads-others Name4 others entries may are others_read = others_read (Some Name4)
  reads-others Number others entries may are others_read = others_read (Some Number)
  reads-others Area others entries may are others_read = others_read (Some Area)

  reads-first : (last : Option ValueKind) (one : Written) (others : List Written) (entries : List Entry) (kind : Option ValueKind) → kind_in form entry.0 ≡ kind
      → one.option ≡ entry.0 → IsWritten kind one.value entry.1 others → AreOptions form others entries
      → list_any (λ earlier. same earlier.0 entry.0) found ≡ false → list_any (λ earlier. excludes earlier.0 entry.0) found ≡ false
      → ((last : Option ValueKind) → reads form (at_option last) (found ++ entry ∷ []) (flat_map option_tokens others) ≡ Ok (found ++ entry ∷ entries))
      → reads form (at_option last) found (flat_map option_tokens (one ∷ others)) ≡ Ok (found ++ entry ∷ entries)
  reads-first last one others entries None is here written are new free others_read = absurd written
  reads-first last one others entries (Some kind) is here written are new free others_read =
      ap (λ o. reads form (at_option last) found (word (option_word o) ∷ (value_tokens one.value ++ flat_map option_tokens others))) here
      ∙ reads-written form last found entry.0 (flat_map option_tokens others) kind entry.1 one.value is written.0 new free
      ∙ reads-others kind others entries written.1 are others_read

-- options as they are written, behind those that were read
reads-options : (form : LineForm) (written : List Written) (last : Option ValueKind) (found entries : List Entry)
    → AreOptions form written entries → AreApart (found ++ entries)
    → reads form (at_option last) found (flat_map option_tokens written) ≡ Ok (found ++ entries)
reads-options form [] last found [] are apart = ap Ok (sym (append-nil found))
reads-options form [] last found (entry ∷ entries) are apart = absurd are
reads-options form (one ∷ others) last found [] are apart = absurd are
reads-options form (one ∷ others) last found (entry ∷ entries) are apart =
    let clear = apart_later found entry entries apart in
    let behind = append_assoc found (entry ∷ []) entries in
    reads-first form found entry last one others entries (kind_in form entry.0) refl are.0 are.1 are.2 clear.0 clear.1
    (λ last. reads-options form others last (found ++ entry ∷ []) entries are.2 (subst AreApart (sym behind) apart) ∙ ap Ok behind)

-- the options of a line, as they are written
pub options-written : (form : LineForm) (written : List Written) (entries : List Entry)
    → AreOptions form written entries → AreApart entries → options form (flat_map option_tokens written) ≡ Ok entries
options-written form written entries are apart = reads-options form written None [] entries are apart

same-itself : (option : OptionWord) → same option option ≡ true
same-itself File = refl
same-itself TsPrefix = refl
same-itself TdQueue = refl
same-itself KeyLength = refl
same-itself KeyOffset = refl
same-itself RecordSize = refl
same-itself Recoverable = refl
same-itself Unrecoverable = refl
same-itself Logical = refl
same-itself Physical = refl
same-itself Unrecovered = refl
same-itself From = refl
same-itself Transid = refl
same-itself Dtimout = refl
same-itself Ridfld = refl
same-itself Length = refl
same-itself Into = refl
same-itself Generic = refl
same-itself Equal = refl
same-itself Gteq = refl
same-itself Update = refl
same-itself NumRec = refl
same-itself Queue = refl
same-itself Item = refl
same-itself Next = refl
same-itself Rewrite = refl
same-itself Main = refl
same-itself Auxiliary = refl
same-itself Resource = refl
same-itself NoSuspend = refl
same-itself Rollback = refl
same-itself AbCode = refl
same-itself Cancel = refl
same-itself NoDump = refl
same-itself Resp = refl
same-itself Resp2 = refl
same-itself NoHandle = refl
same-itself EndExec = refl

-- an option that stands behind another one is another
stands-other : (first : OptionWord) (entry : Entry) (entries : List Entry) → Stands entry entries
    → list_any (λ later. same first later.0 || excludes first later.0) entries ≡ false → same first entry.0 ≡ false
stands-other first entry [] stands apart = absurd stands
stands-other first entry (other ∷ entries) (inl is) apart =
    ap (λ e. same first e.0) is ∙ (both_false _ _ (both_false _ _ apart).0).0
stands-other first entry (other ∷ entries) (inr stands) apart = stands-other first entry entries stands (both_false _ _ apart).1

-- what an option gives doesn't depend on where it stands
pub content_at-stands : (option : OptionWord) (content : Content) (entries : List Entry) → AreApart entries → Stands (option, content) entries
    → content_at option entries ≡ Some content
content_at-stands option content [] apart stands = absurd stands
content_at-stands option content (first ∷ entries) apart (inl is) =
    subst (λ e. (if same e.0 option then Some e.1 else content_at option entries) ≡ Some content) is
    (rw (same-itself option) refl)
content_at-stands option content (first ∷ entries) apart (inr stands) =
    rw (stands-other first.0 (option, content) entries stands apart.0) (content_at-stands option content entries apart.1 stands)

-- what stands at an option that isn't there
content_at-absent : (option : OptionWord) (entries : List Entry) → has option entries ≡ false → content_at option entries ≡ None
content_at-absent option [] absent = refl
content_at-absent option (first ∷ entries) absent =
    let parts = both_false (same first.0 option) (has option entries) absent in
    rw parts.0 (content_at-absent option entries parts.1)

has-content_at : (option : OptionWord) (entries : List Entry) → has option entries ≡ is_some (content_at option entries)
has-content_at option [] = refl
has-content_at option (first ∷ entries) =
    elim (cases_Bool (same first.0 option)) [ inl here ↦ rw here refl | inr other ↦ rw other (has-content_at option entries) ]

module _ (entries : List Entry) (apart : AreApart entries) where
  -- what an option gives that is there with this content, or isn't there
  content_at-gives : (option : OptionWord) (content : Option Content) → Gives option content entries → content_at option entries ≡ content
  content_at-gives option None absent = content_at-absent option entries absent
  content_at-gives option (Some content) stands = content_at-stands option content entries apart stands

  pub has-gives : (option : OptionWord) (b : Bool) → Gives option (flag b) entries → has option entries ≡ b
  has-gives option true gives = has-content_at option entries ∙ ap is_some (content_at-gives option (Some nothing) gives)
  has-gives option false gives = gives

  amount_at-gives : (option : OptionWord) (n : Option ℕ) → Gives option (option_map amount n) entries → amount_at option entries ≡ n
  amount_at-gives option None gives = rw (content_at-gives option None gives) refl
  amount_at-gives option (Some n) gives = rw (content_at-gives option (Some (amount n)) gives) refl

  name4_at-gives : (option : OptionWord) (name : Option (List ℕ)) → Gives option (option_map name4 name) entries → name4_at option entries ≡ name
  name4_at-gives option None gives = rw (content_at-gives option None gives) refl
  name4_at-gives option (Some name) gives = rw (content_at-gives option (Some (name4 name)) gives) refl

  text_at-gives : (option : OptionWord) (said : List ℕ) → Gives option (Some (text said)) entries → text_at option entries ≡ Some said
  text_at-gives option said gives = rw (content_at-gives option (Some (text said)) gives) refl

  name8_at-gives : (option : OptionWord) (name : List ℕ) → Gives option (Some (name8 name)) entries → name8_at option entries ≡ Some name
  name8_at-gives option name gives = rw (content_at-gives option (Some (name8 name)) gives) refl

  -- what a command asks for, by what its options give
  verb_in-given : (asked : Verb) → AllGiven (options_of asked) entries → IfSome (word_of asked) (λ first. verb_in first entries ≡ Ok asked)
  verb_in-given (verb.Read file ridfld key_length length generic gteq update) given =
      rw (
        name8_at-gives File file given.0,
        text_at-gives Ridfld ridfld given.1.0,
        amount_at-gives KeyLength key_length given.1.1.0,
        amount_at-gives Length length given.1.1.1.0,
        has-gives Generic generic given.1.1.1.1.0,
        has-gives Gteq gteq given.1.1.1.1.1.0,
        has-gives Update update given.1.1.1.1.1.1.0,
      ) refl
  verb_in-given (verb.Write file ridfld key_length from length) given =
      rw (name8_at-gives File file given.0, text_at-gives Ridfld ridfld given.1.0, amount_at-gives KeyLength key_length given.1.1.0, text_at-gives From from given.1.1.1.0, amount_at-gives Length length given.1.1.1.1.0) refl
  verb_in-given (verb.Rewrite file from length) given =
      rw (name8_at-gives File file given.0, text_at-gives From from given.1.0, amount_at-gives Length length given.1.1.0) refl
  verb_in-given (verb.Delete file None (Some key_length) generic) given = tt
  verb_in-given (verb.Delete file None None true) given = tt
  verb_in-given (verb.Delete file None None false) given =
      rw (name8_at-gives File file given.0, content_at-absent Ridfld entries given.1.0, given.1.1.0, given.1.1.1.0, given.1.1.1.1.0) refl
  verb_in-given (verb.Delete file (Some ridfld) key_length generic) given =
      rw (name8_at-gives File file given.0, text_at-gives Ridfld ridfld given.1.0, amount_at-gives KeyLength key_length given.1.1.0, has-gives Generic generic given.1.1.1.0) refl
  verb_in-given (verb.Unlock file) given = rw (name8_at-gives File file given.0) refl
  verb_in-given (verb.StartBr file ridfld key_length generic equal) given =
      rw (name8_at-gives File file given.0, text_at-gives Ridfld ridfld given.1.0, amount_at-gives KeyLength key_length given.1.1.0, has-gives Generic generic given.1.1.1.0, has-gives Equal equal given.1.1.1.1.0) refl
  verb_in-given (verb.ResetBr file ridfld key_length generic equal) given =
      rw (name8_at-gives File file given.0, text_at-gives Ridfld ridfld given.1.0, amount_at-gives KeyLength key_length given.1.1.0, has-gives Generic generic given.1.1.1.0, has-gives Equal equal given.1.1.1.1.0) refl
  verb_in-given (verb.ReadNext file length) given =
      rw (name8_at-gives File file given.0, amount_at-gives Length length given.1.0) refl
  verb_in-given (verb.ReadPrev file length) given =
      rw (name8_at-gives File file given.0, amount_at-gives Length length given.1.0) refl
  verb_in-given (verb.EndBr file) given = rw (name8_at-gives File file given.0) refl
  verb_in-given (verb.WriteqTs queue from length None) given =
      rw (name8_at-gives Queue queue given.0, text_at-gives From from given.1.0, amount_at-gives Length length given.1.1.0, given.1.1.1.0) refl
  verb_in-given (verb.WriteqTs queue from length (Some item)) given =
      rw (name8_at-gives Queue queue given.0, text_at-gives From from given.1.0, amount_at-gives Length length given.1.1.0, has-gives Rewrite true given.1.1.1.0, content_at-gives Item (Some (amount item)) given.1.1.1.1.0) refl
  verb_in-given (verb.ReadqTs queue length item) given =
      rw (name8_at-gives Queue queue given.0, amount_at-gives Length length given.1.0, amount_at-gives Item item given.1.1.0) refl
  verb_in-given (verb.DeleteqTs queue) given = rw (name8_at-gives Queue queue given.0) refl
  verb_in-given (verb.WriteqTd queue from length) given =
      rw (name4_at-gives Queue (Some queue) given.0, text_at-gives From from given.1.0, amount_at-gives Length length given.1.1.0) refl
  verb_in-given (verb.ReadqTd queue length nosuspend) given =
      rw (name4_at-gives Queue (Some queue) given.0, amount_at-gives Length length given.1.0, has-gives NoSuspend nosuspend given.1.1.0) refl
  verb_in-given (verb.DeleteqTd queue) given = rw (name4_at-gives Queue (Some queue) given.0) refl
  verb_in-given (verb.Enq resource length nosuspend) given =
      rw (text_at-gives Resource resource given.0, amount_at-gives Length (Some length) given.1.0, has-gives NoSuspend nosuspend given.1.1.0) refl
  verb_in-given (verb.Deq resource length) given =
      rw (text_at-gives Resource resource given.0, amount_at-gives Length (Some length) given.1.0) refl
  verb_in-given verb.Syncpoint given = rw (has-gives Rollback false given.0) refl
  verb_in-given verb.Rollback given = rw (has-gives Rollback true given.0) refl
  verb_in-given verb.Return given = refl
  verb_in-given (verb.Abend code) given = rw (name4_at-gives AbCode code given.0) refl

-- the command of a verb without TS or TD behind it
abbrev verb_alone : CommandWord → CommandWord
verb_alone command.WriteqTd = command.WriteqTs
verb_alone command.ReadqTd = command.ReadqTs
verb_alone command.DeleteqTd = command.DeleteqTs
verb_alone first = first

lookup-command_word : (first : CommandWord) → Some (verb_alone first) ≡ lookup (command_word first) commands
lookup-command_word command.Read = refl
lookup-command_word command.Write = refl
lookup-command_word command.Rewrite = refl
lookup-command_word command.Delete = refl
lookup-command_word command.Unlock = refl
lookup-command_word command.StartBr = refl
lookup-command_word command.ResetBr = refl
lookup-command_word command.ReadNext = refl
lookup-command_word command.ReadPrev = refl
lookup-command_word command.EndBr = refl
lookup-command_word command.WriteqTs = refl
lookup-command_word command.ReadqTs = refl
lookup-command_word command.DeleteqTs = refl
lookup-command_word command.WriteqTd = refl
lookup-command_word command.ReadqTd = refl
lookup-command_word command.DeleteqTd = refl
lookup-command_word command.Enq = refl
lookup-command_word command.Deq = refl
lookup-command_word command.Syncpoint = refl
lookup-command_word command.Return = refl
lookup-command_word command.Abend = refl

-- no option is written as a word that may stand right behind a verb
no_queue_word : (ts td : CommandWord) (option : OptionWord) → lookup (option_word option) ((codes "TS", ts) ∷ (codes "TD", td) ∷ []) ≡ None
no_queue_word ts td File = refl
no_queue_word ts td TsPrefix = refl
no_queue_word ts td TdQueue = refl
no_queue_word ts td KeyLength = refl
no_queue_word ts td KeyOffset = refl
no_queue_word ts td RecordSize = refl
no_queue_word ts td Recoverable = refl
no_queue_word ts td Unrecoverable = refl
no_queue_word ts td Logical = refl
no_queue_word ts td Physical = refl
no_queue_word ts td Unrecovered = refl
no_queue_word ts td From = refl
no_queue_word ts td Transid = refl
no_queue_word ts td Dtimout = refl
no_queue_word ts td Ridfld = refl
no_queue_word ts td Length = refl
no_queue_word ts td Into = refl
no_queue_word ts td Generic = refl
no_queue_word ts td Equal = refl
no_queue_word ts td Gteq = refl
no_queue_word ts td Update = refl
no_queue_word ts td NumRec = refl
no_queue_word ts td Queue = refl
no_queue_word ts td Item = refl
no_queue_word ts td Next = refl
no_queue_word ts td Rewrite = refl
no_queue_word ts td Main = refl
no_queue_word ts td Auxiliary = refl
no_queue_word ts td Resource = refl
no_queue_word ts td NoSuspend = refl
no_queue_word ts td Rollback = refl
no_queue_word ts td AbCode = refl
no_queue_word ts td Cancel = refl
no_queue_word ts td NoDump = refl
no_queue_word ts td Resp = refl
no_queue_word ts td Resp2 = refl
no_queue_word ts td NoHandle = refl
no_queue_word ts td EndExec = refl

-- where TS is left out the options follow the verb
left_out_at : (verb td : CommandWord) (options : List Written) → queue_words verb ≡ (codes "TS", verb) ∷ (codes "TD", td) ∷ []
    → command_at verb (flat_map option_tokens options) ≡ (verb, flat_map option_tokens options)
left_out_at verb td [] words = refl
left_out_at verb td (option ∷ options) words =
    let rest = value_tokens option.value ++ flat_map option_tokens options in
    ap (λ rows. taken (lookup (option_word option.option) rows) verb (option_word option.option) rest) words
    ∙ ap (λ found. taken found verb (option_word option.option) rest) (no_queue_word verb td option.option)

-- behind the other verbs too
options_at : (verb : CommandWord) (options : List Written) → queue_words verb ≡ []
    → command_at verb (flat_map option_tokens options) ≡ (verb, flat_map option_tokens options)
options_at verb [] words = refl
options_at verb (option ∷ options) words =
    ap (λ rows. taken (lookup (option_word option.option) rows) verb (option_word option.option) (value_tokens option.value ++ flat_map option_tokens options)) words

-- a command's word, and TS or TD behind it, are read as the command
command_at-written : (first : CommandWord) (left_out : Bool) (options : List Written)
    → command_at (verb_alone first) (queue_tokens first left_out ++ flat_map option_tokens options) ≡ (first, flat_map option_tokens options)
command_at-written command.WriteqTs false options = refl
command_at-written command.ReadqTs false options = refl
command_at-written command.DeleteqTs false options = refl
command_at-written command.WriteqTs true options = left_out_at command.WriteqTs command.WriteqTd options refl
command_at-written command.ReadqTs true options = left_out_at command.ReadqTs command.ReadqTd options refl
command_at-written command.DeleteqTs true options = left_out_at command.DeleteqTs command.DeleteqTd options refl
command_at-written command.WriteqTd left_out options = refl
command_at-written command.ReadqTd left_out options = refl
command_at-written command.DeleteqTd left_out options = refl
command_at-written command.Read left_out options = options_at command.Read options refl
command_at-written command.Write left_out options = options_at command.Write options refl
command_at-written command.Rewrite left_out options = options_at command.Rewrite options refl
command_at-written command.Delete left_out options = options_at command.Delete options refl
command_at-written command.Unlock left_out options = options_at command.Unlock options refl
command_at-written command.StartBr left_out options = options_at command.StartBr options refl
command_at-written command.ResetBr left_out options = options_at command.ResetBr options refl
command_at-written command.ReadNext left_out options = options_at command.ReadNext options refl
command_at-written command.ReadPrev left_out options = options_at command.ReadPrev options refl
command_at-written command.EndBr left_out options = options_at command.EndBr options refl
command_at-written command.Enq left_out options = options_at command.Enq options refl
command_at-written command.Deq left_out options = options_at command.Deq options refl
command_at-written command.Syncpoint left_out options = options_at command.Syncpoint options refl
command_at-written command.Return left_out options = options_at command.Return options refl
command_at-written command.Abend left_out options = options_at command.Abend options refl

given-word : (found : Option CommandWord) (first : CommandWord) (P : CommandWord → Type 0) → found ≡ Some first → IfSome found P → P first
given-word found first P is holds = subst (λ o. IfSome o P) is holds

-- what is made of the options that were read
abbrev made_of : List ℕ → CommandWord → List Entry → Result Line LineFault
made_of label first entries = verb_in first entries >>= λ made. Ok (Issue label (record { verb = made; resp = is_handled entries }))

-- what its first word names and the tokens behind that word are, as the command of a task
abbrev with_rest : List Token → CommandWord → Result (CommandWord × List Token) LineFault
with_rest rest verb = Ok (verb, rest)

abbrev issued_of : List ℕ → List Token → Option CommandWord → Result Line LineFault
issued_of label rest found = (known found >>= with_rest rest) >>= λ found. issued label (command_at found.0 found.1)

-- the line of a command, as it is written
pub command-written : (label : List ℕ) (asked : Command) (first : CommandWord) (left_out : Bool) (written : List Written) (entries : List Entry)
    → Spells asked first written entries → command_line label (verb_tokens first left_out written) ≡ Ok (Issue label asked)
command-written label asked first left_out written entries spells =
    ap (issued_of label (queue_tokens first left_out ++ flat_map option_tokens written)) (sym (lookup-command_word first))
    ∙ ap (issued label) (command_at-written first left_out written)
    ∙ ap (λ read. read >>= made_of label first) (options-written (LineForm.Command first) written entries spells.are_options spells.are_apart)
    ∙ ap (λ made. made >>= λ made. Ok (Issue label (record { verb = made; resp = is_handled entries })))
    (given-word (word_of asked.verb) first (λ first. verb_in first entries ≡ Ok asked.verb) spells.word (verb_in-given entries spells.are_apart asked.verb spells.says.0))
    ∙ ap (λ resp. Ok (Issue label (record { verb = asked.verb; resp = resp }))) spells.says.1
