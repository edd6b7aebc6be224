-- A command that is written out is read back.
use Rattle.std.proofs.Common.{◌≡◌, ◌≤◌, true, false, ℕ, List, [], ◌∷◌, ◌++◌, length, map, refl, ap, sym, ◌∙◌, subst, append_assoc, append-nil, Option, Some, None, inl, inr}
use Rattle.std.proofs.lemmas.Bool.{cases_Bool}
use Rattle.std.proofs.lemmas.List.Folds.{list_all-append}
use Rattle.std.specs.Prelude.{Ok, IsTrue, is_some, unwrap_or, option_map}
use Rattle.std.specs.List.{flat_map, list_all}
use Rattle.std.specs.Option.{option_to_list}
use Rattle.std.specs.Fmt.{decimal}
use Rattle.cics_names.specs.Ebcdic.{character_of}
use Rattle.cics_names.specs.declared.commands.Command.{Command}
use Rattle.cics_script.specs.declared.words.CommandWord.{CommandWord}
use Rattle.cics_script.specs.declared.words.CommandWord.TheVariants as command
use Rattle.cics_script.specs.declared.words.OptionWord.{OptionWord}
use Rattle.cics_script.specs.declared.lines.Line.TheVariants.{Issue}
use Rattle.cics_script.specs.Tokens.{Token, word, number, opening, closing, tokens}
use Rattle.cics_script.specs.Options.{Content, text, name8, name4, amount, nothing}
use Rattle.cics_script.specs.Texts.{doubled, quoted, text_of, name_text, unfilled}
use Rattle.cics_script.specs.Lines.{is_script_byte, label_in, statement, line}
use Rattle.cics_script.specs.Layout.{token_bytes, is_word, IsWritable}
use Rattle.cics_script.specs.Spelling.WrittenOut.{in_parentheses, value_text, option_text, queue_text, command_text, asked_of, written_with, written_out}
use Rattle.cics_script.specs.Words.{option_word}
use Rattle.cics_script.specs.Spelling.Spelling.{command_word, value_tokens, option_tokens, queue_tokens, command_tokens, options_of, CanBeGiven, AllCanBeGiven, go_together}
use Rattle.cics_script.specs.Layout.{ends}
use Rattle.cics_script.proofs.Layouts.{both_true, tokens-written, tokens-opening, tokens-blank, script-written, no_comment-word}
use Rattle.cics_script.proofs.OfSpelling.NamesBack.{character, is_coded, name-coded}
use Rattle.cics_script.proofs.OfSpelling.Written.{is_word-option, is_word-command, line-statement, statement-written}
use Rattle.cics_script.proofs.OfSpelling.Spelled.{Asked, literal_of, name_literal, token_of, options_written, characters-coded, literal-writable, flag-given, spelling, spelled-options}
use lib.Chars.{codes}

-- ---- what is printed of a record, a name and a number is a token

quoted-one : (found : Option ℕ) → is_some found ≡ true → flat_map doubled (option_to_list found) ≡ doubled (unwrap_or found 32)
quoted-one None some = let wrong : false ≡ true = some in cc
quoted-one (Some c) some = append-nil (doubled c)

quoted-all : (bytes : List ℕ) → list_all is_coded bytes ≡ true → flat_map quoted bytes ≡ flat_map doubled (map character bytes)
quoted-all [] all = refl
quoted-all (b ∷ bytes) all =
    let parts = both_true (is_coded b) (list_all is_coded bytes) all in
    ap (λ front. front ++ flat_map quoted bytes) (quoted-one (character_of b) parts.0)
    ∙ ap (λ rest. doubled (character b) ++ rest) (quoted-all bytes parts.1)

text-token : (bytes : List ℕ) → text_of bytes ≡ token_bytes (literal_of bytes)
text-token bytes =
    elim (cases_Bool (list_all is_coded bytes)) [
      | inl all ↦ rw all (ap (λ said. 39 ∷ (said ++ 39 ∷ [])) (quoted-all bytes all))
      | inr some ↦ rw some refl
    ]

name-token : (name : List ℕ) → list_all is_coded (unfilled name) ≡ true → name_text name ≡ token_bytes (name_literal name)
name-token name all = rw all (ap (λ said. 39 ∷ (said ++ 39 ∷ [])) (quoted-all (unfilled name) all))

-- ---- the tokens of what is written

-- a token in parentheses
parenthesised : (token : Token) (value rest : List ℕ) → value ≡ token_bytes token → IsWritable token → ends rest ≡ true
    → tokens (in_parentheses value ++ rest) ≡ opening ∷ token ∷ closing ∷ tokens rest
parenthesised token value rest is can gap =
    ap (λ bytes. tokens (40 ∷ bytes)) (append_assoc value (codes ")") rest)
    ∙ tokens-opening (value ++ 41 ∷ rest)
    ∙ ap (λ bytes. opening ∷ tokens (bytes ++ 41 ∷ rest)) is
    ∙ ap (λ ts. opening ∷ ts) (tokens-written token (41 ∷ rest) can refl)
    ∙ ap (λ ts. opening ∷ token ∷ ts) (tokens-written closing rest tt gap)

value-tokens : (content : Content) (rest : List ℕ) → CanBeGiven content → ends rest ≡ true → tokens (value_text content ++ rest) ≡ value_tokens (token_of content) ++ tokens rest
value-tokens (text bytes) rest can gap = parenthesised (literal_of bytes) (text_of bytes) rest (text-token bytes) (literal-writable bytes can) gap
value-tokens (name8 name) rest can gap =
    let all = name-coded 8 name can in
    parenthesised (name_literal name) (name_text name) rest (name-token name all) (characters-coded (unfilled name) all) gap
value-tokens (name4 name) rest can gap =
    let all = name-coded 4 name can in
    parenthesised (name_literal name) (name_text name) rest (name-token name all) (characters-coded (unfilled name) all) gap
value-tokens (amount n) rest can gap = parenthesised (number n) (decimal n) rest refl can gap
value-tokens nothing rest can gap = refl

value-ends : (content : Content) (rest : List ℕ) → ends rest ≡ true → ends (value_text content ++ rest) ≡ true
value-ends (text bytes) rest gap = refl
value-ends (name8 name) rest gap = refl
value-ends (name4 name) rest gap = refl
value-ends (amount n) rest gap = refl
value-ends nothing rest gap = gap

option-tokens : (option : OptionWord) (content : Content) (rest : List ℕ) → CanBeGiven content → ends rest ≡ true
    → tokens (option_text (option, Some content) ++ rest) ≡ word (option_word option) ∷ (value_tokens (token_of content) ++ tokens rest)
option-tokens option content rest can gap =
    tokens-blank ((option_word option ++ value_text content) ++ rest)
    ∙ ap tokens (append_assoc (option_word option) (value_text content) rest)
    ∙ tokens-written (word (option_word option)) (value_text content ++ rest) (is_word-option option) (value-ends content rest gap)
    ∙ ap (λ ts. word (option_word option) ∷ ts) (value-tokens content rest can gap)

options-end : (rows : Asked) → ends (flat_map option_text rows) ≡ true
options-end [] = refl
options-end ((option, None) ∷ rows) = options-end rows
options-end ((option, Some content) ∷ rows) = refl

options-tokens : (rows : Asked) → AllCanBeGiven rows → tokens (flat_map option_text rows) ≡ flat_map option_tokens (options_written rows)
options-tokens [] can = refl
options-tokens ((option, None) ∷ rows) can = options-tokens rows can.1
options-tokens ((option, Some content) ∷ rows) can =
    option-tokens option content (flat_map option_text rows) can.0 (options-end rows)
    ∙ ap (λ ts. word (option_word option) ∷ (value_tokens (token_of content) ++ ts)) (options-tokens rows can.1)

queue-tokens : (first : CommandWord) (rest : List ℕ) → ends rest ≡ true → tokens (queue_text first ++ rest) ≡ queue_tokens first false ++ tokens rest
queue-tokens command.WriteqTs rest gap = tokens-blank (codes "TS" ++ rest) ∙ tokens-written (word (codes "TS")) rest refl gap
queue-tokens command.ReadqTs rest gap = tokens-blank (codes "TS" ++ rest) ∙ tokens-written (word (codes "TS")) rest refl gap
queue-tokens command.DeleteqTs rest gap = tokens-blank (codes "TS" ++ rest) ∙ tokens-written (word (codes "TS")) rest refl gap
queue-tokens command.WriteqTd rest gap = tokens-blank (codes "TD" ++ rest) ∙ tokens-written (word (codes "TD")) rest refl gap
queue-tokens command.ReadqTd rest gap = tokens-blank (codes "TD" ++ rest) ∙ tokens-written (word (codes "TD")) rest refl gap
queue-tokens command.DeleteqTd rest gap = tokens-blank (codes "TD" ++ rest) ∙ tokens-written (word (codes "TD")) rest refl gap
queue-tokens command.Read rest gap = refl
queue-tokens command.Write rest gap = refl
queue-tokens command.Rewrite rest gap = refl
queue-tokens command.Delete rest gap = refl
queue-tokens command.Unlock rest gap = refl
queue-tokens command.StartBr rest gap = refl
queue-tokens command.ResetBr rest gap = refl
queue-tokens command.ReadNext rest gap = refl
queue-tokens command.ReadPrev rest gap = refl
queue-tokens command.EndBr rest gap = refl
queue-tokens command.Enq rest gap = refl
queue-tokens command.Deq rest gap = refl
queue-tokens command.Syncpoint rest gap = refl
queue-tokens command.Return rest gap = refl
queue-tokens command.Abend rest gap = refl

-- what stands behind a command's word is either a blank or the options
either-ends : (queue rest : List ℕ) → ends queue ≡ true → ends rest ≡ true → ends (queue ++ rest) ≡ true
either-ends [] rest queue_gap gap = gap
either-ends (c ∷ queue) rest queue_gap gap = queue_gap

-- a command's words: what stands behind the first is empty or begins with a gap, and each byte may stand in a script
command-words : (first : CommandWord) → (ends (queue_text first) ≡ true) × (list_all is_script_byte (command_text first) ≡ true)
command-words first = elim first as (λ first. (ends (queue_text first) ≡ true) × (list_all is_script_byte (command_text first) ≡ true)) [
  | command.WriteqTs ↦ (refl, refl)
  | command.ReadqTs ↦ (refl, refl)
  | command.DeleteqTs ↦ (refl, refl)
  | command.WriteqTd ↦ (refl, refl)
  | command.ReadqTd ↦ (refl, refl)
  | command.DeleteqTd ↦ (refl, refl)
  | command.Read ↦ (refl, refl)
  | command.Write ↦ (refl, refl)
  | command.Rewrite ↦ (refl, refl)
  | command.Delete ↦ (refl, refl)
  | command.Unlock ↦ (refl, refl)
  | command.StartBr ↦ (refl, refl)
  | command.ResetBr ↦ (refl, refl)
  | command.ReadNext ↦ (refl, refl)
  | command.ReadPrev ↦ (refl, refl)
  | command.EndBr ↦ (refl, refl)
  | command.Enq ↦ (refl, refl)
  | command.Deq ↦ (refl, refl)
  | command.Syncpoint ↦ (refl, refl)
  | command.Return ↦ (refl, refl)
  | command.Abend ↦ (refl, refl)
]

-- a command's line without its label and EXEC CICS
command-tokens : (first : CommandWord) (rows : Asked) → AllCanBeGiven rows
    → tokens (command_text first ++ flat_map option_text rows) ≡ word (command_word first) ∷ (queue_tokens first false ++ flat_map option_tokens (options_written rows))
command-tokens first rows can =
    let options = flat_map option_text rows in
    ap tokens (append_assoc (command_word first) (queue_text first) options)
    ∙ tokens-written (word (command_word first)) (queue_text first ++ options) (is_word-command first) (either-ends (queue_text first) options (command-words first).0 (options-end rows))
    ∙ ap (λ ts. word (command_word first) ∷ ts) (queue-tokens first options (options-end rows) ∙ ap (λ ts. queue_tokens first false ++ ts) (options-tokens rows can))

-- a command's line
line-tokens : (label : List ℕ) (first : CommandWord) (rows : Asked) → IsTrue (is_word label) → AllCanBeGiven rows
    → tokens (written_with label (flat_map option_text rows) (Some (command_text first))) ≡ command_tokens label first false (options_written rows)
line-tokens label first rows labelled can =
    let command = command_text first ++ flat_map option_text rows in
    tokens-written (word label) (codes " EXEC CICS " ++ command) labelled refl
    ∙ ap (λ ts. word label ∷ ts) (
    tokens-blank (codes "EXEC CICS " ++ command)
    ∙ tokens-written (word (codes "EXEC")) (codes " CICS " ++ command) refl refl
    ∙ ap (λ ts. word (codes "EXEC") ∷ ts) (
    tokens-blank (codes "CICS " ++ command)
    ∙ tokens-written (word (codes "CICS")) (32 ∷ command) refl refl
    ∙ ap (λ ts. word (codes "CICS") ∷ ts) (tokens-blank command ∙ command-tokens first rows can)))

-- ---- the bytes of a script

joined : (first rest : List ℕ) → list_all is_script_byte first ≡ true → list_all is_script_byte rest ≡ true → list_all is_script_byte (first ++ rest) ≡ true
joined first rest one two = list_all-append is_script_byte first rest ∙ rw (one, two) refl

in_parentheses-script : (token : Token) (value : List ℕ) → value ≡ token_bytes token → IsWritable token → list_all is_script_byte (in_parentheses value) ≡ true
in_parentheses-script token value is can = joined value (codes ")") (ap (list_all is_script_byte) is ∙ script-written token can) refl

value-script : (content : Content) → CanBeGiven content → list_all is_script_byte (value_text content) ≡ true
value-script (text bytes) can = in_parentheses-script (literal_of bytes) (text_of bytes) (text-token bytes) (literal-writable bytes can)
value-script (name8 name) can =
    let all = name-coded 8 name can in
    in_parentheses-script (name_literal name) (name_text name) (name-token name all) (characters-coded (unfilled name) all)
value-script (name4 name) can =
    let all = name-coded 4 name can in
    in_parentheses-script (name_literal name) (name_text name) (name-token name all) (characters-coded (unfilled name) all)
value-script (amount n) can = in_parentheses-script (number n) (decimal n) refl can
value-script nothing can = refl

options-script : (rows : Asked) → AllCanBeGiven rows → list_all is_script_byte (flat_map option_text rows) ≡ true
options-script [] can = refl
options-script ((option, None) ∷ rows) can = options-script rows can.1
options-script ((option, Some content) ∷ rows) can =
    joined (option_word option ++ value_text content) (flat_map option_text rows)
    (joined (option_word option) (value_text content) (script-written (word (option_word option)) (is_word-option option)) (value-script content can.0))
    (options-script rows can.1)

line-script : (label : List ℕ) (first : CommandWord) (rows : Asked) → IsTrue (is_word label) → AllCanBeGiven rows
    → list_all is_script_byte (written_with label (flat_map option_text rows) (Some (command_text first))) ≡ true
line-script label first rows labelled can =
    joined label _ (script-written (word label) labelled) (joined (command_text first) (flat_map option_text rows) (command-words first).1 (options-script rows can))

-- ---- a command

-- a command that is written out is read back
pub written-back : (label padded : List ℕ) (asked : Command) → IsTrue (is_word label) → label_in label ≡ Ok padded
    → IsTrue (go_together asked.verb) → AllCanBeGiven (options_of asked.verb) → length (written_out label asked) ≤ 70000
    → line (written_out label asked) ≡ Ok (Issue padded asked)
written-back label padded asked labelled is_label together can short =
    let spelled = spelling asked together can in
    let rows = asked_of asked in
    let all : AllCanBeGiven rows = (flag-given asked.resp, can) in
    let bytes = written_with label (flat_map option_text rows) (Some (command_text spelled.first)) in
    let same_bytes : written_out label asked ≡ bytes = ap (λ first. written_with label (flat_map option_text rows) (option_map command_text first)) spelled.spells.word in
    let fits : length bytes ≤ 70000 = subst (λ bytes. length bytes ≤ 70000) same_bytes short in
    ap line same_bytes
    ∙ line-statement bytes fits (line-script label spelled.first rows labelled all) (no_comment-word label (codes " EXEC CICS " ++ (command_text spelled.first ++ flat_map option_text rows)) labelled)
    ∙ ap statement (line-tokens label spelled.first rows labelled all)
    ∙ ap (λ options. statement (command_tokens label spelled.first false options)) (sym (spelled-options asked together can))
    ∙ statement-written label padded asked spelled.first false spelled.options spelled.entries is_label spelled.spells
