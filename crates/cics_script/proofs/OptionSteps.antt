-- Steps of reading options, one after another.
use Rattle.std.proofs.Common.{◌≡◌, ◌≢◌, ℕ, Bool, ◌||◌, List, [], ◌∷◌, ◌++◌, refl, ap, sym, ◌∙◌, Option, Some}
use Rattle.std.specs.Prelude.{Result, Ok, Err}
use Rattle.std.specs.Borrow.{Bor}
use Rattle.std.specs.Result.{result_map_both}
use Rattle.std.specs.List.{list_any}
use Rattle.arrayvec.specs.ArrayVec.{ArrayVec}
use Rattle.std.proofs.lemmas.List.{map-append}
use Rattle.cics_script.specs.declared.faults.LineFault.{LineFault}
use Rattle.cics_script.specs.declared.options.Found.{Found}
use Rattle.cics_script.specs.declared.words.LineForm.{LineForm}
use Rattle.cics_script.specs.declared.words.OptionWord.{OptionWord}
use Rattle.cics_script.specs.declared.words.ValueKind.{ValueKind}
use Rattle.cics_script.specs.declared.words.ValueKind.TheVariants.{Flag, Text, Name8, Name4, Number, Area, Last}
use Rattle.cics_script.specs.Faults.{◌>>=◌, Refuses}
use Rattle.cics_script.specs.Tokens.{Token, word, number, literal, opening, closing, broken, tokens}
use Rattle.cics_script.specs.Words.{lookup, option_words, kind_in}
use Rattle.cics_script.specs.Options.{Content, Entry, Place, at_option, at_opening, at_value, at_closing, at_end, behind_option, reads, moves, named, entered, allowed, content_in}
use Rattle.cics_script.specs.Views.{Enters, Ends, GivesEntries, content, entries}

-- a fault behind a step is the fault of the whole
pub refuses_behind : {A : Type 0} (read rest : Result A LineFault) (fault : LineFault) → read ≡ rest → Refuses rest fault → Refuses read fault
refuses_behind read rest fault step refuses = λ remembered. step ∙ refuses remembered

pub entered-value : (option : OptionWord) (found : List Entry) (kind : ValueKind) → kind ≢ Flag → kind ≢ Last → entered option found kind ≡ (at_opening option kind, found)
entered-value option found Flag valued more = absurd (valued refl)
entered-value option found Text valued more = refl
entered-value option found Name8 valued more = refl
entered-value option found Name4 valued more = refl
entered-value option found Number valued more = refl
entered-value option found Area valued more = refl
entered-value option found Last valued more = absurd (more refl)

-- behind every option but the last one another option can stand
pub behind_option-open : (kind : ValueKind) → kind ≢ Last → behind_option kind ≡ at_option (Some kind)
behind_option-open Flag more = refl
behind_option-open Text more = refl
behind_option-open Name8 more = refl
behind_option-open Name4 more = refl
behind_option-open Number more = refl
behind_option-open Area more = refl
behind_option-open Last more = absurd (more refl)

pub reads-further : (form : LineForm) (kind : ValueKind) (found : List Entry) (rest : List Token) → kind ≢ Last
    → reads form (at_option (Some kind)) found rest ≡ reads form (behind_option kind) found rest
reads-further form kind found rest more = ap (λ place. reads form place found rest) (sym (behind_option-open kind more))

-- an option's word, by whether the option may stand there
reads-word : (form : LineForm) (last : Option ValueKind) (found : List Entry) (w : List ℕ) (option : OptionWord) (may : Result ValueKind LineFault) (rest : List Token)
    → lookup w option_words ≡ Some option → may ≡ allowed found option (kind_in form option)
    → reads form (at_option last) found (word w ∷ rest) ≡ ((may >>= λ kind. Ok (entered option found kind)) >>= λ s. reads form s.0 s.1 rest)
reads-word form last found w option may rest is may_be =
    ap (λ o. named form found o >>= λ s. reads form s.0 s.1 rest) is
    ∙ ap (λ r. (r >>= λ kind. Ok (entered option found kind)) >>= λ s. reads form s.0 s.1 rest) (sym may_be)

pub reads-entered : (form : LineForm) (last : Option ValueKind) (found : List Entry) (w : List ℕ) (option : OptionWord) (kind : ValueKind) (rest : List Token)
    → lookup w option_words ≡ Some option → Ok kind ≡ allowed found option (kind_in form option)
    → reads form (at_option last) found (word w ∷ rest) ≡ reads form (entered option found kind).0 (entered option found kind).1 rest
reads-entered form last found w option kind rest is may = reads-word form last found w option (Ok kind) rest is may

pub reads-refused : (form : LineForm) (last : Option ValueKind) (found : List Entry) (w : List ℕ) (option : OptionWord) (fault : LineFault) (rest : List Token)
    → lookup w option_words ≡ Some option → Err fault ≡ allowed found option (kind_in form option)
    → reads form (at_option last) found (word w ∷ rest) ≡ Err fault
reads-refused form last found w option fault rest is may = reads-word form last found w option (Err fault) rest is may

-- whether an option was read that passes a test
pub any-entries : (test : OptionWord → Bool) (found : List Found) → list_any (λ one. test one.option) found ≡ list_any (λ entry. test entry.0) (entries found)
any-entries test [] = refl
any-entries test (one ∷ found) = ap (λ some. test one.option || some) (any-entries test found)

-- one option more
pub entries-more : (found : List Found) (one : Found) → entries (found ++ one ∷ []) ≡ entries found ++ (one.option, content one.value) ∷ []
entries-more found one = map-append (λ f. (f.option, content f.value)) found (one ∷ [])

-- what is still to be read from the place behind an option that was read
pub reads-past : (form : LineForm) (last : Option ValueKind) (found after : List Entry) (bytes w behind : List ℕ) (option : OptionWord) (kind : ValueKind) (rest : Bor (List ℕ)) (place : Place) (whole : Result (List Entry) LineFault)
    → reads form (at_option last) found (tokens bytes) ≡ whole → tokens bytes ≡ word w ∷ tokens behind
    → lookup w option_words ≡ Some option → Ok kind ≡ allowed found option (kind_in form option)
    → Enters kind option found after behind (Ok rest) → behind_option kind ≡ place
    → reads form place after (tokens rest.now) ≡ whole
reads-past form last found after bytes w behind option kind rest place whole so_far first is may enters here =
    ap (λ p. reads form p after (tokens rest.now)) (sym here)
    ∙ sym (enters form).0 ∙ sym (reads-entered form last found w option kind (tokens behind) is may)
    ∙ sym (ap (λ ts. reads form (at_option last) found ts) first) ∙ so_far

-- a token as a value
moves-value : (form : LineForm) (option : OptionWord) (kind : ValueKind) (found : List Entry) (t : Token)
    → moves form (at_value option kind) found t ≡ (content_in kind t >>= λ c. Ok (at_closing option kind c, found))
moves-value form option kind found (word w) = refl
moves-value form option kind found (number n) = refl
moves-value form option kind found (literal notation text) = refl
moves-value form option kind found opening = refl
moves-value form option kind found closing = refl
moves-value form option kind found (broken fault) = refl

pub value-step : (form : LineForm) (option : OptionWord) (kind : ValueKind) (found : List Entry) (t : Token) (bytes rest : List ℕ) (c : Content)
    → tokens bytes ≡ t ∷ tokens rest → content_in kind t ≡ Ok c
    → reads form (at_value option kind) found (tokens bytes) ≡ reads form (at_closing option kind c) found (tokens rest)
value-step form option kind found t bytes rest c first is =
    ap (λ ts. reads form (at_value option kind) found ts) first
    ∙ ap (λ m. m >>= λ s. reads form s.0 s.1 (tokens rest)) (moves-value form option kind found t ∙ ap (λ r. r >>= λ c. Ok (at_closing option kind c, found)) is)

pub value-refused : (form : LineForm) (option : OptionWord) (kind : ValueKind) (found : List Entry) (t : Token) (bytes rest : List ℕ) (fault : LineFault)
    → tokens bytes ≡ t ∷ tokens rest → Refuses (content_in kind t) fault
    → Refuses (reads form (at_value option kind) found (tokens bytes)) fault
value-refused form option kind found t bytes rest fault first refuses = λ remembered.
    ap (λ ts. reads form (at_value option kind) found ts) first
    ∙ ap (λ m. m >>= λ s. reads form s.0 s.1 (tokens rest)) (moves-value form option kind found t ∙ ap (λ r. r >>= λ c. Ok (at_closing option kind c, found)) (refuses remembered))

-- where the line has to end, the options that were read are all
pub ended : (form : LineForm) (bytes : List ℕ) (found : ArrayVec Found) (whole : Result (List Entry) LineFault) (result : Result (Unit {0}) LineFault)
    → reads form at_end (entries found.items) (tokens bytes) ≡ whole → Ends bytes result
    → GivesEntries whole (result_map_both (λ done. found) (λ fault. fault) result)
ended form bytes found whole (Ok end) so_far ends = sym so_far ∙ ends form (entries found.items)
ended form bytes found whole (Err fault) so_far ends = refuses_behind whole _ fault (sym so_far) (ends form (entries found.items))
