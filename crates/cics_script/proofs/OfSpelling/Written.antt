-- A command's line, as it is written, is read as the command.
use Rattle.std.proofs.Common.{◌≡◌, ◌≤◌, true, false, ℕ, List, [], ◌∷◌, ◌++◌, length, not, refl, ap, ◌∙◌, arith, Option, Some, None}
use Rattle.std.proofs.lemmas.Bool.Decides.{nat_tests}
use Rattle.std.specs.Prelude.{Result, Ok, Err, Bool, IsTrue, IfSome, nat_lt, if◌then◌else◌, is_some}
use Rattle.std.specs.List.{flat_map, list_all}
use Rattle.cics_names.specs.declared.commands.Command.{Command}
use Rattle.cics_script.specs.declared.faults.LineFault.{LineFault}
use Rattle.cics_script.specs.declared.faults.LineFault.TheVariants.{TooLong, NotAscii, UnknownWord}
use Rattle.cics_script.specs.declared.lines.Line.TheVariants.{Blank, Issue}
use Rattle.cics_script.specs.declared.words.FirstWord.{FirstWord}
use Rattle.cics_script.specs.declared.words.CommandWord.{CommandWord}
use Rattle.cics_script.specs.declared.words.CommandWord.TheVariants as command
use Rattle.cics_script.specs.declared.words.OptionWord.{OptionWord}
use Rattle.cics_script.specs.declared.words.OptionWord.TheVariants.{File, TsPrefix, TdQueue, KeyLength, KeyOffset, RecordSize, Recoverable, Unrecoverable, Logical, Physical, Unrecovered, From, Transid, Dtimout, Ridfld, Length, Into, Generic, Equal}
use Rattle.cics_script.specs.declared.words.OptionWord.TheVariants.{Gteq, Update, NumRec, Queue, Item, Next, Rewrite, Main, Auxiliary, Resource, NoSuspend, Rollback, AbCode, Cancel, NoDump, Resp, Resp2, NoHandle, EndExec}
use Rattle.cics_script.specs.Faults.{◌>>=◌}
use Rattle.cics_script.specs.Tokens.{Token, word, tokens, after_blanks}
use Rattle.cics_script.specs.Words.{option_word, lookup, starts}
use Rattle.cics_script.specs.Options.{Entry}
use Rattle.cics_script.specs.Lines.{is_script_byte, is_empty_or_comment, label_in, begun, issue, statement, line}
use Rattle.cics_script.specs.Layout.{is_word, IsWritable, AreWritable, laid_out}
use Rattle.cics_script.specs.Spelling.Spelling.{Written, command_word, value_tokens, option_tokens, queue_tokens, verb_tokens, command_tokens, AreWritten, Spells}
use Rattle.cics_script.proofs.Layouts.{if-false, tokens-laid_out, script-laid_out, no_comment-word}
use Rattle.cics_script.proofs.OfSpelling.Orders.{command-written}
use lib.Chars.{codes}

pub is_word-option : (option : OptionWord) → is_word (option_word option) ≡ true
is_word-option File = refl
is_word-option TsPrefix = refl
is_word-option TdQueue = refl
is_word-option KeyLength = refl
is_word-option KeyOffset = refl
is_word-option RecordSize = refl
is_word-option Recoverable = refl
is_word-option Unrecoverable = refl
is_word-option Logical = refl
is_word-option Physical = refl
is_word-option Unrecovered = refl
is_word-option From = refl
is_word-option Transid = refl
is_word-option Dtimout = refl
is_word-option Ridfld = refl
is_word-option Length = refl
is_word-option Into = refl
is_word-option Generic = refl
is_word-option Equal = refl
is_word-option Gteq = refl
is_word-option Update = refl
is_word-option NumRec = refl
is_word-option Queue = refl
is_word-option Item = refl
is_word-option Next = refl
is_word-option Rewrite = refl
is_word-option Main = refl
is_word-option Auxiliary = refl
is_word-option Resource = refl
is_word-option NoSuspend = refl
is_word-option Rollback = refl
is_word-option AbCode = refl
is_word-option Cancel = refl
is_word-option NoDump = refl
is_word-option Resp = refl
is_word-option Resp2 = refl
is_word-option NoHandle = refl
is_word-option EndExec = refl

pub is_word-command : (first : CommandWord) → is_word (command_word first) ≡ true
is_word-command command.Read = refl
is_word-command command.Write = refl
is_word-command command.Rewrite = refl
is_word-command command.Delete = refl
is_word-command command.Unlock = refl
is_word-command command.StartBr = refl
is_word-command command.ResetBr = refl
is_word-command command.ReadNext = refl
is_word-command command.ReadPrev = refl
is_word-command command.EndBr = refl
is_word-command command.WriteqTs = refl
is_word-command command.ReadqTs = refl
is_word-command command.DeleteqTs = refl
is_word-command command.WriteqTd = refl
is_word-command command.ReadqTd = refl
is_word-command command.DeleteqTd = refl
is_word-command command.Enq = refl
is_word-command command.Deq = refl
is_word-command command.Syncpoint = refl
is_word-command command.Return = refl
is_word-command command.Abend = refl

writable-value : (value : Option Token) (rest : List Token) → IfSome value IsWritable → AreWritable rest → AreWritable (value_tokens value ++ rest)
writable-value None rest can others = others
writable-value (Some value) rest can others = (tt, (can, (tt, others)))

writable-options : (options : List Written) → AreWritten options → AreWritable (flat_map option_tokens options)
writable-options [] are = tt
writable-options (option ∷ options) are =
    (is_word-option option.option, writable-value option.value (flat_map option_tokens options) are.0 (writable-options options are.1))

-- a label begins no other line
known-label : (found : Option FirstWord) (other : Result (List ℕ) LineFault) (padded : List ℕ)
    → (if is_some found then Err UnknownWord else other) ≡ Ok padded → found ≡ None
known-label None other padded e = refl
known-label (Some begins) other padded e = let wrong : Err UnknownWord ≡ Ok padded = e in cc

-- a line of few enough bytes of a script that begins no comment is what its tokens are
pub line-statement : (bytes : List ℕ) → length bytes ≤ 70000 → list_all is_script_byte bytes ≡ true → is_empty_or_comment (after_blanks bytes) ≡ false
    → line bytes ≡ statement (tokens bytes)
line-statement bytes short script begins =
    let within : nat_lt 70000 (length bytes) ≡ false = grind (arith, nat_tests) in
    if-false (nat_lt 70000 (length bytes)) (Err TooLong) _ within
    ∙ if-false (not (list_all is_script_byte bytes)) (Err NotAscii) _ (ap not script)
    ∙ if-false (is_empty_or_comment (after_blanks bytes)) (Ok Blank) _ begins

-- TS and TD are words
writable-queue : (first : CommandWord) (left_out : Bool) (rest : List Token) → AreWritable rest → AreWritable (queue_tokens first left_out ++ rest)
writable-queue command.WriteqTs true rest others = others
writable-queue command.ReadqTs true rest others = others
writable-queue command.DeleteqTs true rest others = others
writable-queue command.WriteqTs false rest others = (refl, others)
writable-queue command.ReadqTs false rest others = (refl, others)
writable-queue command.DeleteqTs false rest others = (refl, others)
writable-queue command.WriteqTd left_out rest others = (refl, others)
writable-queue command.ReadqTd left_out rest others = (refl, others)
writable-queue command.DeleteqTd left_out rest others = (refl, others)
writable-queue command.Read left_out rest others = others
writable-queue command.Write left_out rest others = others
writable-queue command.Rewrite left_out rest others = others
writable-queue command.Delete left_out rest others = others
writable-queue command.Unlock left_out rest others = others
writable-queue command.StartBr left_out rest others = others
writable-queue command.ResetBr left_out rest others = others
writable-queue command.ReadNext left_out rest others = others
writable-queue command.ReadPrev left_out rest others = others
writable-queue command.EndBr left_out rest others = others
writable-queue command.Enq left_out rest others = others
writable-queue command.Deq left_out rest others = others
writable-queue command.Syncpoint left_out rest others = others
writable-queue command.Return left_out rest others = others
writable-queue command.Abend left_out rest others = others

-- a command's tokens say the command
pub statement-written : (label padded : List ℕ) (asked : Command) (first : CommandWord) (left_out : Bool) (written : List Written) (entries : List Entry)
    → label_in label ≡ Ok padded → Spells asked first written entries → statement (command_tokens label first left_out written) ≡ Ok (Issue padded asked)
statement-written label padded asked first left_out written entries is_label spells =
    let behind_label = word (codes "EXEC") ∷ word (codes "CICS") ∷ verb_tokens first left_out written in
    ap (λ found. begun found label behind_label) (known-label (lookup label starts) _ padded is_label)
    ∙ ap (λ found. found >>= λ padded. issue padded behind_label) is_label
    ∙ command-written padded asked first left_out written entries spells

pub line-written : (label padded : List ℕ) (asked : Command) (first : CommandWord) (left_out : Bool) (written : List Written) (entries : List Entry)
    → IsTrue (is_word label) → label_in label ≡ Ok padded → Spells asked first written entries → AreWritten written
    → length (laid_out (command_tokens label first left_out written)) ≤ 70000
    → line (laid_out (command_tokens label first left_out written)) ≡ Ok (Issue padded asked)
line-written label padded asked first left_out written entries labelled is_label spells can short =
    let whole = command_tokens label first left_out written in
    let rest = word (codes "CICS") ∷ verb_tokens first left_out written in
    let options = writable-queue first left_out (flat_map option_tokens written) (writable-options written can) in
    let writable : AreWritable whole = (labelled, (refl, (refl, (is_word-command first, options)))) in
    line-statement (laid_out whole) short (script-laid_out whole writable) (no_comment-word label (32 ∷ laid_out (word (codes "EXEC") ∷ rest)) labelled)
    ∙ ap statement (tokens-laid_out whole writable)
    ∙ statement-written label padded asked first left_out written entries is_label spells
