use Rattle.std.proofs.Common.{◌≡◌, ℕ, List, [], ◌++◌, ap, ◌∙◌, append_assoc}
use Rattle.std.proofs.lemmas.List.{append-nil}
use Rattle.std.specs.Prelude.{Some, option_map, Result, Ok, Err, OnOk}
use Rattle.cics_script.specs.Options.{text, name8, amount}
use Rattle.cics_script.specs.declared.words.OptionWord.TheVariants.{File, KeyLength, From, Ridfld, Length, Generic, Gteq, Update}
use Rattle.cics_script.specs.Spelling.Spelling.{flag}
use Rattle.cics_script.specs.Spelling.WrittenOut.{option_text}
use Rattle.cics_script.proofs.spelling.writing.push_options.Goals as goal

-- the options of a key, and then two
with_two : {T E : Type 0} (made : Result T E) (o p q f r k a b : List ℕ) → p ≡ o ++ (f ++ (r ++ k)) → OnOk made (q ≡ p ++ (a ++ b))
    → OnOk made (q ≡ o ++ (f ++ (r ++ (k ++ (a ++ (b ++ []))))))
with_two (Ok t) o p q f r k a b key rest = rest ∙ ap (λ l. l ++ (a ++ b)) key ∙ simp (append_assoc, append-nil)
with_two (Err e) o p q f r k a b key rest = tt

-- the options of a key, and then four
with_four : {T E : Type 0} (made : Result T E) (o p q s t u f r k a b c d : List ℕ) → p ≡ o ++ (f ++ (r ++ k)) → q ≡ p ++ a → s ≡ q ++ b → t ≡ s ++ c
    → OnOk made (u ≡ t ++ d) → OnOk made (u ≡ o ++ (f ++ (r ++ (k ++ (a ++ (b ++ (c ++ (d ++ []))))))))
with_four (Ok x) o p q s t u f r k a b c d key one two three four =
    four ∙ ap (λ l. l ++ d) (three ∙ ap (λ l. l ++ c) (two ∙ ap (λ l. l ++ b) (one ∙ ap (λ l. l ++ a) key))) ∙ simp (append_assoc, append-nil)
with_four (Err e) o p q s t u f r k a b c d key one two three four = tt

pub returns-in_ok-push_flag-in-Read-2 : goal.returns-in_ok-push_flag-in-Read-2
returns-in_ok-push_flag-in-Read-2 c =
    rw c.in-Read.is (with_four c.push_flag-in-Read-2.result c.args.out.now.items c.push_key.new.out.items c.push_amount.new.out.items
    c.push_flag.new.out.items c.push_flag-in-Read.new.out.items c.push_flag-in-Read-2.new.out.items
    (option_text (File, Some (name8 c.in-Read.file))) (option_text (Ridfld, Some (text c.in-Read.ridfld)))
    (option_text (KeyLength, option_map amount c.in-Read.key_length)) (option_text (Length, option_map amount c.in-Read.length))
    (option_text (Generic, flag c.in-Read.generic)) (option_text (Gteq, flag c.in-Read.gteq)) (option_text (Update, flag c.in-Read.update))
    c.in_ok-push_key-in-Read.ensures c.in_ok-push_amount-in-Read.ensures c.in_ok-push_flag-in-Read.ensures c.in_ok-push_flag-in-Read-2.ensures
    c.push_flag-in-Read-2.ensures)

pub returns-in_ok-push_key-in-Write : goal.returns-in_ok-push_key-in-Write
returns-in_ok-push_key-in-Write c =
    rw c.in-Write.is (with_two c.push_from.result c.args.out.now.items c.push_key-in-Write.new.out.items c.push_from.new.out.items
    (option_text (File, Some (name8 c.in-Write.file))) (option_text (Ridfld, Some (text c.in-Write.ridfld)))
    (option_text (KeyLength, option_map amount c.in-Write.key_length)) (option_text (From, Some (text c.in-Write.from)))
    (option_text (Length, option_map amount c.in-Write.length)) c.in_ok-push_key-in-Write.ensures c.push_from.ensures)
