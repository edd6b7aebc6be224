use Rattle.std.proofs.Common.{sym, ◌∙◌}
use Rattle.cics_script.proofs.TokenSteps.{taken_word}
use Rattle.cics_script.proofs.tokens.next_word.Goals as goal

pub returns : goal.returns
returns c =
    taken_word c.args.bytes.now _ _ _ c.in_ok-first.first.now c.in_ok-first.field-0-1.now _ c.skip_blanks-front.ensures c.in_ok-first.ensures.cases.0
    (sym c.is_letter_byte.ensures ∙ c.if-not-is_letter_byte.false) (λ e. c.if-capital_of-eq88.false (c.capital_of.ensures ∙ e))
    c.word_len.ensures.value c.split_at.ensures.front c.split_at.ensures.back
