use Rattle.std.proofs.Common.{sym, ◌∙◌}
use Rattle.cics_script.proofs.TokenSteps.{found-quoted, found-number}
use Rattle.cics_script.proofs.tokens.next_value.Goals as goal

pub returns-then-is_quote_byte : goal.returns-then-is_quote_byte
returns-then-is_quote_byte c =
    rw c.ok.ensures.value (found-quoted c.args.bytes.now c.in_ok-first.behind_quote.now c.in_ok-first.first.now c.read_literal.result c.in_ok-first.ensures.cases.0
    (sym c.is_quote_byte.ensures ∙ c.if-is_quote_byte.true) c.read_literal.ensures)

pub returns-then-is_ascii_digit : goal.returns-then-is_ascii_digit
returns-then-is_ascii_digit c =
    rw c.ok-then-is_ascii_digit.ensures.value (found-number c.args.bytes.now c.in_ok-first.behind_quote.now c.in_ok-first.first.now c.read_number.result c.in_ok-first.ensures.cases.0
    (sym c.is_ascii_digit.ensures.value ∙ c.if-is_ascii_digit.true) c.read_number.ensures)
