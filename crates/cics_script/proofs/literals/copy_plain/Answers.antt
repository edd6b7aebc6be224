use Rattle.std.proofs.Common.{rules, ap, sym, ◌∙◌}
use Rattle.cics_script.specs.Literals.{ebcdic, encoded_text}
use Rattle.cics_script.proofs.Copies.{put-whole}
use Rattle.cics_script.proofs.literals.copy_plain.Goals as goal

pub returns-in-AsWritten : goal.returns-in-AsWritten
returns-in-AsWritten c = c.in_ok-text.ensures.items ∙ ap (λ e. encoded_text e c.args.plain.now) (sym c.in-AsWritten.is)

pub returns-in-Ebcdic : goal.returns-in-Ebcdic
returns-in-Ebcdic c =
    put-whole ebcdic c.args.plain.now c.in_ok-text.text.items c.put_codes.new.text c.in_ok-text.text.len c.in_ok-text.ensures.items c.put_codes.ensures (search rules)
    ∙ ap (λ e. encoded_text e c.args.plain.now) (sym c.in-Ebcdic.is)
