use Rattle.std.proofs.Common.{◌∙◌}
use Rattle.cics_script.proofs.Taken.{takes-odd}
use Rattle.cics_script.proofs.literals.Literal.copy_pieces.Goals as goal

pub put_bytes-requires : goal.put_bytes-requires
put_bytes-requires c = takes-odd c.args.self.notation c.args.self.behind_quote.now c.args.self.len _ c.in-Hexadecimal.is c.args.self.ends (c.deref_mut-in-Hexadecimal.ensures.len ∙ c.in_ok-text-in-Hexadecimal.ensures.len)
