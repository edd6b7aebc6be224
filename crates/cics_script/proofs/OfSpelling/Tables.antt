-- The table of characters is read as the function that it tells.
use Rattle.std.proofs.Common.{◌≡◌, ◌<◌, ℕ, ◌==◌, get_or, refl}
use Rattle.cics_names.specs.Ebcdic.{character_of}
use Rattle.cics_script.specs.Texts.{plain}
use Rattle.cics_script.proofs.Tables.{tells, table_read, eqb-eq}
use Rattle.cics_script.specs.declared.spelling.texts.TheConstants.{CHARACTERS}

pub read-CHARACTERS : (n : ℕ) → n < 256 → get_or CHARACTERS n 0 ≡ plain n
unfolding tells character_of
read-CHARACTERS n within = table_read (λ b. b) (λ a b. a == b) eqb-eq plain CHARACTERS 0 refl n within
