-- A worked serial run: what a run of it writes, computed from the bytes of the script.
use Rattle.std.proofs.Common.{◌∷◌, [], refl}
use Rattle.std.specs.Fmt.{digits}
use Rattle.cics_names.specs.Ebcdic.{code_of, character_of}
use Rattle.cics_dispatch.specs.Machine.Events.{turn, drained_within}
use Rattle.cics_run.proofs.OfSession.Scripts.{Writes, listed}
use lib.Chars.{codes}

-- a serial run, as `--serial` prints it of two units that were interleaved, is itself a script: it is answered NORMAL throughout, and lists
-- what they left
the_serial_run_is_a_script : Writes listed
    (codes "DEFINE FILE('ACCT') KEYLENGTH(4) KEYOFFSET(0) RECORDSIZE(32767) RECOVERABLE"
    ∷ codes "LOAD FILE('ACCT') FROM('0001aa')"
    ∷ codes "ATTACH U1 TRANSID('UNIT')"
    ∷ codes "U1 EXEC CICS WRITE FILE('ACCT') RIDFLD('0002') FROM('0002bb')"
    ∷ codes "U1 EXEC CICS SYNCPOINT"
    ∷ codes "ATTACH U0 TRANSID('UNIT')"
    ∷ codes "U0 EXEC CICS UNLOCK FILE('ACCT')"
    ∷ codes "U0 EXEC CICS READ FILE('ACCT') RIDFLD('0001') UPDATE"
    ∷ codes "U0 EXEC CICS REWRITE FILE('ACCT') FROM('0001cc')"
    ∷ codes "U0 EXEC CICS SYNCPOINT"
    ∷ [])
    (codes "U1 ATTACHED 'UNIT'"
    ∷ codes "U1 NORMAL 0"
    ∷ codes "U1 NORMAL 0"
    ∷ codes "U0 ATTACHED 'UNIT'"
    ∷ codes "U0 NORMAL 0"
    ∷ codes "U0 NORMAL 0 DATA '0001aa'"
    ∷ codes "U0 NORMAL 0"
    ∷ codes "U0 NORMAL 0"
    ∷ codes "LISTING"
    ∷ codes "FILE 'ACCT' RECOVERABLE RECORDS 2"
    ∷ codes "  '0001cc'"
    ∷ codes "  '0002bb'"
    ∷ codes "TASK U1 IDLE"
    ∷ codes "TASK U0 IDLE"
    ∷ [])
unfolding code_of character_of turn drained_within digits
the_serial_run_is_a_script = refl
