-- Worked scripts: what a run writes, computed from the bytes of the script.
use Rattle.std.proofs.Common.{◌≡◌, ◌∷◌, ◌++◌, [], refl}
use Rattle.std.specs.Fmt.{digits}
use Rattle.cics_names.specs.Ebcdic.{code_of, character_of}
use Rattle.cics_run.specs.Stage.Journal.{line}
use Rattle.cics_run.specs.Session.Running.{output}
use Rattle.cics_dispatch.specs.Machine.Events.{turn, drained_within}
use Rattle.cics_run.proofs.OfSession.Scripts.{Writes, listed, replayed, with_script}
use lib.Chars.{codes}

-- a browse gives the records in the order of the codes of their keys
keys_come_in_the_order_of_their_codes : Writes listed
    (codes "DEFINE FILE('ORD') KEYLENGTH(1) RECOVERABLE"
    ∷ codes "LOAD FILE('ORD') FROM('0')"
    ∷ codes "LOAD FILE('ORD') FROM('A')"
    ∷ codes "LOAD FILE('ORD') FROM('a')"
    ∷ codes "ATTACH T1 TRANSID('BR01')"
    ∷ codes "T1 EXEC CICS STARTBR FILE('ORD') RIDFLD(X'00')"
    ∷ codes "T1 EXEC CICS READNEXT FILE('ORD')"
    ∷ codes "T1 EXEC CICS READNEXT FILE('ORD')"
    ∷ codes "T1 EXEC CICS READNEXT FILE('ORD')"
    ∷ [])
    (codes "T1 ATTACHED 'BR01'"
    ∷ codes "T1 NORMAL 0"
    ∷ codes "T1 NORMAL 0 KEY 'a' DATA 'a'"
    ∷ codes "T1 NORMAL 0 KEY 'A' DATA 'A'"
    ∷ codes "T1 NORMAL 0 KEY '0' DATA '0'"
    ∷ codes "LISTING"
    ∷ codes "FILE 'ORD' RECOVERABLE RECORDS 3"
    ∷ codes "  'a'"
    ∷ codes "  'A'"
    ∷ codes "  '0'"
    ∷ codes "TASK T1 IDLE"
    ∷ [])
unfolding code_of character_of turn drained_within digits
keys_come_in_the_order_of_their_codes = refl

-- a record that was rewritten twice comes back whole
two_rewrites_are_rolled_back : Writes listed
    (codes "DEFINE FILE('ACCT') KEYLENGTH(4) RECOVERABLE"
    ∷ codes "LOAD FILE('ACCT') FROM('0001aa')"
    ∷ codes "DEFINE FILE('LOG') KEYLENGTH(4) UNRECOVERABLE"
    ∷ codes "ATTACH T1 TRANSID('AAAA') DTIMOUT(5)"
    ∷ codes "ATTACH T2 TRANSID('BBBB') DTIMOUT(5)"
    ∷ codes "T1 EXEC CICS READ FILE('ACCT') RIDFLD('0001') UPDATE"
    ∷ codes "T1 EXEC CICS REWRITE FILE('ACCT') FROM('0001bb')"
    ∷ codes "T1 EXEC CICS READ FILE('ACCT') RIDFLD('0001') UPDATE"
    ∷ codes "T1 EXEC CICS REWRITE FILE('ACCT') FROM('0001cc')"
    ∷ codes "T1 EXEC CICS SYNCPOINT ROLLBACK"
    ∷ [])
    (codes "T1 ATTACHED 'AAAA'"
    ∷ codes "T2 ATTACHED 'BBBB'"
    ∷ codes "T1 NORMAL 0 DATA '0001aa'"
    ∷ codes "T1 NORMAL 0"
    ∷ codes "T1 NORMAL 0 DATA '0001bb'"
    ∷ codes "T1 NORMAL 0"
    ∷ codes "T1 NORMAL 0"
    ∷ codes "LISTING"
    ∷ codes "FILE 'ACCT' RECOVERABLE RECORDS 1"
    ∷ codes "  '0001aa'"
    ∷ codes "FILE 'LOG' UNRECOVERABLE RECORDS 0"
    ∷ codes "TASK T1 IDLE"
    ∷ codes "TASK T2 IDLE"
    ∷ [])
unfolding code_of character_of turn drained_within digits
two_rewrites_are_rolled_back = refl

-- of two units side by side one is rolled back, and the other's change stays
one_unit_of_two_is_rolled_back : Writes listed
    (codes "DEFINE FILE('ACCT') KEYLENGTH(4) RECOVERABLE"
    ∷ codes "LOAD FILE('ACCT') FROM('0001aa')"
    ∷ codes "DEFINE FILE('LOG') KEYLENGTH(4) UNRECOVERABLE"
    ∷ codes "LOAD FILE('ACCT') FROM('0002bb')"
    ∷ codes "ATTACH T1 TRANSID('AAAA') DTIMOUT(5)"
    ∷ codes "ATTACH T2 TRANSID('BBBB') DTIMOUT(5)"
    ∷ codes "T1 EXEC CICS READ FILE('ACCT') RIDFLD('0001') UPDATE"
    ∷ codes "T2 EXEC CICS READ FILE('ACCT') RIDFLD('0002') UPDATE"
    ∷ codes "T1 EXEC CICS REWRITE FILE('ACCT') FROM('0001xx')"
    ∷ codes "T2 EXEC CICS REWRITE FILE('ACCT') FROM('0002yy')"
    ∷ codes "T1 EXEC CICS SYNCPOINT ROLLBACK"
    ∷ codes "T2 EXEC CICS SYNCPOINT"
    ∷ [])
    (codes "T1 ATTACHED 'AAAA'"
    ∷ codes "T2 ATTACHED 'BBBB'"
    ∷ codes "T1 NORMAL 0 DATA '0001aa'"
    ∷ codes "T2 NORMAL 0 DATA '0002bb'"
    ∷ codes "T1 NORMAL 0"
    ∷ codes "T2 NORMAL 0"
    ∷ codes "T1 NORMAL 0"
    ∷ codes "T2 NORMAL 0"
    ∷ codes "LISTING"
    ∷ codes "FILE 'ACCT' RECOVERABLE RECORDS 2"
    ∷ codes "  '0001aa'"
    ∷ codes "  '0002yy'"
    ∷ codes "FILE 'LOG' UNRECOVERABLE RECORDS 0"
    ∷ codes "TASK T1 IDLE"
    ∷ codes "TASK T2 IDLE"
    ∷ [])
unfolding code_of character_of turn drained_within digits
one_unit_of_two_is_rolled_back = refl

-- a deadlock ends when the time of the first waiting task is over
a_deadlock_ends_by_time_out : Writes listed
    (codes "DEFINE FILE('ACCT') KEYLENGTH(4) RECOVERABLE"
    ∷ codes "LOAD FILE('ACCT') FROM('0001aa')"
    ∷ codes "DEFINE FILE('LOG') KEYLENGTH(4) UNRECOVERABLE"
    ∷ codes "LOAD FILE('ACCT') FROM('0002bb')"
    ∷ codes "ATTACH T1 TRANSID('AAAA') DTIMOUT(5)"
    ∷ codes "ATTACH T2 TRANSID('BBBB') DTIMOUT(5)"
    ∷ codes "T1 EXEC CICS DELETE FILE('ACCT') RIDFLD('0001')"
    ∷ codes "T2 EXEC CICS DELETE FILE('ACCT') RIDFLD('0002')"
    ∷ codes "T1 EXEC CICS DELETE FILE('ACCT') RIDFLD('0002')"
    ∷ codes "T2 EXEC CICS DELETE FILE('ACCT') RIDFLD('0001')"
    ∷ codes "CLOCK 4"
    ∷ codes "CLOCK 5"
    ∷ codes "T2 EXEC CICS RETURN"
    ∷ [])
    (codes "T1 ATTACHED 'AAAA'"
    ∷ codes "T2 ATTACHED 'BBBB'"
    ∷ codes "T1 NORMAL 0"
    ∷ codes "T2 NORMAL 0"
    ∷ codes "T1 WAITING T2"
    ∷ codes "T2 WAITING T1"
    ∷ codes "CLOCK 4"
    ∷ codes "CLOCK 5"
    ∷ codes "T1 ABEND AKCS"
    ∷ codes "T2 WOKEN NORMAL 0"
    ∷ codes "T2 ENDED"
    ∷ codes "LISTING"
    ∷ codes "FILE 'ACCT' RECOVERABLE RECORDS 0"
    ∷ codes "FILE 'LOG' UNRECOVERABLE RECORDS 0"
    ∷ [])
unfolding code_of character_of turn drained_within digits
a_deadlock_ends_by_time_out = refl

-- a waiting command goes on when the unit it waits for is rolled back, and the replay is the listing's files
the_replay_leaves_out_what_was_rolled_back : Writes replayed
    (codes "DEFINE FILE('ACCT') KEYLENGTH(4) RECOVERABLE"
    ∷ codes "LOAD FILE('ACCT') FROM('0001aa')"
    ∷ codes "DEFINE FILE('LOG') KEYLENGTH(4) UNRECOVERABLE"
    ∷ codes "ATTACH T1 TRANSID('AAAA') DTIMOUT(5)"
    ∷ codes "ATTACH T2 TRANSID('BBBB') DTIMOUT(5)"
    ∷ codes "T1 EXEC CICS DELETE FILE('ACCT') RIDFLD('0001')"
    ∷ codes "T2 EXEC CICS WRITE FILE('ACCT') RIDFLD('0001') FROM('0001zz') RESP(R)"
    ∷ codes "T1 EXEC CICS SYNCPOINT ROLLBACK"
    ∷ [])
    (codes "T1 ATTACHED 'AAAA'"
    ∷ codes "T2 ATTACHED 'BBBB'"
    ∷ codes "T1 NORMAL 0"
    ∷ codes "T2 WAITING T1"
    ∷ codes "T1 NORMAL 0"
    ∷ codes "T2 WOKEN DUPREC 14"
    ∷ codes "LISTING"
    ∷ codes "FILE 'ACCT' RECOVERABLE RECORDS 1"
    ∷ codes "  '0001aa'"
    ∷ codes "FILE 'LOG' UNRECOVERABLE RECORDS 0"
    ∷ codes "TASK T1 IDLE"
    ∷ codes "TASK T2 OPEN"
    ∷ codes "REPLAY"
    ∷ codes "FILE 'ACCT' RECOVERABLE RECORDS 1"
    ∷ codes "  '0001aa'"
    ∷ codes "FILE 'LOG' UNRECOVERABLE RECORDS 0"
    ∷ [])
unfolding code_of character_of turn drained_within digits
the_replay_leaves_out_what_was_rolled_back = refl

-- a browse goes by its position, whatever another task deletes and writes meanwhile
a_browse_goes_by_its_position : Writes listed
    (codes "DEFINE FILE('K') KEYLENGTH(4) RECOVERABLE"
    ∷ codes "LOAD FILE('K') FROM('0001')"
    ∷ codes "LOAD FILE('K') FROM('0002')"
    ∷ codes "LOAD FILE('K') FROM('0003')"
    ∷ codes "ATTACH T1 TRANSID('AAAA')"
    ∷ codes "ATTACH T2 TRANSID('BBBB')"
    ∷ codes "T1 EXEC CICS STARTBR FILE('K') RIDFLD('0001')"
    ∷ codes "T1 EXEC CICS READNEXT FILE('K')"
    ∷ codes "T2 EXEC CICS DELETE FILE('K') RIDFLD('0002')"
    ∷ codes "T1 EXEC CICS READNEXT FILE('K')"
    ∷ codes "T2 EXEC CICS WRITE FILE('K') RIDFLD('0002') FROM('0002')"
    ∷ codes "T1 EXEC CICS READPREV FILE('K')"
    ∷ codes "T1 EXEC CICS READPREV FILE('K')"
    ∷ [])
    (codes "T1 ATTACHED 'AAAA'"
    ∷ codes "T2 ATTACHED 'BBBB'"
    ∷ codes "T1 NORMAL 0"
    ∷ codes "T1 NORMAL 0 KEY '0001' DATA '0001'"
    ∷ codes "T2 NORMAL 0"
    ∷ codes "T1 NORMAL 0 KEY '0003' DATA '0003'"
    ∷ codes "T2 NORMAL 0"
    ∷ codes "T1 NORMAL 0 KEY '0003' DATA '0003'"
    ∷ codes "T1 NORMAL 0 KEY '0002' DATA '0002'"
    ∷ codes "LISTING"
    ∷ codes "FILE 'K' RECOVERABLE RECORDS 3"
    ∷ codes "  '0001'"
    ∷ codes "  '0002'"
    ∷ codes "  '0003'"
    ∷ codes "TASK T1 IDLE"
    ∷ codes "TASK T2 OPEN"
    ∷ [])
unfolding code_of character_of turn drained_within digits
a_browse_goes_by_its_position = refl

-- events that are refused
what_is_refused_changes_nothing : Writes listed
    (codes "DEFINE FILE('ACCT') KEYLENGTH(4) RECOVERABLE"
    ∷ codes "LOAD FILE('ACCT') FROM('0001aa')"
    ∷ codes "DEFINE FILE('LOG') KEYLENGTH(4) UNRECOVERABLE"
    ∷ codes "ATTACH T1 TRANSID('AAAA') DTIMOUT(5)"
    ∷ codes "ATTACH T2 TRANSID('BBBB') DTIMOUT(5)"
    ∷ codes "T1 EXEC CICS RETURN"
    ∷ codes "T1 EXEC CICS SYNCPOINT"
    ∷ codes "T9 EXEC CICS SYNCPOINT"
    ∷ codes "ATTACH T1 TRANSID('AAAA')"
    ∷ codes "CLOCK 7"
    ∷ codes "CLOCK 6"
    ∷ [])
    (codes "T1 ATTACHED 'AAAA'"
    ∷ codes "T2 ATTACHED 'BBBB'"
    ∷ codes "T1 ENDED"
    ∷ codes "T1 REFUSED 4 TaskEnded"
    ∷ codes "T9 REFUSED 2 NoTask"
    ∷ codes "T1 REFUSED 5 DuplicateLabel"
    ∷ codes "CLOCK 7"
    ∷ codes "CLOCK REFUSED 6 ClockBack"
    ∷ codes "LISTING"
    ∷ codes "FILE 'ACCT' RECOVERABLE RECORDS 1"
    ∷ codes "  '0001aa'"
    ∷ codes "FILE 'LOG' UNRECOVERABLE RECORDS 0"
    ∷ codes "TASK T2 IDLE"
    ∷ [])
unfolding code_of character_of turn drained_within digits
what_is_refused_changes_nothing = refl

-- a line that lacks an option
an_option_is_missing : Writes listed
    (codes "DEFINE FILE('ACCT') KEYLENGTH(4) RECOVERABLE"
    ∷ codes "ATTACH T1"
    ∷ [])
    (codes "LINE 2 FAULT 6 MissingOption"
    ∷ [])
unfolding code_of character_of turn drained_within digits
an_option_is_missing = refl

-- a literal without its closing quote
a_literal_does_not_end : output listed (codes "ATTACH T1 TRANSID('AB") ≡ line (codes "LINE 1 FAULT 4 BadLiteral")
unfolding code_of character_of turn drained_within digits
a_literal_does_not_end = refl

-- a definition whose key has no byte
a_key_of_no_byte : Writes listed
    (codes "DEFINE FILE('A') KEYLENGTH(0) RECOVERABLE"
    ∷ [])
    (codes "LINE 1 DEFINE 2 BadKey"
    ∷ [])
unfolding code_of character_of turn drained_within digits
a_key_of_no_byte = refl

-- each line of the script stands in front of what it led to, blank lines and definitions too, without its CR; behind a fault there is none
a_script_beside_its_journal : Writes with_script
    ((codes "DEFINE FILE('ACCT') KEYLENGTH(4) RECOVERABLE" ++ 13 ∷ [])
    ∷ []
    ∷ codes "ATTACH T1 TRANSID('AAAA')"
    ∷ codes "T1 EXEC CICS READ FILE('ACCT') RIDFLD('0001') NOHANDLE"
    ∷ codes "HELLO"
    ∷ codes "T1 EXEC CICS RETURN"
    ∷ [])
    (codes "> DEFINE FILE('ACCT') KEYLENGTH(4) RECOVERABLE"
    ∷ codes "> "
    ∷ codes "> ATTACH T1 TRANSID('AAAA')"
    ∷ codes "T1 ATTACHED 'AAAA'"
    ∷ codes "> T1 EXEC CICS READ FILE('ACCT') RIDFLD('0001') NOHANDLE"
    ∷ codes "T1 NOTFND 13"
    ∷ codes "> HELLO"
    ∷ codes "LINE 5 FAULT 3 UnknownWord"
    ∷ [])
unfolding code_of character_of turn drained_within digits
a_script_beside_its_journal = refl
