-- Worked scripts of queues, of a generic delete and of a shutdown: what a run writes, computed from the bytes of the script.
use Rattle.std.proofs.Common.{◌∷◌, [], refl}
use Rattle.std.specs.Fmt.{digits}
use Rattle.cics_names.specs.Ebcdic.{code_of, character_of}
use Rattle.cics_dispatch.specs.Machine.Events.{turn, drained_within}
use Rattle.cics_run.proofs.OfSession.Scripts.{Writes, replayed}
use lib.Chars.{codes}

-- what a task put on a queue is read once it is committed, and comes back to the front when its reader is rolled back
a_reader_of_a_queue_waits_for_the_commit : Writes replayed
    (codes "DEFINE TDQUEUE('WORK') LOGICAL"
    ∷ codes "ATTACH T1 TRANSID('GIVE')"
    ∷ codes "ATTACH T2 TRANSID('TAKE')"
    ∷ codes "T1 EXEC CICS WRITEQ TD QUEUE('WORK') FROM('one')"
    ∷ codes "T2 EXEC CICS READQ TD QUEUE('WORK') NOSUSPEND RESP(R)"
    ∷ codes "T2 EXEC CICS READQ TD QUEUE('WORK')"
    ∷ codes "T1 EXEC CICS SYNCPOINT"
    ∷ codes "T1 EXEC CICS WRITEQ TD QUEUE('WORK') FROM('two')"
    ∷ codes "T2 EXEC CICS SYNCPOINT ROLLBACK"
    ∷ codes "T1 EXEC CICS RETURN"
    ∷ [])
    (codes "T1 ATTACHED 'GIVE'"
    ∷ codes "T2 ATTACHED 'TAKE'"
    ∷ codes "T1 NORMAL 0"
    ∷ codes "T2 QBUSY 25"
    ∷ codes "T2 WAITING T1"
    ∷ codes "T1 NORMAL 0"
    ∷ codes "T2 WOKEN NORMAL 0 DATA 'one'"
    ∷ codes "T1 NORMAL 0"
    ∷ codes "T2 NORMAL 0"
    ∷ codes "T1 ENDED"
    ∷ codes "LISTING"
    ∷ codes "TDQUEUE 'WORK' LOGICAL RECORDS 2"
    ∷ codes "  'one'"
    ∷ codes "  'two'"
    ∷ codes "TASK T2 IDLE"
    ∷ codes "REPLAY"
    ∷ codes "TDQUEUE 'WORK' LOGICAL RECORDS 2"
    ∷ codes "  'one'"
    ∷ codes "  'two'"
    ∷ [])
unfolding code_of character_of turn drained_within digits
a_reader_of_a_queue_waits_for_the_commit = refl

-- an item that was rewritten comes back, and the place of the next item stays where a read has put it
an_item_that_was_rewritten_comes_back : Writes replayed
    (codes "DEFINE TSPREFIX('PAD')"
    ∷ codes "ATTACH T1 TRANSID('EDIT')"
    ∷ codes "T1 EXEC CICS WRITEQ TS QUEUE('PAD1') FROM('one')"
    ∷ codes "T1 EXEC CICS WRITEQ TS QUEUE('PAD1') FROM('two')"
    ∷ codes "T1 EXEC CICS SYNCPOINT"
    ∷ codes "T1 EXEC CICS READQ TS QUEUE('PAD1') NEXT"
    ∷ codes "T1 EXEC CICS WRITEQ TS QUEUE('PAD1') FROM('new') ITEM(1) REWRITE"
    ∷ codes "T1 EXEC CICS READQ TS QUEUE('PAD1') ITEM(1)"
    ∷ codes "T1 EXEC CICS SYNCPOINT ROLLBACK"
    ∷ codes "T1 EXEC CICS READQ TS QUEUE('PAD1') NEXT"
    ∷ codes "T1 EXEC CICS READQ TS QUEUE('PAD1') ITEM(1)"
    ∷ [])
    (codes "T1 ATTACHED 'EDIT'"
    ∷ codes "T1 NORMAL 0 ITEM 1"
    ∷ codes "T1 NORMAL 0 ITEM 2"
    ∷ codes "T1 NORMAL 0"
    ∷ codes "T1 NORMAL 0 ITEM 1 DATA 'one'"
    ∷ codes "T1 NORMAL 0 ITEM 1"
    ∷ codes "T1 NORMAL 0 ITEM 1 DATA 'new'"
    ∷ codes "T1 NORMAL 0"
    ∷ codes "T1 NORMAL 0 ITEM 2 DATA 'two'"
    ∷ codes "T1 NORMAL 0 ITEM 1 DATA 'one'"
    ∷ codes "LISTING"
    ∷ codes "TSQUEUE 'PAD1' RECOVERABLE ITEMS 2"
    ∷ codes "  'one'"
    ∷ codes "  'two'"
    ∷ codes "TASK T1 IDLE"
    ∷ codes "REPLAY"
    ∷ codes "TSQUEUE 'PAD1' RECOVERABLE ITEMS 2"
    ∷ codes "  'one'"
    ∷ codes "  'two'"
    ∷ [])
unfolding code_of character_of turn drained_within digits
an_item_that_was_rewritten_comes_back = refl

-- a generic delete counts its records and holds all keys that begin so; its rollback brings the records back
a_generic_delete_is_rolled_back : Writes replayed
    (codes "DEFINE FILE('ACCT') KEYLENGTH(4) RECOVERABLE"
    ∷ codes "LOAD FILE('ACCT') FROM('0011a')"
    ∷ codes "LOAD FILE('ACCT') FROM('0012b')"
    ∷ codes "LOAD FILE('ACCT') FROM('0021c')"
    ∷ codes "ATTACH T1 TRANSID('PURG')"
    ∷ codes "ATTACH T2 TRANSID('OPEN')"
    ∷ codes "T1 EXEC CICS DELETE FILE('ACCT') RIDFLD('001') GENERIC NUMREC(N)"
    ∷ codes "T2 EXEC CICS WRITE FILE('ACCT') RIDFLD('0013') FROM('0013d')"
    ∷ codes "T1 EXEC CICS SYNCPOINT ROLLBACK"
    ∷ codes "T2 EXEC CICS RETURN"
    ∷ codes "T1 EXEC CICS DELETE FILE('ACCT') RIDFLD('001') GENERIC NUMREC(N)"
    ∷ codes "T1 EXEC CICS RETURN"
    ∷ [])
    (codes "T1 ATTACHED 'PURG'"
    ∷ codes "T2 ATTACHED 'OPEN'"
    ∷ codes "T1 NORMAL 0 NUMREC 2"
    ∷ codes "T2 WAITING T1"
    ∷ codes "T1 NORMAL 0"
    ∷ codes "T2 WOKEN NORMAL 0"
    ∷ codes "T2 ENDED"
    ∷ codes "T1 NORMAL 0 NUMREC 3"
    ∷ codes "T1 ENDED"
    ∷ codes "LISTING"
    ∷ codes "FILE 'ACCT' RECOVERABLE RECORDS 1"
    ∷ codes "  '0021c'"
    ∷ codes "REPLAY"
    ∷ codes "FILE 'ACCT' RECOVERABLE RECORDS 1"
    ∷ codes "  '0021c'"
    ∷ [])
unfolding code_of character_of turn drained_within digits
a_generic_delete_is_rolled_back = refl

-- a shutdown rolls back the open units, also of the task that waits, and from then on all is refused
a_shutdown_ends_all_and_refuses_all : Writes replayed
    (codes "DEFINE FILE('ACCT') KEYLENGTH(4) RECOVERABLE"
    ∷ codes "LOAD FILE('ACCT') FROM('0001a')"
    ∷ codes "ATTACH T1 TRANSID('MOVE')"
    ∷ codes "ATTACH T2 TRANSID('MOVE')"
    ∷ codes "T1 EXEC CICS WRITE FILE('ACCT') RIDFLD('0002') FROM('0002b')"
    ∷ codes "T2 EXEC CICS DELETE FILE('ACCT') RIDFLD('0001')"
    ∷ codes "T1 EXEC CICS READ FILE('ACCT') RIDFLD('0001') UPDATE"
    ∷ codes "SHUTDOWN IMMEDIATE"
    ∷ codes "T2 EXEC CICS SYNCPOINT"
    ∷ codes "ATTACH T3 TRANSID('MOVE')"
    ∷ codes "CLOCK 9"
    ∷ codes "SHUTDOWN IMMEDIATE"
    ∷ [])
    (codes "T1 ATTACHED 'MOVE'"
    ∷ codes "T2 ATTACHED 'MOVE'"
    ∷ codes "T1 NORMAL 0"
    ∷ codes "T2 NORMAL 0"
    ∷ codes "T1 WAITING T2"
    ∷ codes "SHUTDOWN 2"
    ∷ codes "T2 REFUSED 7 RegionDown"
    ∷ codes "T3 REFUSED 7 RegionDown"
    ∷ codes "CLOCK REFUSED 7 RegionDown"
    ∷ codes "SHUTDOWN REFUSED 7 RegionDown"
    ∷ codes "LISTING"
    ∷ codes "FILE 'ACCT' RECOVERABLE RECORDS 1"
    ∷ codes "  '0001a'"
    ∷ codes "REPLAY"
    ∷ codes "FILE 'ACCT' RECOVERABLE RECORDS 1"
    ∷ codes "  '0001a'"
    ∷ [])
unfolding code_of character_of turn drained_within digits
a_shutdown_ends_all_and_refuses_all = refl
