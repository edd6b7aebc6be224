-- Worked lines of queues, of DELETE of many records, and of the end: what the bytes of a line say, computed.
use Rattle.std.proofs.Common.{◌≡◌, ◌∷◌, [], ◌++◌, None, Some, Ok, Err, false, true, refl, ℕ, List}
use Rattle.cics_names.specs.Ebcdic as ebcdic
use Rattle.cics_names.specs.declared.commands.Verb.TheVariants.{Delete, WriteqTs, ReadqTs, DeleteqTs, WriteqTd, ReadqTd, DeleteqTd}
use Rattle.cics_transdata.specs.declared.queues.Recovery.TheVariants.{Logical, Physical, Unrecovered}
use Rattle.cics_script.specs.declared.faults.LineFault.TheVariants.{UnknownWord, BadLiteral, BadNumber, MissingOption, DoubledOption, OptionNotHere}
use Rattle.cics_script.specs.declared.lines.Line.TheVariants.{DefineTsPrefix, DefineTd, LoadTd, Issue, Shutdown}
use Rattle.cics_script.specs.declared.literals.Notation.TheVariants.{Quoted}
use Rattle.cics_script.specs.declared.words.CommandWord.TheVariants as command
use Rattle.cics_script.specs.declared.words.OptionWord.TheVariants as option
use Rattle.cics_script.specs.Tokens.{literal}
use Rattle.cics_script.specs.Layout.{laid_out}
use Rattle.cics_script.specs.Spelling.Spelling.{Written, command_tokens}
use Rattle.cics_script.specs.Spelling.WrittenOut.{written_out}
use Rattle.std.specs.Fmt.{digits}
use Rattle.cics_script.specs.Lines.{line}
use Rattle.cics_script.proofs.OfSpelling.Rows.{acct, t1}
use lib.Chars.{codes}

-- the queues Q1 and TDQ1, and the record AB
abbrev q1 : List ℕ
q1 = 0xD8 ∷ 0xF1 ∷ 0x40 ∷ 0x40 ∷ 0x40 ∷ 0x40 ∷ 0x40 ∷ 0x40 ∷ []

abbrev tdq1 : List ℕ
tdq1 = 0xE3 ∷ 0xC4 ∷ 0xD8 ∷ 0xF1 ∷ []

abbrev ab : List ℕ
ab = 0xC1 ∷ 0xC2 ∷ []

-- ---- definitions and what is loaded

row_define_prefix : line (codes "DEFINE TSPREFIX('Q1')") ≡ Ok (DefineTsPrefix q1)
unfolding ebcdic.code_of
row_define_prefix = refl

row_define_prefix_small : line (codes " define tsprefix ( 'Q1' ) ") ≡ Ok (DefineTsPrefix q1)
unfolding ebcdic.code_of
row_define_prefix_small = refl

row_define_logical : line (codes "DEFINE TDQUEUE('TDQ1') LOGICAL") ≡ Ok (DefineTd tdq1 Logical)
unfolding ebcdic.code_of
row_define_logical = refl

row_define_physical : line (codes "DEFINE TDQUEUE('TDQ1')physical") ≡ Ok (DefineTd tdq1 Physical)
unfolding ebcdic.code_of
row_define_physical = refl

row_define_none : line (codes "DEFINE TDQUEUE('TDQ1') NONE") ≡ Ok (DefineTd tdq1 Unrecovered)
unfolding ebcdic.code_of
row_define_none = refl

row_load_queue : line (codes "LOAD TDQUEUE('TDQ1') FROM('AB')") ≡ Ok (LoadTd tdq1 ab)
unfolding ebcdic.code_of
row_load_queue = refl

-- ---- the end of a region

row_shutdown : line (codes "SHUTDOWN IMMEDIATE") ≡ Ok Shutdown
unfolding ebcdic.code_of
row_shutdown = refl

row_shutdown_small : line (codes " shutdown" ++ 9 ∷ codes "immediate ") ≡ Ok Shutdown
unfolding ebcdic.code_of
row_shutdown_small = refl

-- ---- commands on temporary storage

row_writeq_ts : line (codes "T1 EXEC CICS WRITEQ TS QUEUE('Q1') FROM('AB')") ≡ Ok (Issue t1 (record { verb = WriteqTs q1 ab None None; resp = false }))
unfolding ebcdic.code_of
row_writeq_ts = refl

row_writeq : line (codes "T1 EXEC CICS WRITEQ QUEUE('Q1') FROM('AB')") ≡ Ok (Issue t1 (record { verb = WriteqTs q1 ab None None; resp = false }))
unfolding ebcdic.code_of
row_writeq = refl

row_writeq_ts_item : line (codes "T1 EXEC CICS WRITEQ TS REWRITE ITEM(2) MAIN LENGTH(1) NOSUSPEND FROM('AB') QUEUE('Q1') RESP(R)") ≡ Ok (Issue t1 (record { verb = WriteqTs q1 ab (Some 1) (Some 2); resp = true }))
unfolding ebcdic.code_of
row_writeq_ts_item = refl

row_writeq_item : line (codes "T1 EXEC CICS writeq item(0) queue('Q1') from('AB') rewrite end-exec") ≡ Ok (Issue t1 (record { verb = WriteqTs q1 ab None (Some 0); resp = false }))
unfolding ebcdic.code_of
row_writeq_item = refl

row_writeq_ts_no_rewrite : line (codes "T1 EXEC CICS WRITEQ TS QUEUE('Q1') FROM('AB') ITEM(2) AUXILIARY") ≡ Ok (Issue t1 (record { verb = WriteqTs q1 ab None None; resp = false }))
unfolding ebcdic.code_of
row_writeq_ts_no_rewrite = refl

row_writeq_ts_area : line (codes "T1 EXEC CICS WRITEQ TS QUEUE('Q1') ITEM(N) FROM('AB')") ≡ Ok (Issue t1 (record { verb = WriteqTs q1 ab None None; resp = false }))
unfolding ebcdic.code_of
row_writeq_ts_area = refl

row_readq_ts : line (codes "T1 EXEC CICS READQ TS QUEUE('Q1')") ≡ Ok (Issue t1 (record { verb = ReadqTs q1 None None; resp = false }))
unfolding ebcdic.code_of
row_readq_ts = refl

row_readq : line (codes "T1 EXEC CICS READQ QUEUE('Q1') NEXT") ≡ Ok (Issue t1 (record { verb = ReadqTs q1 None None; resp = false }))
unfolding ebcdic.code_of
row_readq = refl

row_readq_ts_item : line (codes "T1 EXEC CICS READQ TS INTO(AREA) LENGTH(3) ITEM(2) QUEUE('Q1') NOHANDLE") ≡ Ok (Issue t1 (record { verb = ReadqTs q1 (Some 3) (Some 2); resp = true }))
unfolding ebcdic.code_of
row_readq_ts_item = refl

row_deleteq_ts : line (codes "T1 EXEC CICS DELETEQ TS QUEUE('Q1')") ≡ Ok (Issue t1 (record { verb = DeleteqTs q1; resp = false }))
unfolding ebcdic.code_of
row_deleteq_ts = refl

row_deleteq : line (codes "T1 EXEC CICS DELETEQ QUEUE('Q1')") ≡ Ok (Issue t1 (record { verb = DeleteqTs q1; resp = false }))
unfolding ebcdic.code_of
row_deleteq = refl

-- ---- commands on transient data

row_writeq_td : line (codes "T1 EXEC CICS WRITEQ TD QUEUE('TDQ1') FROM('AB')") ≡ Ok (Issue t1 (record { verb = WriteqTd tdq1 ab None; resp = false }))
unfolding ebcdic.code_of
row_writeq_td = refl

row_writeq_td_length : line (codes "T1 EXEC CICS WRITEQ td LENGTH(1) FROM('AB') QUEUE('TDQ1')") ≡ Ok (Issue t1 (record { verb = WriteqTd tdq1 ab (Some 1); resp = false }))
unfolding ebcdic.code_of
row_writeq_td_length = refl

row_readq_td : line (codes "T1 EXEC CICS READQ TD QUEUE('TDQ1')") ≡ Ok (Issue t1 (record { verb = ReadqTd tdq1 None false; resp = false }))
unfolding ebcdic.code_of
row_readq_td = refl

row_readq_td_nosuspend : line (codes "T1 EXEC CICS READQ TD NOSUSPEND INTO(AREA) LENGTH(3) QUEUE('TDQ1')") ≡ Ok (Issue t1 (record { verb = ReadqTd tdq1 (Some 3) true; resp = false }))
unfolding ebcdic.code_of
row_readq_td_nosuspend = refl

row_deleteq_td : line (codes "T1 EXEC CICS DELETEQ TD QUEUE('TDQ1')") ≡ Ok (Issue t1 (record { verb = DeleteqTd tdq1; resp = false }))
unfolding ebcdic.code_of
row_deleteq_td = refl

-- ---- DELETE of the keys that begin alike

row_delete_generic : line (codes "T1 EXEC CICS DELETE FILE('ACCT') RIDFLD('AB') GENERIC") ≡ Ok (Issue t1 (record { verb = Delete acct (Some ab) None true; resp = false }))
unfolding ebcdic.code_of
row_delete_generic = refl

row_delete_counted : line (codes "T1 EXEC CICS DELETE NUMREC(N) GENERIC KEYLENGTH(2) RIDFLD('AB') FILE('ACCT')") ≡ Ok (Issue t1 (record { verb = Delete acct (Some ab) (Some 2) true; resp = false }))
unfolding ebcdic.code_of
row_delete_counted = refl

row_delete_counted_alone : line (codes "T1 EXEC CICS DELETE FILE('ACCT') RIDFLD('AB') NUMREC(N)") ≡ Ok (Issue t1 (record { verb = Delete acct (Some ab) None false; resp = false }))
unfolding ebcdic.code_of
row_delete_counted_alone = refl

-- ---- words

row_unknown_shutdown_alone : line (codes "SHUTDOWN") ≡ Err UnknownWord
unfolding ebcdic.code_of
row_unknown_shutdown_alone = refl

row_unknown_shutdown_other : line (codes "SHUTDOWN NOW") ≡ Err UnknownWord
unfolding ebcdic.code_of
row_unknown_shutdown_other = refl

row_unknown_shutdown_parenthesis : line (codes "SHUTDOWN (IMMEDIATE)") ≡ Err UnknownWord
unfolding ebcdic.code_of
row_unknown_shutdown_parenthesis = refl

row_unknown_immediate_parenthesis : line (codes "SHUTDOWN IMMEDIATE (") ≡ Err UnknownWord
unfolding ebcdic.code_of
row_unknown_immediate_parenthesis = refl

row_unknown_behind_immediate : line (codes "SHUTDOWN IMMEDIATE IMMEDIATE") ≡ Err UnknownWord
unfolding ebcdic.code_of
row_unknown_behind_immediate = refl

row_unknown_label_shutdown : line (codes "ATTACH SHUTDOWN TRANSID('A')") ≡ Err UnknownWord
unfolding ebcdic.code_of
row_unknown_label_shutdown = refl

row_unknown_define_queue : line (codes "DEFINE QUEUE('A')") ≡ Err UnknownWord
unfolding ebcdic.code_of
row_unknown_define_queue = refl

row_unknown_load_prefix : line (codes "LOAD TSPREFIX('R')") ≡ Err UnknownWord
unfolding ebcdic.code_of
row_unknown_load_prefix = refl

row_unknown_none_as_object : line (codes "DEFINE NONE") ≡ Err UnknownWord
unfolding ebcdic.code_of
row_unknown_none_as_object = refl

row_unknown_behind_writeq : line (codes "T1 EXEC CICS WRITEQ FOO") ≡ Err UnknownWord
unfolding ebcdic.code_of
row_unknown_behind_writeq = refl

row_unknown_ts_twice : line (codes "T1 EXEC CICS READQ TS TS") ≡ Err UnknownWord
unfolding ebcdic.code_of
row_unknown_ts_twice = refl

row_unknown_td_behind_ts : line (codes "T1 EXEC CICS DELETEQ TS TD") ≡ Err UnknownWord
unfolding ebcdic.code_of
row_unknown_td_behind_ts = refl

row_unknown_td_later : line (codes "T1 EXEC CICS READQ QUEUE('TDQ1') TD") ≡ Err UnknownWord
unfolding ebcdic.code_of
row_unknown_td_later = refl

row_unknown_ts_elsewhere : line (codes "T1 EXEC CICS READ TS") ≡ Err UnknownWord
unfolding ebcdic.code_of
row_unknown_ts_elsewhere = refl

row_unknown_td_elsewhere : line (codes "T1 EXEC CICS SYNCPOINT TD") ≡ Err UnknownWord
unfolding ebcdic.code_of
row_unknown_td_elsewhere = refl

row_unknown_parenthesis_behind_readq : line (codes "T1 EXEC CICS READQ (") ≡ Err UnknownWord
unfolding ebcdic.code_of
row_unknown_parenthesis_behind_readq = refl

row_unknown_parenthesis_behind_td : line (codes "T1 EXEC CICS READQ TD )") ≡ Err UnknownWord
unfolding ebcdic.code_of
row_unknown_parenthesis_behind_td = refl

row_unknown_shutdown_as_option : line (codes "T1 EXEC CICS RETURN SHUTDOWN") ≡ Err UnknownWord
unfolding ebcdic.code_of
row_unknown_shutdown_as_option = refl

row_unknown_before_number : line (codes "T1 EXEC CICS WRITEQ TS QUEUE('Q1') FROM('AB') REWRITE ITEM(N) FOO") ≡ Err UnknownWord
unfolding ebcdic.code_of
row_unknown_before_number = refl

-- ---- literals and numbers

row_literal_prefix : line (codes "DEFINE TSPREFIX('Q12345678')") ≡ Err BadLiteral
unfolding ebcdic.code_of
row_literal_prefix = refl

row_literal_prefix_missing : line (codes "DEFINE TSPREFIX") ≡ Err BadLiteral
unfolding ebcdic.code_of
row_literal_prefix_missing = refl

row_literal_prefix_surplus : line (codes "DEFINE TSPREFIX('R'))") ≡ Err BadLiteral
unfolding ebcdic.code_of
row_literal_prefix_surplus = refl

row_literal_queue_name4 : line (codes "DEFINE TDQUEUE('TDQ12') LOGICAL") ≡ Err BadLiteral
unfolding ebcdic.code_of
row_literal_queue_name4 = refl

row_literal_queue_hexadecimal : line (codes "LOAD TDQUEUE(X'C1') FROM('AB')") ≡ Err BadLiteral
unfolding ebcdic.code_of
row_literal_queue_hexadecimal = refl

row_literal_logical : line (codes "DEFINE TDQUEUE('A') LOGICAL('A')") ≡ Err BadLiteral
unfolding ebcdic.code_of
row_literal_logical = refl

row_literal_physical : line (codes "DEFINE TDQUEUE('A') PHYSICAL(") ≡ Err BadLiteral
unfolding ebcdic.code_of
row_literal_physical = refl

row_literal_none : line (codes "DEFINE TDQUEUE('A') NONE()") ≡ Err BadLiteral
unfolding ebcdic.code_of
row_literal_none = refl

row_literal_behind_shutdown : line (codes "SHUTDOWN 'A") ≡ Err BadLiteral
unfolding ebcdic.code_of
row_literal_behind_shutdown = refl

row_literal_behind_readq : line (codes "T1 EXEC CICS READQ X'0'") ≡ Err BadLiteral
unfolding ebcdic.code_of
row_literal_behind_readq = refl

row_literal_ts_queue : line (codes "T1 EXEC CICS READQ TS QUEUE('Q12345678')") ≡ Err BadLiteral
unfolding ebcdic.code_of
row_literal_ts_queue = refl

row_literal_td_queue : line (codes "T1 EXEC CICS READQ TD QUEUE('TDQ12')") ≡ Err BadLiteral
unfolding ebcdic.code_of
row_literal_td_queue = refl

row_literal_queue_number : line (codes "T1 EXEC CICS DELETEQ TS QUEUE(1)") ≡ Err BadLiteral
unfolding ebcdic.code_of
row_literal_queue_number = refl

row_literal_td_from : line (codes "T1 EXEC CICS WRITEQ TD FROM(AB)") ≡ Err BadLiteral
unfolding ebcdic.code_of
row_literal_td_from = refl

row_literal_next : line (codes "T1 EXEC CICS READQ NEXT(1)") ≡ Err BadLiteral
unfolding ebcdic.code_of
row_literal_next = refl

row_literal_rewrite : line (codes "T1 EXEC CICS WRITEQ REWRITE(1)") ≡ Err BadLiteral
unfolding ebcdic.code_of
row_literal_rewrite = refl

row_literal_main : line (codes "T1 EXEC CICS WRITEQ MAIN(1)") ≡ Err BadLiteral
unfolding ebcdic.code_of
row_literal_main = refl

row_literal_auxiliary : line (codes "T1 EXEC CICS WRITEQ AUXILIARY()") ≡ Err BadLiteral
unfolding ebcdic.code_of
row_literal_auxiliary = refl

row_literal_numrec : line (codes "T1 EXEC CICS DELETE NUMREC()") ≡ Err BadLiteral
unfolding ebcdic.code_of
row_literal_numrec = refl

row_literal_numrec_missing : line (codes "T1 EXEC CICS DELETE NUMREC") ≡ Err BadLiteral
unfolding ebcdic.code_of
row_literal_numrec_missing = refl

row_literal_generic : line (codes "T1 EXEC CICS DELETE GENERIC(1)") ≡ Err BadLiteral
unfolding ebcdic.code_of
row_literal_generic = refl

row_literal_item_missing : line (codes "T1 EXEC CICS WRITEQ TS REWRITE ITEM") ≡ Err BadLiteral
unfolding ebcdic.code_of
row_literal_item_missing = refl

row_literal_item_empty : line (codes "T1 EXEC CICS WRITEQ TS REWRITE ITEM()") ≡ Err BadLiteral
unfolding ebcdic.code_of
row_literal_item_empty = refl

row_literal_item_surplus : line (codes "T1 EXEC CICS WRITEQ TS REWRITE ITEM(1))") ≡ Err BadLiteral
unfolding ebcdic.code_of
row_literal_item_surplus = refl

row_number_item_too_large : line (codes "T1 EXEC CICS WRITEQ TS ITEM(18446744073709551616) FOO") ≡ Err BadNumber
unfolding ebcdic.code_of
row_number_item_too_large = refl

row_number_item_word : line (codes "T1 EXEC CICS WRITEQ TS QUEUE('Q1') FROM('AB') REWRITE ITEM(N)") ≡ Err BadNumber
unfolding ebcdic.code_of
row_number_item_word = refl

row_number_item_literal : line (codes "T1 EXEC CICS WRITEQ ITEM('2') QUEUE('Q1') FROM('AB') REWRITE") ≡ Err BadNumber
unfolding ebcdic.code_of
row_number_item_literal = refl

row_number_readq_item : line (codes "T1 EXEC CICS READQ TS ITEM(N)") ≡ Err BadNumber
unfolding ebcdic.code_of
row_number_readq_item = refl

row_number_readq_item_missing : line (codes "T1 EXEC CICS READQ TS ITEM") ≡ Err BadNumber
unfolding ebcdic.code_of
row_number_readq_item_missing = refl

row_number_readq_item_surplus : line (codes "T1 EXEC CICS READQ TS ITEM(1))") ≡ Err BadNumber
unfolding ebcdic.code_of
row_number_readq_item_surplus = refl

row_number_td_length : line (codes "T1 EXEC CICS READQ TD LENGTH('3')") ≡ Err BadNumber
unfolding ebcdic.code_of
row_number_td_length = refl

-- ---- options

row_missing_recovery : line (codes "DEFINE TDQUEUE('TDQ1')") ≡ Err MissingOption
unfolding ebcdic.code_of
row_missing_recovery = refl

row_missing_load_from : line (codes "LOAD TDQUEUE('TDQ1')") ≡ Err MissingOption
unfolding ebcdic.code_of
row_missing_load_from = refl

row_missing_readq_all : line (codes "T1 EXEC CICS READQ") ≡ Err MissingOption
unfolding ebcdic.code_of
row_missing_readq_all = refl

row_missing_deleteq_queue : line (codes "T1 EXEC CICS DELETEQ TD END-EXEC") ≡ Err MissingOption
unfolding ebcdic.code_of
row_missing_deleteq_queue = refl

row_missing_writeq_from : line (codes "T1 EXEC CICS WRITEQ TS QUEUE('Q1')") ≡ Err MissingOption
unfolding ebcdic.code_of
row_missing_writeq_from = refl

row_missing_writeq_queue : line (codes "T1 EXEC CICS WRITEQ TD FROM('AB')") ≡ Err MissingOption
unfolding ebcdic.code_of
row_missing_writeq_queue = refl

row_missing_item : line (codes "T1 EXEC CICS WRITEQ TS QUEUE('Q1') FROM('AB') REWRITE") ≡ Err MissingOption
unfolding ebcdic.code_of
row_missing_item = refl

row_missing_before_number : line (codes "T1 EXEC CICS WRITEQ TS QUEUE('Q1') REWRITE ITEM(N)") ≡ Err MissingOption
unfolding ebcdic.code_of
row_missing_before_number = refl

row_missing_generic_key : line (codes "T1 EXEC CICS DELETE FILE('ACCT') GENERIC") ≡ Err MissingOption
unfolding ebcdic.code_of
row_missing_generic_key = refl

row_missing_counted_key : line (codes "T1 EXEC CICS DELETE FILE('ACCT') NUMREC(N)") ≡ Err MissingOption
unfolding ebcdic.code_of
row_missing_counted_key = refl

row_doubled_logical : line (codes "DEFINE TDQUEUE('A') LOGICAL LOGICAL") ≡ Err DoubledOption
unfolding ebcdic.code_of
row_doubled_logical = refl

row_doubled_prefix : line (codes "DEFINE TSPREFIX('A') TSPREFIX") ≡ Err DoubledOption
unfolding ebcdic.code_of
row_doubled_prefix = refl

row_doubled_queue : line (codes "T1 EXEC CICS READQ QUEUE('Q1') QUEUE") ≡ Err DoubledOption
unfolding ebcdic.code_of
row_doubled_queue = refl

row_doubled_item : line (codes "T1 EXEC CICS WRITEQ TS ITEM(1) ITEM") ≡ Err DoubledOption
unfolding ebcdic.code_of
row_doubled_item = refl

row_doubled_next : line (codes "T1 EXEC CICS READQ NEXT NEXT") ≡ Err DoubledOption
unfolding ebcdic.code_of
row_doubled_next = refl

row_doubled_numrec : line (codes "T1 EXEC CICS DELETE NUMREC(N) NUMREC") ≡ Err DoubledOption
unfolding ebcdic.code_of
row_doubled_numrec = refl

row_not_here_physical : line (codes "DEFINE TDQUEUE('A') LOGICAL PHYSICAL") ≡ Err OptionNotHere
unfolding ebcdic.code_of
row_not_here_physical = refl

row_not_here_none : line (codes "DEFINE TDQUEUE('A') LOGICAL NONE") ≡ Err OptionNotHere
unfolding ebcdic.code_of
row_not_here_none = refl

row_not_here_none_behind_physical : line (codes "DEFINE TDQUEUE('A') PHYSICAL NONE") ≡ Err OptionNotHere
unfolding ebcdic.code_of
row_not_here_none_behind_physical = refl

row_not_here_logical : line (codes "DEFINE TDQUEUE('A') NONE LOGICAL") ≡ Err OptionNotHere
unfolding ebcdic.code_of
row_not_here_logical = refl

row_not_here_recoverable : line (codes "DEFINE TDQUEUE('A') RECOVERABLE") ≡ Err OptionNotHere
unfolding ebcdic.code_of
row_not_here_recoverable = refl

row_not_here_logical_behind_physical : line (codes "DEFINE TDQUEUE('A') PHYSICAL LOGICAL") ≡ Err OptionNotHere
unfolding ebcdic.code_of
row_not_here_logical_behind_physical = refl

row_not_here_physical_behind_none : line (codes "DEFINE TDQUEUE('A') NONE PHYSICAL") ≡ Err OptionNotHere
unfolding ebcdic.code_of
row_not_here_physical_behind_none = refl

row_not_here_prefix_logical : line (codes "DEFINE TSPREFIX('A') LOGICAL") ≡ Err OptionNotHere
unfolding ebcdic.code_of
row_not_here_prefix_logical = refl

row_not_here_file_none : line (codes "DEFINE FILE('A') NONE") ≡ Err OptionNotHere
unfolding ebcdic.code_of
row_not_here_file_none = refl

row_not_here_load_physical : line (codes "LOAD TDQUEUE('A') PHYSICAL") ≡ Err OptionNotHere
unfolding ebcdic.code_of
row_not_here_load_physical = refl

row_not_here_immediate_option : line (codes "SHUTDOWN IMMEDIATE NOHANDLE") ≡ Err OptionNotHere
unfolding ebcdic.code_of
row_not_here_immediate_option = refl

row_not_here_immediate_end : line (codes "SHUTDOWN IMMEDIATE END-EXEC") ≡ Err OptionNotHere
unfolding ebcdic.code_of
row_not_here_immediate_end = refl

row_not_here_readq_file : line (codes "T1 EXEC CICS READQ FILE('A')") ≡ Err OptionNotHere
unfolding ebcdic.code_of
row_not_here_readq_file = refl

row_not_here_excluded_next : line (codes "T1 EXEC CICS READQ TS ITEM(1) NEXT") ≡ Err OptionNotHere
unfolding ebcdic.code_of
row_not_here_excluded_next = refl

row_not_here_excluded_item : line (codes "T1 EXEC CICS READQ NEXT ITEM") ≡ Err OptionNotHere
unfolding ebcdic.code_of
row_not_here_excluded_item = refl

row_not_here_excluded_auxiliary : line (codes "T1 EXEC CICS WRITEQ MAIN AUXILIARY") ≡ Err OptionNotHere
unfolding ebcdic.code_of
row_not_here_excluded_auxiliary = refl

row_not_here_excluded_main : line (codes "T1 EXEC CICS WRITEQ TS AUXILIARY MAIN") ≡ Err OptionNotHere
unfolding ebcdic.code_of
row_not_here_excluded_main = refl

row_not_here_writeq_next : line (codes "T1 EXEC CICS WRITEQ TS NEXT") ≡ Err OptionNotHere
unfolding ebcdic.code_of
row_not_here_writeq_next = refl

row_not_here_readq_rewrite : line (codes "T1 EXEC CICS READQ TS REWRITE") ≡ Err OptionNotHere
unfolding ebcdic.code_of
row_not_here_readq_rewrite = refl

row_not_here_readq_nosuspend : line (codes "T1 EXEC CICS READQ NOSUSPEND") ≡ Err OptionNotHere
unfolding ebcdic.code_of
row_not_here_readq_nosuspend = refl

row_not_here_td_item : line (codes "T1 EXEC CICS WRITEQ TD ITEM(1)") ≡ Err OptionNotHere
unfolding ebcdic.code_of
row_not_here_td_item = refl

row_not_here_td_main : line (codes "T1 EXEC CICS WRITEQ TD MAIN") ≡ Err OptionNotHere
unfolding ebcdic.code_of
row_not_here_td_main = refl

row_not_here_td_nosuspend : line (codes "T1 EXEC CICS WRITEQ TD NOSUSPEND") ≡ Err OptionNotHere
unfolding ebcdic.code_of
row_not_here_td_nosuspend = refl

row_not_here_td_next : line (codes "T1 EXEC CICS READQ TD NEXT") ≡ Err OptionNotHere
unfolding ebcdic.code_of
row_not_here_td_next = refl

row_not_here_deleteq_length : line (codes "T1 EXEC CICS DELETEQ TS LENGTH(1)") ≡ Err OptionNotHere
unfolding ebcdic.code_of
row_not_here_deleteq_length = refl

row_not_here_rewrite_numrec : line (codes "T1 EXEC CICS REWRITE NUMREC(N)") ≡ Err OptionNotHere
unfolding ebcdic.code_of
row_not_here_rewrite_numrec = refl

row_not_here_item_elsewhere : line (codes "T1 EXEC CICS SYNCPOINT ITEM") ≡ Err OptionNotHere
unfolding ebcdic.code_of
row_not_here_item_elsewhere = refl

row_not_here_queue_elsewhere : line (codes "T1 EXEC CICS SYNCPOINT QUEUE") ≡ Err OptionNotHere
unfolding ebcdic.code_of
row_not_here_queue_elsewhere = refl

row_not_here_rewrite_elsewhere : line (codes "T1 EXEC CICS SYNCPOINT REWRITE") ≡ Err OptionNotHere
unfolding ebcdic.code_of
row_not_here_rewrite_elsewhere = refl

row_not_here_main_elsewhere : line (codes "T1 EXEC CICS SYNCPOINT MAIN") ≡ Err OptionNotHere
unfolding ebcdic.code_of
row_not_here_main_elsewhere = refl

row_not_here_auxiliary_elsewhere : line (codes "T1 EXEC CICS SYNCPOINT AUXILIARY") ≡ Err OptionNotHere
unfolding ebcdic.code_of
row_not_here_auxiliary_elsewhere = refl

row_not_here_numrec_elsewhere : line (codes "T1 EXEC CICS SYNCPOINT NUMREC") ≡ Err OptionNotHere
unfolding ebcdic.code_of
row_not_here_numrec_elsewhere = refl

row_not_here_logical_elsewhere : line (codes "T1 EXEC CICS SYNCPOINT LOGICAL") ≡ Err OptionNotHere
unfolding ebcdic.code_of
row_not_here_logical_elsewhere = refl

row_not_here_physical_elsewhere : line (codes "T1 EXEC CICS SYNCPOINT PHYSICAL") ≡ Err OptionNotHere
unfolding ebcdic.code_of
row_not_here_physical_elsewhere = refl

row_not_here_none_elsewhere : line (codes "T1 EXEC CICS SYNCPOINT NONE") ≡ Err OptionNotHere
unfolding ebcdic.code_of
row_not_here_none_elsewhere = refl

row_not_here_tsprefix_elsewhere : line (codes "T1 EXEC CICS SYNCPOINT TSPREFIX") ≡ Err OptionNotHere
unfolding ebcdic.code_of
row_not_here_tsprefix_elsewhere = refl

row_not_here_tdqueue_elsewhere : line (codes "T1 EXEC CICS SYNCPOINT TDQUEUE") ≡ Err OptionNotHere
unfolding ebcdic.code_of
row_not_here_tdqueue_elsewhere = refl

row_not_here_next_elsewhere : line (codes "T1 EXEC CICS SYNCPOINT NEXT") ≡ Err OptionNotHere
unfolding ebcdic.code_of
row_not_here_next_elsewhere = refl

-- ---- lines as they are written from their tokens

abbrev of_queue : List Written
of_queue = record { option = option.Queue; value = Some (literal Quoted (codes "Q1")) } ∷ []

row_written_ts : laid_out (command_tokens (codes "T1") command.DeleteqTs false of_queue) ≡ codes "T1 EXEC CICS DELETEQ TS QUEUE ( 'Q1' ) "
row_written_ts = refl

row_written_left_out : laid_out (command_tokens (codes "T1") command.DeleteqTs true of_queue) ≡ codes "T1 EXEC CICS DELETEQ QUEUE ( 'Q1' ) "
row_written_left_out = refl

row_written_td : laid_out (command_tokens (codes "T1") command.DeleteqTd true of_queue) ≡ codes "T1 EXEC CICS DELETEQ TD QUEUE ( 'Q1' ) "
row_written_td = refl

row_written_out : written_out (codes "T1") (record { verb = WriteqTs q1 ab None (Some 2); resp = true }) ≡ codes "T1 EXEC CICS WRITEQ TS NOHANDLE QUEUE('Q1') FROM('AB') REWRITE ITEM(2)"
unfolding digits ebcdic.character_of
row_written_out = refl

row_written_out_td : written_out (codes "T1") (record { verb = ReadqTd tdq1 (Some 3) true; resp = false }) ≡ codes "T1 EXEC CICS READQ TD QUEUE('TDQ1') LENGTH(3) NOSUSPEND"
unfolding digits ebcdic.character_of
row_written_out_td = refl

row_written_out_generic : written_out (codes "T1") (record { verb = Delete acct (Some ab) None true; resp = false }) ≡ codes "T1 EXEC CICS DELETE FILE('ACCT') RIDFLD('AB') GENERIC"
unfolding ebcdic.character_of
row_written_out_generic = refl

-- a key in which a byte has no character
row_written_out_bytes : written_out (codes "T1") (record { verb = Delete acct (Some (0x00 ∷ 0xC1 ∷ [])) None true; resp = false }) ≡ codes "T1 EXEC CICS DELETE FILE('ACCT') RIDFLD(X'00C1') GENERIC"
unfolding ebcdic.character_of
row_written_out_bytes = refl
