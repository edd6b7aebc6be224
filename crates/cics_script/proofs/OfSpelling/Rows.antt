-- Worked lines: what the bytes of a line say, computed.
use Rattle.std.proofs.Common.{◌≡◌, ◌∷◌, [], None, Some, Ok, Err, false, true, replicate, refl, ℕ, List}
use Rattle.cics_names.specs.Ebcdic as ebcdic
use Rattle.cics_names.specs.declared.commands.Verb.TheVariants.{Read, Write, Rewrite, Delete, Unlock, StartBr, ResetBr, ReadNext, ReadPrev, EndBr, Enq, Deq, Syncpoint, Rollback, Return, Abend}
use Rattle.cics_script.specs.declared.faults.LineFault.TheVariants.{TooLong, NotAscii, UnknownWord, BadLiteral, BadNumber, MissingOption, DoubledOption, OptionNotHere}
use Rattle.cics_script.specs.declared.lines.Line.TheVariants.{Blank, DefineFile, LoadFile, Attach, Clock, Issue}
use Rattle.cics_script.specs.declared.literals.Notation.TheVariants.{Quoted, Hexadecimal}
use Rattle.cics_script.specs.declared.words.CommandWord.TheVariants as command
use Rattle.cics_script.specs.declared.words.OptionWord.{OptionWord}
use Rattle.cics_script.specs.declared.words.OptionWord.TheVariants as option
use Rattle.cics_script.specs.Tokens.{word, number, literal}
use Rattle.cics_script.specs.Layout.{laid_out}
use Rattle.cics_script.specs.Spelling.Spelling.{command_tokens, is_bare}
use Rattle.std.specs.Prelude.{map}
use Rattle.std.specs.List.{filter}
use Rattle.std.specs.Fmt.{digits}
use Rattle.cics_script.specs.Words.{excludes, option_words, usual_kind}
use Rattle.cics_script.specs.Lines.{line}
use lib.Chars.{codes}

-- the file ACCT, the task T1 and the transaction AAAA
abbrev pub acct : List ℕ
acct = 0xC1 ∷ 0xC3 ∷ 0xC3 ∷ 0xE3 ∷ 0x40 ∷ 0x40 ∷ 0x40 ∷ 0x40 ∷ []

abbrev pub t1 : List ℕ
t1 = 0xE3 ∷ 0xF1 ∷ 0x40 ∷ 0x40 ∷ 0x40 ∷ 0x40 ∷ 0x40 ∷ 0x40 ∷ []

abbrev pub aaaa : List ℕ
aaaa = 0xC1 ∷ 0xC1 ∷ 0xC1 ∷ 0xC1 ∷ []

-- ---- lines that are read

row_define : line (codes "DEFINE FILE('ACCT') KEYLENGTH(4) RECOVERABLE") ≡ Ok (DefineFile acct (record { key_length = 4; key_offset = 0; record_size = 32767; recoverable = true }))
unfolding ebcdic.code_of
row_define = refl

row_define_whole : line (codes " define dataset('ACCT')unrecoverable RECORDSIZE ( 80 )KEYOFFSET(2) KEYLENGTH(04) ") ≡ Ok (DefineFile acct (record { key_length = 4; key_offset = 2; record_size = 80; recoverable = false }))
unfolding ebcdic.code_of
row_define_whole = refl

row_load : line (codes "LOAD FILE('ACCT') FROM('0001aa')") ≡ Ok (LoadFile acct (0xF0 ∷ 0xF0 ∷ 0xF0 ∷ 0xF1 ∷ 0x81 ∷ 0x81 ∷ []))
unfolding ebcdic.code_of
row_load = refl

row_load_quote : line (codes "LOAD FILE('ACCT') FROM('it''s')") ≡ Ok (LoadFile acct (0x89 ∷ 0xA3 ∷ 0x7D ∷ 0xA2 ∷ []))
unfolding ebcdic.code_of
row_load_quote = refl

row_load_hexadecimal : line (codes "LOAD FILE('ACCT') FROM(x'00fF')") ≡ Ok (LoadFile acct (0x00 ∷ 0xFF ∷ []))
unfolding ebcdic.code_of
row_load_hexadecimal = refl

row_load_empty : line (codes "LOAD FILE('ACCT') FROM('')") ≡ Ok (LoadFile acct [])
unfolding ebcdic.code_of
row_load_empty = refl

row_attach : line (codes "ATTACH T1 TRANSID('AAAA')") ≡ Ok (Attach t1 aaaa 0)
unfolding ebcdic.code_of
row_attach = refl

row_write : line (codes "T1 EXEC CICS WRITE FILE('ACCT') RIDFLD('0002') FROM('0002bb')") ≡ Ok (Issue t1 (record { verb = Write acct (0xF0 ∷ 0xF0 ∷ 0xF0 ∷ 0xF2 ∷ []) None (0xF0 ∷ 0xF0 ∷ 0xF0 ∷ 0xF2 ∷ 0x82 ∷ 0x82 ∷ []) None; resp = false }))
unfolding ebcdic.code_of
row_write = refl

row_read : line (codes "T1 EXEC CICS READ FILE('ACCT') RIDFLD('0001')") ≡ Ok (Issue t1 (record { verb = Read acct (0xF0 ∷ 0xF0 ∷ 0xF0 ∷ 0xF1 ∷ []) None None false false false; resp = false }))
unfolding ebcdic.code_of
row_read = refl

row_read_turned : line (codes "t1 exec cics read resp(r) ridfld('0001') dataset('ACCT')") ≡ Ok (Issue t1 (record { verb = Read acct (0xF0 ∷ 0xF0 ∷ 0xF0 ∷ 0xF1 ∷ []) None None false false false; resp = true }))
unfolding ebcdic.code_of
row_read_turned = refl

row_syncpoint : line (codes "T1 EXEC CICS SYNCPOINT") ≡ Ok (Issue t1 (record { verb = Syncpoint; resp = false }))
unfolding ebcdic.code_of
row_syncpoint = refl

row_return : line (codes "T1 EXEC CICS RETURN NOHANDLE") ≡ Ok (Issue t1 (record { verb = Return; resp = true }))
unfolding ebcdic.code_of
row_return = refl

row_attach_time_out : line (codes "ATTACH T1 DTIMOUT(5) TRANSID('AAAA')") ≡ Ok (Attach t1 aaaa 5)
unfolding ebcdic.code_of
row_attach_time_out = refl

row_clock : line (codes "CLOCK 15") ≡ Ok (Clock 15)
unfolding ebcdic.code_of
row_clock = refl

row_clock_small : line (codes "clock 007 ") ≡ Ok (Clock 7)
unfolding ebcdic.code_of
row_clock_small = refl

row_read_whole : line (codes "T1 EXEC CICS READ GTEQ LENGTH(3) INTO(AREA) GENERIC KEYLENGTH(2) RIDFLD('00') FILE('ACCT') RESP2(REASON)") ≡ Ok (Issue t1 (record { verb = Read acct (0xF0 ∷ 0xF0 ∷ []) (Some 2) (Some 3) true true false; resp = false }))
unfolding ebcdic.code_of
row_read_whole = refl

row_read_update : line (codes "T1 EXEC CICS READ FILE('ACCT') RIDFLD('0001') EQUAL UPDATE") ≡ Ok (Issue t1 (record { verb = Read acct (0xF0 ∷ 0xF0 ∷ 0xF0 ∷ 0xF1 ∷ []) None None false false true; resp = false }))
unfolding ebcdic.code_of
row_read_update = refl

row_write_whole : line (codes "T1 EXEC CICS WRITE FILE('ACCT') FROM('0002bb') LENGTH(4) RIDFLD('0002') KEYLENGTH(4)") ≡ Ok (Issue t1 (record { verb = Write acct (0xF0 ∷ 0xF0 ∷ 0xF0 ∷ 0xF2 ∷ []) (Some 4) (0xF0 ∷ 0xF0 ∷ 0xF0 ∷ 0xF2 ∷ 0x82 ∷ 0x82 ∷ []) (Some 4); resp = false }))
unfolding ebcdic.code_of
row_write_whole = refl

row_rewrite : line (codes "T1 EXEC CICS REWRITE FILE('ACCT') FROM('0001b') LENGTH(5)") ≡ Ok (Issue t1 (record { verb = Rewrite acct (0xF0 ∷ 0xF0 ∷ 0xF0 ∷ 0xF1 ∷ 0x82 ∷ []) (Some 5); resp = false }))
unfolding ebcdic.code_of
row_rewrite = refl

row_delete : line (codes "T1 EXEC CICS DELETE FILE('ACCT')") ≡ Ok (Issue t1 (record { verb = Delete acct None None false; resp = false }))
unfolding ebcdic.code_of
row_delete = refl

row_delete_key : line (codes "T1 EXEC CICS DELETE FILE('ACCT') KEYLENGTH(4) RIDFLD('0001')") ≡ Ok (Issue t1 (record { verb = Delete acct (Some (0xF0 ∷ 0xF0 ∷ 0xF0 ∷ 0xF1 ∷ [])) (Some 4) false; resp = false }))
unfolding ebcdic.code_of
row_delete_key = refl

row_unlock : line (codes "T1 EXEC CICS UNLOCK DATASET('ACCT')") ≡ Ok (Issue t1 (record { verb = Unlock acct; resp = false }))
unfolding ebcdic.code_of
row_unlock = refl

row_startbr : line (codes "T1 EXEC CICS STARTBR FILE('ACCT') RIDFLD('') KEYLENGTH(0) GENERIC EQUAL") ≡ Ok (Issue t1 (record { verb = StartBr acct [] (Some 0) true true; resp = false }))
unfolding ebcdic.code_of
row_startbr = refl

row_startbr_gteq : line (codes "T1 EXEC CICS STARTBR FILE('ACCT') RIDFLD('0001') GTEQ") ≡ Ok (Issue t1 (record { verb = StartBr acct (0xF0 ∷ 0xF0 ∷ 0xF0 ∷ 0xF1 ∷ []) None false false; resp = false }))
unfolding ebcdic.code_of
row_startbr_gteq = refl

row_resetbr : line (codes "T1 EXEC CICS RESETBR FILE('ACCT') RIDFLD('0001') EQUAL") ≡ Ok (Issue t1 (record { verb = ResetBr acct (0xF0 ∷ 0xF0 ∷ 0xF0 ∷ 0xF1 ∷ []) None false true; resp = false }))
unfolding ebcdic.code_of
row_resetbr = refl

row_readnext : line (codes "T1 EXEC CICS READNEXT FILE('ACCT') INTO('A') RIDFLD(KEY) LENGTH(8)") ≡ Ok (Issue t1 (record { verb = ReadNext acct (Some 8); resp = false }))
unfolding ebcdic.code_of
row_readnext = refl

row_resetbr_gteq : line (codes "T1 EXEC CICS RESETBR FILE('ACCT') RIDFLD('1') GTEQ") ≡ Ok (Issue t1 (record { verb = ResetBr acct (0xF1 ∷ []) None false false; resp = false }))
unfolding ebcdic.code_of
row_resetbr_gteq = refl

row_readprev_into : line (codes "T1 EXEC CICS READPREV FILE('ACCT') INTO(A)") ≡ Ok (Issue t1 (record { verb = ReadPrev acct None; resp = false }))
unfolding ebcdic.code_of
row_readprev_into = refl

row_readprev : line (codes "T1 EXEC CICS READPREV RIDFLD(5) FILE('ACCT')") ≡ Ok (Issue t1 (record { verb = ReadPrev acct None; resp = false }))
unfolding ebcdic.code_of
row_readprev = refl

row_endbr : line (codes "T1 EXEC CICS ENDBR FILE('ACCT')") ≡ Ok (Issue t1 (record { verb = EndBr acct; resp = false }))
unfolding ebcdic.code_of
row_endbr = refl

row_enq : line (codes "T1 EXEC CICS ENQ RESOURCE('L1') LENGTH(2) NOSUSPEND") ≡ Ok (Issue t1 (record { verb = Enq (0xD3 ∷ 0xF1 ∷ []) 2 true; resp = false }))
unfolding ebcdic.code_of
row_enq = refl

row_enq_waits : line (codes "T1 EXEC CICS ENQ LENGTH(300) RESOURCE('L1')") ≡ Ok (Issue t1 (record { verb = Enq (0xD3 ∷ 0xF1 ∷ []) 300 false; resp = false }))
unfolding ebcdic.code_of
row_enq_waits = refl

row_deq : line (codes "T1 EXEC CICS DEQ RESOURCE('L1') LENGTH(2)") ≡ Ok (Issue t1 (record { verb = Deq (0xD3 ∷ 0xF1 ∷ []) 2; resp = false }))
unfolding ebcdic.code_of
row_deq = refl

row_rollback : line (codes "T1 EXEC CICS SYNCPOINT ROLLBACK") ≡ Ok (Issue t1 (record { verb = Rollback; resp = false }))
unfolding ebcdic.code_of
row_rollback = refl

row_abend : line (codes "T1 EXEC CICS ABEND") ≡ Ok (Issue t1 (record { verb = Abend None; resp = false }))
unfolding ebcdic.code_of
row_abend = refl

row_abend_code : line (codes "T1 EXEC CICS ABEND CANCEL ABCODE('AAAA') NODUMP") ≡ Ok (Issue t1 (record { verb = Abend (Some aaaa); resp = false }))
unfolding ebcdic.code_of
row_abend_code = refl

row_end_exec : line (codes "T1 EXEC CICS RETURN NOHANDLE END-EXEC") ≡ Ok (Issue t1 (record { verb = Return; resp = true }))
unfolding ebcdic.code_of
row_end_exec = refl

row_resp2_alone : line (codes "T1 EXEC CICS RETURN RESP2(R) end-exec ") ≡ Ok (Issue t1 (record { verb = Return; resp = false }))
unfolding ebcdic.code_of
row_resp2_alone = refl

-- ---- blank lines and comments

row_nothing : line ([]) ≡ Ok Blank
unfolding ebcdic.code_of
row_nothing = refl

row_blanks : line (32 ∷ 9 ∷ 32 ∷ []) ≡ Ok Blank
unfolding ebcdic.code_of
row_blanks = refl

row_comment : line (codes "  * 'a comment") ≡ Ok Blank
unfolding ebcdic.code_of
row_comment = refl

-- ---- bytes

row_longest : line (replicate 70000 32) ≡ Ok Blank
unfolding ebcdic.code_of
row_longest = refl

row_too_long : line (replicate 70001 32) ≡ Err TooLong
unfolding ebcdic.code_of
row_too_long = refl

row_too_long_first : line (replicate 70001 0x80) ≡ Err TooLong
unfolding ebcdic.code_of
row_too_long_first = refl

row_not_ascii : line (42 ∷ 0x80 ∷ []) ≡ Err NotAscii
unfolding ebcdic.code_of
row_not_ascii = refl

row_carriage_return : line (32 ∷ 13 ∷ []) ≡ Err NotAscii
unfolding ebcdic.code_of
row_carriage_return = refl

-- ---- words

row_unknown_unknown_first : line (codes "FOO") ≡ Err UnknownWord
unfolding ebcdic.code_of
row_unknown_unknown_first = refl

row_unknown_number_first : line (codes "5A") ≡ Err UnknownWord
unfolding ebcdic.code_of
row_unknown_number_first = refl

row_unknown_sign_first : line (codes "-") ≡ Err UnknownWord
unfolding ebcdic.code_of
row_unknown_sign_first = refl

row_unknown_object : line (codes "DEFINE KEYLENGTH(4)") ≡ Err UnknownWord
unfolding ebcdic.code_of
row_unknown_object = refl

row_unknown_no_object : line (codes "LOAD") ≡ Err UnknownWord
unfolding ebcdic.code_of
row_unknown_no_object = refl

row_unknown_label_hyphen : line (codes "ATTACH T-1 TRANSID('A')") ≡ Err UnknownWord
unfolding ebcdic.code_of
row_unknown_label_hyphen = refl

row_unknown_label_long : line (codes "ATTACH T12345678 TRANSID('A')") ≡ Err UnknownWord
unfolding ebcdic.code_of
row_unknown_label_long = refl

row_unknown_label_define : line (codes "ATTACH DEFINE TRANSID('A')") ≡ Err UnknownWord
unfolding ebcdic.code_of
row_unknown_label_define = refl

row_unknown_no_exec : line (codes "T1 CICS READ") ≡ Err UnknownWord
unfolding ebcdic.code_of
row_unknown_no_exec = refl

row_unknown_no_cics : line (codes "T1 EXEC") ≡ Err UnknownWord
unfolding ebcdic.code_of
row_unknown_no_cics = refl

row_unknown_verb : line (codes "T1 EXEC CICS FOO") ≡ Err UnknownWord
unfolding ebcdic.code_of
row_unknown_verb = refl

row_unknown_parenthesis : line (codes "T1 EXEC CICS READ (") ≡ Err UnknownWord
unfolding ebcdic.code_of
row_unknown_parenthesis = refl

row_unknown_parenthesis_label : line (codes "ATTACH T1 (") ≡ Err UnknownWord
unfolding ebcdic.code_of
row_unknown_parenthesis_label = refl

row_unknown_literal_option : line (codes "LOAD FILE('A')X'F1'") ≡ Err UnknownWord
unfolding ebcdic.code_of
row_unknown_literal_option = refl

row_unknown_shutdown : line (codes "SHUTDOWN EXEC CICS RETURN") ≡ Err UnknownWord
unfolding ebcdic.code_of
row_unknown_shutdown = refl

row_unknown_option : line (codes "T1 EXEC CICS SYNCPOINT IMMEDIATE") ≡ Err UnknownWord
unfolding ebcdic.code_of
row_unknown_option = refl

row_unknown_verb_as_option : line (codes "T1 EXEC CICS READ UNLOCK") ≡ Err UnknownWord
unfolding ebcdic.code_of
row_unknown_verb_as_option = refl

row_unknown_clock_sign : line (codes "CLOCK -5") ≡ Err UnknownWord
unfolding ebcdic.code_of
row_unknown_clock_sign = refl

row_unknown_clock_option : line (codes "CLOCK 5 A") ≡ Err UnknownWord
unfolding ebcdic.code_of
row_unknown_clock_option = refl

row_unknown_clock_parenthesis : line (codes "CLOCK 5 )") ≡ Err UnknownWord
unfolding ebcdic.code_of
row_unknown_clock_parenthesis = refl

row_unknown_rollback_value : line (codes "T1 EXEC CICS SYNCPOINT (ROLLBACK)") ≡ Err UnknownWord
unfolding ebcdic.code_of
row_unknown_rollback_value = refl

row_unknown_behind_end : line (codes "T1 EXEC CICS RETURN END-EXEC RESP(R)") ≡ Err UnknownWord
unfolding ebcdic.code_of
row_unknown_behind_end = refl

row_unknown_second_end : line (codes "T1 EXEC CICS RETURN END-EXEC END-EXEC") ≡ Err UnknownWord
unfolding ebcdic.code_of
row_unknown_second_end = refl

row_unknown_parenthesis_behind_end : line (codes "T1 EXEC CICS RETURN END-EXEC (") ≡ Err UnknownWord
unfolding ebcdic.code_of
row_unknown_parenthesis_behind_end = refl

row_unknown_before_missing : line (codes "T1 EXEC CICS READ END-EXEC .") ≡ Err UnknownWord
unfolding ebcdic.code_of
row_unknown_before_missing = refl

-- ---- literals

row_literal_open : line (codes "ATTACH T1 TRANSID('AB") ≡ Err BadLiteral
unfolding ebcdic.code_of
row_literal_open = refl

row_literal_open_quote : line (codes "LOAD FILE('A') FROM(''')") ≡ Err BadLiteral
unfolding ebcdic.code_of
row_literal_open_quote = refl

row_literal_odd : line (codes "LOAD FILE('A') FROM(X'0')") ≡ Err BadLiteral
unfolding ebcdic.code_of
row_literal_odd = refl

row_literal_digit : line (codes "LOAD FILE('A') FROM(X'0G')") ≡ Err BadLiteral
unfolding ebcdic.code_of
row_literal_digit = refl

row_literal_character : line (codes "LOAD FILE('A!') FROM('')") ≡ Err BadLiteral
unfolding ebcdic.code_of
row_literal_character = refl

row_literal_name_long : line (codes "DEFINE FILE('ACCOUNTS1')") ≡ Err BadLiteral
unfolding ebcdic.code_of
row_literal_name_long = refl

row_literal_name_empty : line (codes "DEFINE FILE('')") ≡ Err BadLiteral
unfolding ebcdic.code_of
row_literal_name_empty = refl

row_literal_name_hexadecimal : line (codes "DEFINE FILE(X'C1')") ≡ Err BadLiteral
unfolding ebcdic.code_of
row_literal_name_hexadecimal = refl

row_literal_name4 : line (codes "ATTACH T1 TRANSID('AAAAA')") ≡ Err BadLiteral
unfolding ebcdic.code_of
row_literal_name4 = refl

row_literal_no_parenthesis : line (codes "T1 EXEC CICS READ FILE 'A'") ≡ Err BadLiteral
unfolding ebcdic.code_of
row_literal_no_parenthesis = refl

row_literal_no_value : line (codes "T1 EXEC CICS READ RESP()") ≡ Err BadLiteral
unfolding ebcdic.code_of
row_literal_no_value = refl

row_literal_not_closed : line (codes "T1 EXEC CICS READ RESP(R") ≡ Err BadLiteral
unfolding ebcdic.code_of
row_literal_not_closed = refl

row_literal_surplus : line (codes "DEFINE FILE('A'))") ≡ Err BadLiteral
unfolding ebcdic.code_of
row_literal_surplus = refl

row_literal_flag_value : line (codes "T1 EXEC CICS RETURN NOHANDLE(R)") ≡ Err BadLiteral
unfolding ebcdic.code_of
row_literal_flag_value = refl

row_literal_first : line (codes "'AB") ≡ Err BadLiteral
unfolding ebcdic.code_of
row_literal_first = refl

row_literal_word_not_literal : line (codes "T1 EXEC CICS READ RIDFLD(A)") ≡ Err BadLiteral
unfolding ebcdic.code_of
row_literal_word_not_literal = refl

row_literal_behind_end : line (codes "T1 EXEC CICS RETURN END-EXEC 'A") ≡ Err BadLiteral
unfolding ebcdic.code_of
row_literal_behind_end = refl

row_literal_rollback_value : line (codes "T1 EXEC CICS SYNCPOINT ROLLBACK(R)") ≡ Err BadLiteral
unfolding ebcdic.code_of
row_literal_rollback_value = refl

row_literal_abcode : line (codes "T1 EXEC CICS ABEND ABCODE('AAAAA')") ≡ Err BadLiteral
unfolding ebcdic.code_of
row_literal_abcode = refl

row_literal_time_out : line (codes "ATTACH T1 DTIMOUT('5") ≡ Err BadLiteral
unfolding ebcdic.code_of
row_literal_time_out = refl

row_literal_resource : line (codes "T1 EXEC CICS ENQ RESOURCE(L1)") ≡ Err BadLiteral
unfolding ebcdic.code_of
row_literal_resource = refl

row_literal_resp2 : line (codes "T1 EXEC CICS RETURN RESP2()") ≡ Err BadLiteral
unfolding ebcdic.code_of
row_literal_resp2 = refl

-- ---- numbers

row_number_largest : line (codes "DEFINE FILE('ACCT') KEYLENGTH(0018446744073709551615) RECOVERABLE") ≡ Ok (DefineFile acct (record { key_length = 18446744073709551615; key_offset = 0; record_size = 32767; recoverable = true }))
unfolding ebcdic.code_of
row_number_largest = refl

row_number_too_large : line (codes "DEFINE FILE('ACCT') KEYLENGTH(18446744073709551616) RECOVERABLE") ≡ Err BadNumber
unfolding ebcdic.code_of
row_number_too_large = refl

row_number_literal : line (codes "DEFINE FILE('ACCT') KEYLENGTH('4')") ≡ Err BadNumber
unfolding ebcdic.code_of
row_number_literal = refl

row_number_missing : line (codes "DEFINE FILE('ACCT') KEYLENGTH") ≡ Err BadNumber
unfolding ebcdic.code_of
row_number_missing = refl

row_number_surplus : line (codes "DEFINE FILE('ACCT') KEYLENGTH(4))") ≡ Err BadNumber
unfolding ebcdic.code_of
row_number_surplus = refl

row_number_closed_by_word : line (codes "DEFINE FILE('ACCT') KEYLENGTH(4X)") ≡ Err BadNumber
unfolding ebcdic.code_of
row_number_closed_by_word = refl

row_number_anywhere : line (codes "T1 EXEC CICS READ FILE(99999999999999999999)") ≡ Err BadNumber
unfolding ebcdic.code_of
row_number_anywhere = refl

row_number_first : line (codes "99999999999999999999") ≡ Err BadNumber
unfolding ebcdic.code_of
row_number_first = refl

row_number_behind_end : line (codes "T1 EXEC CICS RETURN END-EXEC 99999999999999999999") ≡ Err BadNumber
unfolding ebcdic.code_of
row_number_behind_end = refl

row_number_clock : line (codes "CLOCK") ≡ Err BadNumber
unfolding ebcdic.code_of
row_number_clock = refl

row_number_clock_word : line (codes "CLOCK T1") ≡ Err BadNumber
unfolding ebcdic.code_of
row_number_clock_word = refl

row_number_clock_parenthesis : line (codes "CLOCK (5)") ≡ Err BadNumber
unfolding ebcdic.code_of
row_number_clock_parenthesis = refl

row_number_clock_literal : line (codes "CLOCK '5'") ≡ Err BadNumber
unfolding ebcdic.code_of
row_number_clock_literal = refl

row_number_clock_too_large : line (codes "CLOCK 18446744073709551616") ≡ Err BadNumber
unfolding ebcdic.code_of
row_number_clock_too_large = refl

row_number_time_out : line (codes "ATTACH T1 DTIMOUT(5X)") ≡ Err BadNumber
unfolding ebcdic.code_of
row_number_time_out = refl

row_number_length : line (codes "T1 EXEC CICS ENQ LENGTH('2')") ≡ Err BadNumber
unfolding ebcdic.code_of
row_number_length = refl

-- ---- options

row_missing_transid : line (codes "ATTACH T1") ≡ Err MissingOption
unfolding ebcdic.code_of
row_missing_transid = refl

row_missing_ridfld : line (codes "T1 EXEC CICS READ FILE('A')") ≡ Err MissingOption
unfolding ebcdic.code_of
row_missing_ridfld = refl

row_missing_all : line (codes "T1 EXEC CICS WRITE") ≡ Err MissingOption
unfolding ebcdic.code_of
row_missing_all = refl

row_missing_recovery : line (codes "DEFINE FILE('A') KEYLENGTH(4)") ≡ Err MissingOption
unfolding ebcdic.code_of
row_missing_recovery = refl

row_missing_from : line (codes "LOAD FILE('A')") ≡ Err MissingOption
unfolding ebcdic.code_of
row_missing_from = refl

row_missing_delete_key : line (codes "T1 EXEC CICS DELETE FILE('ACCT') KEYLENGTH(4)") ≡ Err MissingOption
unfolding ebcdic.code_of
row_missing_delete_key = refl

row_missing_file : line (codes "T1 EXEC CICS REWRITE FROM('A')") ≡ Err MissingOption
unfolding ebcdic.code_of
row_missing_file = refl

row_missing_length : line (codes "T1 EXEC CICS ENQ RESOURCE('L1')") ≡ Err MissingOption
unfolding ebcdic.code_of
row_missing_length = refl

row_missing_resource : line (codes "T1 EXEC CICS DEQ LENGTH(2)") ≡ Err MissingOption
unfolding ebcdic.code_of
row_missing_resource = refl

row_missing_browse_key : line (codes "T1 EXEC CICS STARTBR FILE('ACCT') EQUAL END-EXEC") ≡ Err MissingOption
unfolding ebcdic.code_of
row_missing_browse_key = refl

row_missing_browse_file : line (codes "T1 EXEC CICS READNEXT RIDFLD(K)") ≡ Err MissingOption
unfolding ebcdic.code_of
row_missing_browse_file = refl

row_doubled_dataset : line (codes "T1 EXEC CICS READ FILE('A') DATASET('A') RIDFLD('1')") ≡ Err DoubledOption
unfolding ebcdic.code_of
row_doubled_dataset = refl

row_doubled_object : line (codes "DEFINE FILE('A') FILE('B')") ≡ Err DoubledOption
unfolding ebcdic.code_of
row_doubled_object = refl

row_doubled_before_value : line (codes "T1 EXEC CICS READ RESP(R) RESP") ≡ Err DoubledOption
unfolding ebcdic.code_of
row_doubled_before_value = refl

row_doubled_before_token : line (codes "ATTACH T1 TRANSID('A') TRANSID !") ≡ Err DoubledOption
unfolding ebcdic.code_of
row_doubled_before_token = refl

row_doubled_flag : line (codes "T1 EXEC CICS SYNCPOINT ROLLBACK ROLLBACK") ≡ Err DoubledOption
unfolding ebcdic.code_of
row_doubled_flag = refl

row_doubled_length : line (codes "T1 EXEC CICS ENQ LENGTH(2) LENGTH (") ≡ Err DoubledOption
unfolding ebcdic.code_of
row_doubled_length = refl

row_doubled_generic : line (codes "T1 EXEC CICS READ GENERIC GENERIC UPDATE") ≡ Err DoubledOption
unfolding ebcdic.code_of
row_doubled_generic = refl

row_not_here_from : line (codes "T1 EXEC CICS READ FILE('A') FROM('1')") ≡ Err OptionNotHere
unfolding ebcdic.code_of
row_not_here_from = refl

row_not_here_attach : line (codes "ATTACH T1 RESP(R)") ≡ Err OptionNotHere
unfolding ebcdic.code_of
row_not_here_attach = refl

row_not_here_excluded : line (codes "DEFINE FILE('A') RECOVERABLE UNRECOVERABLE") ≡ Err OptionNotHere
unfolding ebcdic.code_of
row_not_here_excluded = refl

row_not_here_before_value : line (codes "T1 EXEC CICS SYNCPOINT FILE !") ≡ Err OptionNotHere
unfolding ebcdic.code_of
row_not_here_before_value = refl

row_not_here_keylength : line (codes "T1 EXEC CICS REWRITE FILE('ACCT') KEYLENGTH(4)") ≡ Err OptionNotHere
unfolding ebcdic.code_of
row_not_here_keylength = refl

row_not_here_excluded_gteq : line (codes "T1 EXEC CICS READ EQUAL GTEQ") ≡ Err OptionNotHere
unfolding ebcdic.code_of
row_not_here_excluded_gteq = refl

row_not_here_excluded_equal : line (codes "T1 EXEC CICS STARTBR GTEQ EQUAL") ≡ Err OptionNotHere
unfolding ebcdic.code_of
row_not_here_excluded_equal = refl

row_not_here_excluded_update : line (codes "T1 EXEC CICS READ GTEQ UPDATE '") ≡ Err OptionNotHere
unfolding ebcdic.code_of
row_not_here_excluded_update = refl

row_not_here_excluded_generic : line (codes "T1 EXEC CICS READ UPDATE GENERIC") ≡ Err OptionNotHere
unfolding ebcdic.code_of
row_not_here_excluded_generic = refl

row_not_here_excluded_recoverable : line (codes "DEFINE FILE('A') UNRECOVERABLE RECOVERABLE") ≡ Err OptionNotHere
unfolding ebcdic.code_of
row_not_here_excluded_recoverable = refl

row_not_here_excluded_gteq_of_update : line (codes "T1 EXEC CICS READ UPDATE GTEQ") ≡ Err OptionNotHere
unfolding ebcdic.code_of
row_not_here_excluded_gteq_of_update = refl

row_not_here_excluded_update_of_generic : line (codes "T1 EXEC CICS READ GENERIC UPDATE") ≡ Err OptionNotHere
unfolding ebcdic.code_of
row_not_here_excluded_update_of_generic = refl

row_number_keyoffset : line (codes "DEFINE FILE('A') KEYOFFSET('2')") ≡ Err BadNumber
unfolding ebcdic.code_of
row_number_keyoffset = refl

row_number_recordsize : line (codes "DEFINE FILE('A') RECORDSIZE(X)") ≡ Err BadNumber
unfolding ebcdic.code_of
row_number_recordsize = refl

row_not_here_end_exec : line (codes "ATTACH T1 TRANSID('AAAA') END-EXEC") ≡ Err OptionNotHere
unfolding ebcdic.code_of
row_not_here_end_exec = refl

row_not_here_clock : line (codes "CLOCK 5 TRANSID('AAAA')") ≡ Err OptionNotHere
unfolding ebcdic.code_of
row_not_here_clock = refl

row_not_here_nosuspend : line (codes "T1 EXEC CICS DEQ NOSUSPEND") ≡ Err OptionNotHere
unfolding ebcdic.code_of
row_not_here_nosuspend = refl

row_not_here_return : line (codes "T1 EXEC CICS RETURN ABCODE") ≡ Err OptionNotHere
unfolding ebcdic.code_of
row_not_here_return = refl

-- ---- exclusion

-- all options
abbrev options : List OptionWord
options = map (λ row. row.1) option_words

-- if an option excludes another one, that one excludes it: the table is the same with rows and columns exchanged
excludes-symmetric : map (λ first. map (λ second. excludes first second) options) options
    ≡ map (λ first. map (λ second. excludes second first) options) options
excludes-symmetric = refl

-- the options that stand alone. A new one that becomes a flag unseen is missing here
bare-options : filter (λ one. is_bare (usual_kind one)) options
    ≡ option.Recoverable ∷ option.Unrecoverable ∷ option.Logical ∷ option.Physical ∷ option.Unrecovered ∷ option.Generic ∷ option.Equal
    ∷ option.Gteq ∷ option.Update ∷ option.Next ∷ option.Rewrite ∷ option.Main ∷ option.Auxiliary ∷ option.NoSuspend ∷ option.Rollback
    ∷ option.Cancel ∷ option.NoDump ∷ option.NoHandle ∷ option.EndExec ∷ []
bare-options = refl

-- ---- lines as they are written from their tokens

row_written_unlock : laid_out (command_tokens (codes "T1") command.Unlock false (record { option = option.File; value = Some (literal Quoted (codes "ACCT")) } ∷ [])) ≡ codes "T1 EXEC CICS UNLOCK FILE ( 'ACCT' ) "
row_written_unlock = refl

row_written_enq : laid_out (command_tokens (codes "T1") command.Enq false
    (record { option = option.NoSuspend; value = None } ∷ record { option = option.Length; value = Some (number 255) } ∷ record { option = option.Resource; value = Some (literal Hexadecimal (0x00 ∷ 0xF9 ∷ [])) } ∷ []))
    ≡ codes "T1 EXEC CICS ENQ NOSUSPEND LENGTH ( 255 ) RESOURCE ( X'00F9' ) "
unfolding digits
row_written_enq = refl

row_written_quote : laid_out (literal Quoted (codes "it's") ∷ word (codes "END-EXEC") ∷ []) ≡ codes "'it''s' END-EXEC "
row_written_quote = refl
