-- What is told of some commands, worked out.
use Rattle.std.proofs.Common.{◌≡◌, ℕ, List, [], ◌∷◌, true, false, Some, None, refl}
use Rattle.std.specs.Prelude.{codes}
use Rattle.std.specs.Fmt.{digits}
use Rattle.cics_names.specs.Ebcdic.{character_of}
use Rattle.cics_names.specs.declared.commands.Verb.TheVariants.{Read, Write, ReadNext, WriteqTs, ReadqTs, Enq}
use Rattle.cics_names.specs.declared.conditions.Condition.TheVariants.{Notfnd, Duprec, Lengerr, Itemerr}
use Rattle.cics_ksds.specs.declared.definition.FileDef.{FileDef}
use Rattle.cics_dispatch.specs.declared.machine.reasons.Reason.TheVariants.{KeyLengthDiffers, KeySize, RecordTooShort, LengthNotInFrom, ItemSize, ValueSize, NoBrowse, KeyIsNotRidfld}
use Rattle.cics_run.specs.Messages.Causes.{cause_text}
use Rattle.cics_run.specs.Messages.Reasons.{reason_text}

-- a file with keys of four bytes, and records of at most six
abbrev acct : FileDef
acct = record { key_length = 4; key_offset = 0; record_size = 6; recoverable = true }

-- ACCT, 0003 and 0004 5 in EBCDIC
abbrev name : List ℕ
name = 0xC1 ∷ 0xC3 ∷ 0xC3 ∷ 0xE3 ∷ 0x40 ∷ 0x40 ∷ 0x40 ∷ 0x40 ∷ []

abbrev key : List ℕ
key = 0xF0 ∷ 0xF0 ∷ 0xF0 ∷ 0xF3 ∷ []

abbrev content : List ℕ
content = 0xF0 ∷ 0xF0 ∷ 0xF0 ∷ 0xF4 ∷ 0x40 ∷ 0xF5 ∷ []

key_length_row : reason_text acct (Read name key (Some 3) None false false false) KeyLengthDiffers ≡ codes "KEYLENGTH is 3, RIDFLD has 4 bytes"
unfolding digits character_of
key_length_row = refl

key_size_row : reason_text acct (Read name (0xF1 ∷ []) None None false false false) KeySize ≡ codes "RIDFLD has 1 byte, the file has keys of 4"
unfolding digits character_of
key_size_row = refl

other_key_row : reason_text acct (Write name key None content None) KeyIsNotRidfld ≡ codes "the key in FROM is '0004', RIDFLD is '0003'"
unfolding digits character_of
other_key_row = refl

length_row : reason_text acct (Write name key None content (Some 80)) LengthNotInFrom ≡ codes "LENGTH is 80, FROM has 6 bytes"
unfolding digits character_of
length_row = refl

short_row : reason_text acct (Write name key None content (Some 3)) RecordTooShort ≡ codes "the record has 3 bytes, KEYOFFSET(0) and KEYLENGTH(4) need more"
unfolding digits character_of
short_row = refl

item_row : reason_text acct (WriteqTs name [] None None) ItemSize ≡ codes "what is written has 0 bytes, not 1 to 32767"
unfolding digits character_of
item_row = refl

value_row : reason_text acct (Enq content 300 false) ValueSize ≡ codes "LENGTH is 300, not from 1 to 255"
unfolding digits character_of
value_row = refl

browse_row : reason_text acct (ReadNext name None) NoBrowse ≡ codes "no browse of ACCT is open: STARTBR opens one"
unfolding digits character_of
browse_row = refl

absent_row : cause_text (Read name key None None false true false) Notfnd ≡ codes "no record of ACCT has this key or a higher one: '0003'"
unfolding digits character_of
absent_row = refl

present_row : cause_text (Write name key None content None) Duprec ≡ codes "a record of ACCT has the key '0003' already"
unfolding digits character_of
present_row = refl

cut_row : cause_text (Read name key None (Some 3) false false false) Lengerr ≡ codes "what was read is longer than LENGTH(3)"
unfolding digits character_of
cut_row = refl

no_item_row : cause_text (ReadqTs name None (Some 7)) Itemerr ≡ codes "queue ACCT has no item 7"
unfolding digits character_of
no_item_row = refl
