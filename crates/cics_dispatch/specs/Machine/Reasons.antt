-- The condition that answers a command, by the check that it failed.
use Rattle.cics_names.specs.declared.conditions.Condition.{Condition}
use Rattle.cics_names.specs.declared.conditions.Condition.TheVariants.{Dsiderr, Invreq, Lengerr, Qiderr}
use Rattle.cics_dispatch.specs.declared.machine.reasons.Reason.{Reason}
use Rattle.cics_dispatch.specs.declared.machine.reasons.Reason.TheVariants.{FileNotDefined, QueueNotDefined, UpdateNotByKey, KeyLengthDiffers, KeySize, PrefixTooLong, PrefixEmpty, NoRidfld, LengthNotInFrom, RecordTooShort, RecordTooLong, ItemSize, ValueSize, ValueTooShort, UpdateReadOpen, NoUpdateRead, KeyIsNotRidfld, KeyIsNotRead, BrowseOpen, NoBrowse, BrowseIsGeneric}

-- the condition that a command is answered if a check fails
abbrev pub condition_of : Reason → Condition
condition_of FileNotDefined = Dsiderr
condition_of QueueNotDefined = Qiderr
condition_of UpdateNotByKey = Invreq
condition_of KeyLengthDiffers = Invreq
condition_of KeySize = Invreq
condition_of PrefixTooLong = Invreq
condition_of PrefixEmpty = Invreq
condition_of NoRidfld = Invreq
condition_of LengthNotInFrom = Lengerr
condition_of RecordTooShort = Lengerr
condition_of RecordTooLong = Lengerr
condition_of ItemSize = Lengerr
condition_of ValueSize = Lengerr
condition_of ValueTooShort = Lengerr
condition_of UpdateReadOpen = Invreq
condition_of NoUpdateRead = Invreq
condition_of KeyIsNotRidfld = Invreq
condition_of KeyIsNotRead = Invreq
condition_of BrowseOpen = Invreq
condition_of NoBrowse = Invreq
condition_of BrowseIsGeneric = Invreq
