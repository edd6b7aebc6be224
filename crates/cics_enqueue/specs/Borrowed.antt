-- Resources whose bytes are borrowed.
use Rattle.std.specs.Prelude.{◌≤◌, length}
use Rattle.cics_enqueue.specs.declared.borrowed.ResourceKind.{ResourceKind}
use Rattle.cics_enqueue.specs.declared.borrowed.ResourceKind.TheVariants.{FileKey as KeyAt, FilePrefix as PrefixAt, TsQueue as TsQueueOf, TdRead as ReadingEndOf, TdWrite as WritingEndOf, User as UserAt}
use Rattle.cics_history.specs.Resources.{bytes_of}
use Rattle.cics_history.specs.declared.resources.Resource.{Resource}
use Rattle.cics_history.specs.declared.resources.Resource.TheVariants.{FileKey, TsQueue, TdRead, TdWrite, User, FilePrefix}

-- the resource that borrowed bytes name
abbrev pub named : ResourceKind → Resource
named (KeyAt file key) = FileKey file (bytes_of key.now)
named (TsQueueOf queue) = TsQueue queue
named (ReadingEndOf queue) = TdRead queue
named (WritingEndOf queue) = TdWrite queue
named (UserAt value) = User (bytes_of value.now)
named (PrefixAt file prefix) = FilePrefix file (bytes_of prefix.now)

-- a key, a value and a prefix have at most 255 bytes
abbrev pub IsShort : ResourceKind → Type 0
IsShort (KeyAt file key) = length key.now ≤ 255
IsShort (UserAt value) = length value.now ≤ 255
IsShort (PrefixAt file prefix) = length prefix.now ≤ 255
IsShort _ = Unit {0}
