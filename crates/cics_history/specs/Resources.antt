-- What a unit of work can own, of six kinds. A record of a file, or all records under a prefix of
-- keys. The name of a temporary storage queue. The reading or the writing end of a transient data
-- queue. A value of a program.
use Rattle.std.specs.Prelude.{ℕ, Bool, true, false, ◌&&◌}
use Rattle.arrayvec.specs.ArrayVec.{ArrayVec}
use Rattle.cics_names.specs.Keyed.{Bytes, is_same}
use Rattle.cics_history.specs.declared.resources.Resource.{Resource}
use Rattle.cics_history.specs.declared.resources.Resource.TheVariants.{FileKey, TsQueue, TdRead, TdWrite, User, FilePrefix}

-- bytes as a resource has them
abbrev pub bytes_of : Bytes → ArrayVec ℕ
bytes_of b = record { items = b }

-- whether two are the same resource: of one kind, with the same names and bytes
abbrev pub is_one : Resource → Resource → Bool
is_one (FileKey f k) (FileKey g l) = is_same f g && is_same k.items l.items
is_one (TsQueue q) (TsQueue r) = is_same q r
is_one (TdRead q) (TdRead r) = is_same q r
is_one (TdWrite q) (TdWrite r) = is_same q r
is_one (User v) (User w) = is_same v.items w.items
is_one (FilePrefix f p) (FilePrefix g q) = is_same f g && is_same p.items q.items
is_one _ _ = false

-- whether it is a prefix of keys
abbrev pub is_prefix : Resource → Bool
is_prefix (FilePrefix f p) = true
is_prefix _ = false

-- only a user's value can be acquired more than once
abbrev pub is_user : Resource → Bool
is_user (User v) = true
is_user _ = false

-- the greatest count of a value
abbrev pub most_count : ℕ
most_count = 65535
