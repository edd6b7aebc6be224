use Rattle.std.proofs.Common.{◌≡◌, ◌+◌, ◌∷◌, ◌++◌, [], length, drop}
use Rattle.cics_enqueue.specs.Kept.{first_cover}
use Rattle.cics_enqueue.proofs.conflicts.Search.shorter_holder.Given as goal

-- the key is as long as the bytes that were looked at; what is looked for is at the key or further
-- on
abbrev pub invariant-loop-byte : goal.invariant-loop-byte
invariant-loop-byte l = record {
  long : length l.key.items ≡ l.byte-index + 10;
  rest : first_cover l.self.asker l.self.table.now.entries l.key.items (drop l.byte-index l.bytes) ≡ first_cover l.self.asker l.self.table.now.entries (0 ∷ length l.fn.file ∷ (l.fn.file ++ [])) l.bytes;
}
