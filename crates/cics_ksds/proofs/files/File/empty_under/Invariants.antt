use Rattle.std.proofs.Common.{◌≡◌, ◌++◌, true, length, map, take, drop}
use Rattle.cics_ksds.specs.Prefixes.{under, all_deleted, without_prefix, removed_entry, added_entry}
use Rattle.cics_ksds.specs.PrefixLaws.{AreThere}
use Rattle.cics_ksds.proofs.files.File.empty_under.Given as goal

-- so many have taken their records up, and once the others are deleted, all are
abbrev pub invariant-loop-at : goal.invariant-loop-at
invariant-loop-at l = record {
  images : l.images.items ≡ map (removed_entry l.fn.self.definition) (take l.at (under l.prefix l.fn.self.records)) ++ map (added_entry l.fn.self.definition) (drop l.at (under l.prefix l.fn.self.records));
  there : AreThere l.self (drop l.at (under l.prefix l.fn.self.records));
  same_file : l.self.definition ≡ l.fn.self.definition;
  whole : all_deleted true l.self (map (λ e. e.0) (drop l.at (under l.prefix l.fn.self.records))) ≡ without_prefix true l.fn.self l.prefix;
  long : l.at-end ≡ length (under l.prefix l.fn.self.records);
}
