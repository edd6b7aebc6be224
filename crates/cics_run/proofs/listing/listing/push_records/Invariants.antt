use Rattle.std.proofs.Common.{◌≡◌, ◌++◌, take}
use Rattle.std.specs.List.{flat_map}
use Rattle.cics_run.specs.Listing.Listings.{record_line}
use Rattle.cics_run.proofs.listing.listing.push_records.Given as goal

abbrev pub invariant-loop-record : goal.invariant-loop-record
invariant-loop-record l = l.out.items ≡ l.fn.out.items ++ flat_map record_line (take l.record-index l.records)
