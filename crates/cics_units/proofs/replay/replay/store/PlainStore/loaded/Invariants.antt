use Rattle.std.proofs.Common.{◌≡◌, map, []}
use Rattle.std.specs.Map.Iter.{deref_pair}
use Rattle.cics_transdata.specs.Trans.{queue_of}
use Rattle.cics_units.specs.Opening.RegionFiles.{refilled}
use Rattle.cics_units.proofs.replay.replay.store.PlainStore.loaded.Given as goal

-- the files that were passed stand with their records
abbrev pub invariant-loop-name : goal.invariant-loop-name
invariant-loop-name l = l.store ≡ record { files = refilled (map (λ e. (e.0, e.1.records)) (map deref_pair l.yielded)); ts = []; td = [] }

-- all files do, and so do the queues that were passed
abbrev pub invariant-loop-name-2 : goal.invariant-loop-name-2
invariant-loop-name-2 l = l.store ≡ record {
  files = map (λ e. (e.0, e.1.records)) l.opening.files;
  ts = [];
  td = refilled (map (λ e. (e.0, queue_of e.1)) (map deref_pair l.yielded));
}
