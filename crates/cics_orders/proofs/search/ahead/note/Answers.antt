use Rattle.std.specs.Str.{bytes_eq}
use Rattle.std.specs.Map.{lookup}
use Rattle.cics_orders.proofs.OfSearch.Advancing.{put_more}
use Rattle.cics_orders.proofs.search.ahead.note.Goals as goal

-- the states are put back with one more
pub returns : goal.returns
returns c = λ q.
    let old = c.args.known.now.entries in
    let k = c.args.stamp in
    put_more (bytes_eq k q) c.in_ok-copy.field-0 c.args.there.now c.take-states.result c.push.new.self (lookup (bytes_eq q) old) (lookup (bytes_eq q) c.take-states.new.known.entries)
    (lookup (bytes_eq q) c.insert.new.self.entries) (lookup (bytes_eq k) old) c.in_ok-copy.ensures c.take-states.ensures.found c.in_ok-push.ensures.ok
    (c.take-states.ensures.taken.0 q) (c.in_ok-insert.ensures.updates.0 q)
