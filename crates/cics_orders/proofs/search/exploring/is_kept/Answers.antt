use Rattle.std.proofs.Common.{◌≡◌, ◌+◌, not, ap, arith}
use Rattle.cics_orders.proofs.OfSearch.Thinned.{last_apart}
use Rattle.cics_orders.proofs.search.exploring.is_kept.Goals as goal

-- the last one is kept
pub returns : goal.returns
returns c = record {
  last = λ is any.
      let most = c.from-most.result in
      let count = c.max-count.result in
      let all : c.args.at + 1 ≡ count = omega (arith, is, c.max-count.ensures) in
      ap not (last_apart c.args.at count most all (omega (arith, any, c.from-most.ensures)));
}
