use Rattle.std.proofs.Common.{Bool, ◌∙◌, ◌++◌, ◌∷◌, [], ap, refl, sym, length, cond, Some}
use Rattle.std.specs.Map.{lookup}
use Rattle.std.specs.Option.{unwrap_or}
use Rattle.std.specs.Str.{bytes_eq}
use Rattle.std.proofs.lemmas.Option.{slice_get_within, get_or_from_slice_get}
use Rattle.cics_orders.specs.Space.States.{reached}
use Rattle.cics_orders.proofs.OfSearch.Advancing.{known_more, met_more}
use Rattle.cics_orders.specs.Giving.{lanes, initial_of}
use Rattle.cics_orders.specs.Stamps.{state_stamp}
use Rattle.cics_orders.specs.Turns.{breaks}
use Rattle.cics_orders.specs.Endings.Telling.{parts_at}
use Rattle.cics_orders.proofs.StampLaws.{stamps_tell, given_initial}
use Rattle.cics_orders.proofs.search.ahead.go_on.Goals as goal

-- a lane more is known
pub loop-preserved : goal.loop-preserved
loop-preserved c =
    let told : Bool = c.args.scope.told in
    let t = c.args.walk.now in
    let s = initial_of t in
    let b = c.args.scope.is_serial in
    let inv = c.loop.invariant in
    let here = c.loop.here in
    let rs = unwrap_or (lookup (bytes_eq here.stamp) c.loop.known.entries) [] in
    let lane = c.in-Some.lane in
    let short = slice_get_within here.lanes (length rs) lane c.in-Some.ensures in
    let next = sym (get_or_from_slice_get here.lanes (length rs) lane 0 c.in-Some.ensures) in
    let given = c.in_ok-give.ensures in
    record {
      initial = ap initial_of given ∙ given_initial c.loop.walk lane ∙ inv.initial;
      met = met_more lanes breaks (state_stamp told) (parts_at told) b s (stamps_tell told t) c.loop.walk c.give.new.self (length rs) here.lanes inv.met (ap (λ r. r.lanes) inv.here) short
          (given ∙ ap (lanes.given c.loop.walk) next);
      here = c.in_ok-there.ensures;
      known = known_more lanes breaks (state_stamp told) (parts_at told) b s (stamps_tell told t) inv.met.0 here c.in_ok-there.there rs lane c.loop.known.entries c.note.new.known.entries
          inv.met.1 (inv.here ∙ ap (reached lanes breaks (state_stamp told) b) inv.met.2) short next
          (c.in_ok-there.ensures ∙ ap (reached lanes breaks (state_stamp told) b) (given ∙ ap (λ z. lanes.given z lane) inv.met.2)) inv.known refl
          (λ q. c.in_ok-note.ensures q ∙ (λ i. cond (bytes_eq (c.into_stamp.ensures i) q) (Some (unwrap_or (lookup (bytes_eq (c.into_stamp.ensures i)) c.loop.known.entries) [] ++ c.in_ok-there.there ∷ []))
          (lookup (bytes_eq q) c.loop.known.entries)));
    }
