use Rattle.std.proofs.Common.{Bool, ◌≡◌, ◌∙◌, ap, true, [], ◌∷◌, List}
use Rattle.std.specs.Str.{bytes_eq}
use Rattle.cics_names.specs.Keyed.{Bytes}
use Rattle.cics_orders.specs.Space.Groups.{added}
use Rattle.cics_orders.specs.Space.States.{led_joined, reached}
use Rattle.cics_orders.specs.Search.Levels.{entry}
use Rattle.cics_orders.specs.declared.space.states.Led.{Led}
use Rattle.cics_orders.proofs.OfSearch.Leveling.{initial_level}
use Rattle.cics_orders.specs.Giving.{lanes, initial_of}
use Rattle.cics_orders.specs.Stamps.{state_stamp}
use Rattle.cics_orders.specs.Turns.{breaks}
use Rattle.cics_orders.specs.Endings.Telling.{parts_at}
use Rattle.cics_orders.proofs.StampLaws.{stamps_tell, initial_initial}
use Rattle.cics_orders.proofs.search.exploring.Search.initial_level.Goals as goal

-- the initial state is the only one
pub returns-clause-level : goal.returns-clause-level
returns-clause-level c =
    let told : Bool = c.args.self.now.scope.told in
    let s = initial_of c.args.walk.now in
    let b = c.args.self.now.scope.is_serial in
    let here = c.in_ok-here.ensures ∙ ap (reached lanes breaks (state_stamp told) b) c.in_ok-restart.ensures in
    let made : c.into_entry-stamp.result ≡ entry lanes breaks (state_stamp told) b [] 1 s
    = c.into_entry-stamp.ensures ∙ (λ i. ((here i).stamp, record { first = c.new.ensures i; lanes = (here i).lanes; has_ended = (here i).has_ended; count = 1 })) in
    initial_level lanes breaks (state_stamp told) (parts_at told) b s (stamps_tell told c.args.walk.now) true c.add.new.met.entries
    (c.in_ok-add.ensures ∙ ap (λ (es : List (Bytes × Led)). added bytes_eq led_joined es c.into_entry-stamp.result.0 c.into_entry-stamp.result.1) c.new-level.ensures.empty
    ∙ ap (λ (e : Bytes × Led). e ∷ []) made)

pub returns-clause-initial : goal.returns-clause-initial
returns-clause-initial c = ap initial_of c.in_ok-restart.ensures ∙ initial_initial c.args.walk.now
