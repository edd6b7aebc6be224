use Rattle.std.proofs.Common.{◌≡◌, ◌∙◌, ◌≤◌, ap, subst, map, option_map, true, false, [], Bool, List, ℕ}
use Rattle.cics_orders.specs.Space.Endings.{are_same}
use Rattle.cics_orders.specs.Space.Groups.{added_all}
use Rattle.cics_orders.specs.Search.Levels.{tallied, IsLevel, state_count}
use Rattle.cics_orders.specs.Space.Tallies.{tally_joined, ending_of}
use Rattle.cics_orders.specs.declared.space.states.Led.{Led}
use Rattle.cics_orders.specs.declared.space.states.Scope.{Scope}
use Rattle.cics_orders.proofs.OfSearch.Reporting.{searched}
use Rattle.cics_orders.specs.Giving.{State, lanes, initial_of, line_count}
use Rattle.cics_orders.specs.Stamps.{state_stamp}
use Rattle.cics_orders.specs.Turns.{breaks}
use Rattle.cics_orders.specs.AsWritten.{as_written}
use Rattle.cics_orders.specs.Endings.Telling.{parts_at}
use Rattle.cics_orders.proofs.StampLaws.{stamps_tell, initial_initial}
use Rattle.cics_orders.proofs.search.exploring.explore.Goals as goal

-- both searches are told
pub returns-clause-report : goal.returns-clause-report
returns-clause-report g c =
    let told : Bool = c.args.wanted.0 in
    let stamp = state_stamp told in
    let t = c.args.walk.now in
    let s = initial_of t in
    let met = c.count_orders.new.met.entries in
    let begun : initial_of c.restart.new.self ≡ s = ap initial_of c.in_ok-restart.ensures ∙ initial_initial t in
    let initial : initial_of c.count_orders.new.walk ≡ s = c.in_ok-is_whole.ensures.initial ∙ begun in
    let lines = c.line_count-lines.result in
    let most : lines ≡ line_count s.plan = c.line_count-lines.ensures ∙ ap (λ (s : State). line_count s.plan) c.in_ok-restart.ensures in
    let all : (es : List (List ℕ × Led)) × IsLevel lanes breaks stamp false s lines c.in_ok-is_whole.is_whole es × (met ≡ added_all are_same tally_joined c.new-met.result.entries (map (tallied lanes (parts_at told) false s) es))
    = subst (λ u. (es : List (List ℕ × Led)) × IsLevel lanes breaks stamp false u lines c.in_ok-is_whole.is_whole es × (met ≡ added_all are_same tally_joined c.new-met.result.entries (map (tallied lanes (parts_at told) false u) es))) begun
    (subst (λ (v : Scope). (es : List (List ℕ × Led)) × IsLevel lanes breaks (state_stamp v.told) v.is_serial (initial_of c.restart.new.self) lines c.in_ok-is_whole.is_whole es × (met ≡ added_all are_same tally_joined c.new-met.result.entries (map (tallied lanes (parts_at v.told) v.is_serial (initial_of c.restart.new.self)) es)))
    c.new-all.ensures.scope c.in_ok-is_whole.ensures.told) in
    let serial : (es : List (List ℕ × Led)) × IsLevel lanes breaks stamp true s lines c.in_ok-has_all_serial.has_all_serial es × (c.count_orders-2.new.met.entries ≡ added_all are_same tally_joined met (map (tallied lanes (parts_at told) true s) es))
    = subst (λ u. (es : List (List ℕ × Led)) × IsLevel lanes breaks stamp true u lines c.in_ok-has_all_serial.has_all_serial es × (c.count_orders-2.new.met.entries ≡ added_all are_same tally_joined met (map (tallied lanes (parts_at told) true u) es))) initial
    (subst (λ (v : Scope). (es : List (List ℕ × Led)) × IsLevel lanes breaks (state_stamp v.told) v.is_serial (initial_of c.count_orders.new.walk) lines c.in_ok-has_all_serial.has_all_serial es × (c.count_orders-2.new.met.entries ≡ added_all are_same tally_joined met (map (tallied lanes (parts_at v.told) v.is_serial (initial_of c.count_orders.new.walk)) es)))
    c.new-serial.ensures.scope c.in_ok-has_all_serial.ensures.told) in
    let first : met ≡ added_all are_same tally_joined [] (map (tallied lanes (parts_at told) false s) all.0)
    = all.2 ∙ ap (λ es. added_all are_same tally_joined es (map (tallied lanes (parts_at told) false s) all.0)) c.new-met.ensures.empty in
    let both : c.count_orders-2.new.met.entries ≡ added_all are_same tally_joined (added_all are_same tally_joined [] (map (tallied lanes (parts_at told) false s) all.0)) (map (tallied lanes (parts_at told) true s) serial.0)
    = serial.2 ∙ ap (λ es. added_all are_same tally_joined es (map (tallied lanes (parts_at told) true s) serial.0)) first in
    searched lanes breaks stamp (parts_at told) s (stamps_tell told t) (line_count s.plan) c.in_ok-is_whole.is_whole c.in_ok-has_all_serial.has_all_serial all.0 serial.0
    c.in_ok-endings_of.field-0 c.in_ok-parts_as_written.field-0
    (subst (λ (n : ℕ). IsLevel lanes breaks stamp false s n c.in_ok-is_whole.is_whole all.0) most all.1)
    (subst (λ (n : ℕ). IsLevel lanes breaks stamp true s n c.in_ok-has_all_serial.has_all_serial serial.0) most serial.1) (c.in_ok-endings_of.ensures ∙ ap (map ending_of) both)

-- no state is left out within the limit
pub returns-clause-within : goal.returns-clause-within
returns-clause-within g c =
    let s = initial_of c.args.walk.now in
    let lines = c.line_count-lines.result in
    let begun : initial_of c.restart.new.self ≡ s = ap initial_of c.in_ok-restart.ensures ∙ initial_initial c.args.walk.now in
    let most : lines ≡ line_count s.plan = c.line_count-lines.ensures ∙ ap (λ (s : State). line_count s.plan) c.in_ok-restart.ensures in
    let within : (state_count lanes breaks (state_stamp c.new-all.result.scope.told) c.new-all.result.scope.is_serial (initial_of c.restart.new.self) lines ≤ c.new-all.result.limit) ≡ (state_count lanes breaks (state_stamp c.args.wanted.0) false s (line_count s.plan) ≤ c.args.wanted.1)
    = λ i. state_count lanes breaks (state_stamp (c.new-all.ensures.scope i).told) (c.new-all.ensures.scope i).is_serial (begun i) (most i) ≤ c.new-all.ensures.limit i in
    subst (λ (A : Type 0). A → c.in_ok-is_whole.is_whole ≡ true) within c.in_ok-is_whole.ensures.within

pub returns-clause-serial_within : goal.returns-clause-serial_within
returns-clause-serial_within g c =
    let s = initial_of c.args.walk.now in
    let lines = c.line_count-lines.result in
    let initial : initial_of c.count_orders.new.walk ≡ s = c.in_ok-is_whole.ensures.initial ∙ ap initial_of c.in_ok-restart.ensures ∙ initial_initial c.args.walk.now in
    let most : lines ≡ line_count s.plan = c.line_count-lines.ensures ∙ ap (λ (s : State). line_count s.plan) c.in_ok-restart.ensures in
    let within : (state_count lanes breaks (state_stamp c.new-serial.result.scope.told) c.new-serial.result.scope.is_serial (initial_of c.count_orders.new.walk) lines ≤ c.new-serial.result.limit) ≡ (state_count lanes breaks (state_stamp c.args.wanted.0) true s (line_count s.plan) ≤ c.args.wanted.1)
    = λ i. state_count lanes breaks (state_stamp (c.new-serial.ensures.scope i).told) (c.new-serial.ensures.scope i).is_serial (initial i) (most i) ≤ c.new-serial.ensures.limit i in
    subst (λ (A : Type 0). A → c.in_ok-has_all_serial.has_all_serial ≡ true) within c.in_ok-has_all_serial.ensures.within

-- the order as written is that of the same initial state
pub returns-clause-written : goal.returns-clause-written
returns-clause-written g c =
    let told : Bool = c.args.wanted.0 in
    let begun : initial_of c.restart.new.self ≡ initial_of c.args.walk.now = ap initial_of c.in_ok-restart.ensures ∙ initial_initial c.args.walk.now in
    let initial : initial_of c.count_orders-2.new.walk ≡ initial_of c.args.walk.now
    = c.in_ok-has_all_serial.ensures.initial ∙ c.in_ok-is_whole.ensures.initial ∙ begun in
    c.in_ok-parts_as_written.ensures ∙ ap (λ s. option_map (parts_at told) (as_written s)) initial
