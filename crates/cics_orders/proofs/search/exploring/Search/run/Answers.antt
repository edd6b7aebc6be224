use Rattle.std.proofs.Common.{◌≡◌, ◌∙◌, suc, ◌+◌, ◌≤◌, sym, refl, subst, arith, Bool, ℕ}
use Rattle.cics_orders.specs.Search.Levels.{live, IsLevel, IsNext, state_count}
use Rattle.cics_orders.proofs.OfSearch.Leveling.{level_on, level_met}
use Rattle.cics_orders.proofs.OfSearch.Advancing.{known_none}
use Rattle.cics_orders.specs.Search.Ahead.{IsKnown}
use Rattle.cics_orders.specs.Giving.{lanes, initial_of}
use Rattle.cics_orders.specs.Stamps.{state_stamp}
use Rattle.cics_orders.specs.Turns.{breaks}
use Rattle.cics_orders.specs.Endings.Telling.{parts_at}
use Rattle.cics_orders.specs.declared.space.states.Scope.{Scope}
use Rattle.cics_orders.proofs.StampLaws.{stamps_tell}
use Rattle.cics_orders.proofs.search.exploring.Search.run.Goals as goal

-- the first level
pub loop-init : goal.loop-init
loop-init g c =
    let told : Bool = c.args.self.now.scope.told in
    let t = c.args.walk.now in
    let s = initial_of t in
    let b = c.args.self.now.scope.is_serial in
    record {
      initial = c.in_ok-level.ensures.initial;
      known = known_none lanes breaks (state_stamp told) (parts_at told) b s (stamps_tell told t) c.new-known.result.entries c.new-known.ensures.empty;
      scope = refl;
      limit = refl;
      share = refl;
      met = λ whole. omega (arith, c.requires.met);
      within = λ fits. c.requires.whole;
      level = subst (λ (v : Bool). IsLevel lanes breaks (state_stamp told) b s 0 v c.in_ok-level.level.entries) (sym c.requires.whole) c.in_ok-level.ensures.level;
    }

-- another level is followed
pub loop-preserved : goal.loop-preserved
loop-preserved g c =
    let told : Bool = c.args.self.now.scope.told in
    let s = initial_of c.args.walk.now in
    let b = c.args.self.now.scope.is_serial in
    let inv = c.loop.invariant in
    let step = c.in_ok-level-2.ensures in
    let next : IsNext lanes breaks (state_stamp told) b s c.loop.self.is_whole c.next.new.self.is_whole c.loop.level.entries c.in_ok-level-2.level.entries
    = subst (λ t. IsNext lanes breaks (state_stamp told) b t c.loop.self.is_whole c.next.new.self.is_whole c.loop.level.entries c.in_ok-level-2.level.entries) inv.initial
    (subst (λ (v : Scope). IsNext lanes breaks (state_stamp v.told) v.is_serial (initial_of c.loop.walk) c.loop.self.is_whole c.next.new.self.is_whole c.loop.level.entries c.in_ok-level-2.level.entries) inv.scope step.next) in
    let more = level_met lanes breaks (state_stamp told) b s c.loop.counter c.args.self.now.limit c.loop.self.met c.next.new.self.met c.loop.self.is_whole c.next.new.self.is_whole
    c.loop.level.entries c.in_ok-level-2.level.entries inv.level next inv.met inv.within step.met
    (λ fits. step.within (subst (λ (n : ℕ). c.loop.self.met + live c.loop.level.entries ≤ n) (sym inv.limit) fits)) in
    let one : suc c.loop.counter ≡ c.loop.counter + 1 = omega arith in
    record {
      initial = step.initial ∙ inv.initial;
      known = subst (λ t. IsKnown lanes breaks (state_stamp told) b t c.next.new.known.entries) inv.initial
          (subst (λ (v : Scope). IsKnown lanes breaks (state_stamp v.told) v.is_serial (initial_of c.loop.walk) c.next.new.known.entries) inv.scope step.known);
      scope = step.scope ∙ inv.scope;
      limit = step.limit ∙ inv.limit;
      share = step.share ∙ inv.share;
      met = λ whole. subst (λ (n : ℕ). c.next.new.self.met ≤ state_count lanes breaks (state_stamp told) b s n) one (more.0 whole);
      within = λ fits. more.1 (subst (λ (n : ℕ). state_count lanes breaks (state_stamp told) b s n ≤ c.args.self.now.limit) (sym one) fits);
      level = subst (λ (n : ℕ). IsLevel lanes breaks (state_stamp told) b s n c.next.new.self.is_whole c.in_ok-level-2.level.entries) one
          (level_on lanes breaks (state_stamp told) (parts_at told) b s (stamps_tell told c.args.walk.now) c.loop.counter c.loop.self.is_whole c.next.new.self.is_whole
          c.loop.level.entries c.in_ok-level-2.level.entries inv.level next);
    }
