use Rattle.std.proofs.Common.{◌≡◌, ◌∙◌, ◌≤◌, ◌++◌, ◌∷◌, not, false, [], List, length, inl, inr, ap, zero-add, Bool, refl, sym, arith, subst}
use Rattle.std.specs.Str.{bytes_eq}
use Rattle.std.proofs.lemmas.List.{length_push}
use Rattle.std.proofs.lemmas.Bool.{true≢false}
use Rattle.cics_names.specs.Keyed.{Bytes}
use Rattle.cics_orders.specs.declared.space.states.Led.{Led}
use Rattle.cics_orders.specs.Space.Groups.{added_all}
use Rattle.cics_orders.specs.Space.States.{led_joined}
use Rattle.cics_orders.specs.Search.Levels.{live, spread, IsEntry}
use Rattle.cics_orders.specs.Search.Ahead.{IsKnown}
use Rattle.cics_orders.proofs.OfSearch.Following.{IsPart, part_none, part_more, part_less, one_counted, one_left, spread_more}
use Rattle.cics_orders.proofs.OfSearch.Leveling.{level_entries}
use Rattle.cics_orders.proofs.OfSearch.Regrouping.{Each}
use Rattle.cics_orders.specs.Giving.{lanes, initial_of}
use Rattle.cics_orders.specs.Stamps.{state_stamp}
use Rattle.cics_orders.specs.Turns.{breaks}
use Rattle.cics_orders.specs.Endings.Telling.{parts_at}
use Rattle.cics_orders.specs.declared.space.states.Scope.{Scope}
use Rattle.cics_orders.proofs.StampLaws.{stamps_tell}
use Rattle.cics_orders.proofs.search.exploring.Search.next.Goals as goal
use Rattle.cics_orders.proofs.search.exploring.Search.next.Goals.{then-not-may_go_on, else-not-may_go_on}

-- the level's entries are left
pub loop-stamp-init : goal.loop-stamp-init
loop-stamp-init g c =
    let told : Bool = c.args.self.now.scope.told in
    let t = c.args.walk.now in
    let s = initial_of t in
    let b = c.args.self.now.scope.is_serial in
    let gives = c.into_iter-stamp-iterator.ensures.into_iter_gives.0 in
    record {
      initial = refl;
      known = c.requires.known;
      left = subst (Each (IsEntry lanes breaks (state_stamp told) b s)) (sym gives)
          (level_entries lanes breaks (state_stamp told) (parts_at told) b s (stamps_tell told t) c.requires.level.0 c.args.self.now.is_whole c.args.level.entries c.requires.level.1);
      scope = c.thin-thinning.ensures.scope;
      limit = c.thin-thinning.ensures.limit;
      share = c.thin-thinning.ensures.stays;
      sum = zero-add (live c.into_iter-stamp-iterator.result) ∙ ap live gives ∙ sym (c.thin-thinning.ensures.count ∙ c.live_count.ensures);
      kept = λ any. inr (subst (λ (es : List (Bytes × Led)). 1 ≤ length es) (sym gives) any);
      met = omega (arith, c.thin-thinning.ensures.met, c.live_count.ensures);
      within = λ _. c.thin-thinning.ensures.whole;
      some = [];
      part = subst (λ (v : Bool). IsPart c.args.self.now.is_whole v c.args.level.entries c.into_iter-stamp-iterator.result []) (sym c.thin-thinning.ensures.whole)
          (part_none c.args.self.now.is_whole c.args.level.entries c.into_iter-stamp-iterator.result gives);
      next = c.new-next.ensures.empty;
    }

-- an entry more is followed
pub loop-stamp-preserved-then-is_kept : goal.loop-stamp-preserved-then-is_kept
loop-stamp-preserved-then-is_kept g c =
    let told : Bool = c.args.self.now.scope.told in
    let s = initial_of c.args.walk.now in
    let b = c.args.self.now.scope.is_serial in
    let e : Bytes × Led = (c.in-Some.stamp, c.in-Some.led) in
    let inv = c.loop-stamp.invariant in
    let step = c.in_ok-follow.ensures in
    record {
      initial = step.initial ∙ inv.initial;
      known = subst (λ t. IsKnown lanes breaks (state_stamp told) b t c.follow.new.known.entries) inv.initial
          (subst (λ (v : Scope). IsKnown lanes breaks (state_stamp v.told) v.is_serial (initial_of c.loop-stamp.walk) c.follow.new.known.entries) inv.scope step.known);
      left = (subst (Each (IsEntry lanes breaks (state_stamp told) b s)) c.in-Some.ensures.steps inv.left).1;
      scope = inv.scope;
      limit = inv.limit;
      share = inv.share;
      sum = one_counted c.loop-stamp.at c.from.result c.saturating_add-at.result c.thin-thinning.result.count c.loop-stamp.stamp-iterator c.next.new.self e c.in-Some.ensures.steps inv.sum
          (omega (arith, c.thin-thinning.ensures.count, c.live_count.type_inv)) c.from.ensures c.saturating_add-at.ensures;
      kept = λ any. inl (omega (arith, length_push inv.some e));
      met = inv.met;
      within = inv.within;
      some = inv.some ++ e ∷ [];
      part = part_more c.args.self.now.is_whole c.loop-stamp.self.is_whole c.args.level.entries c.loop-stamp.stamp-iterator c.next.new.self inv.some e c.in-Some.ensures.steps inv.part;
      next = spread_more lanes breaks (state_stamp told) b s inv.some c.follow.new.next.entries c.loop-stamp.next.entries e inv.next
          (step.next ∙ (λ i. added_all bytes_eq led_joined c.loop-stamp.next.entries (spread lanes breaks (state_stamp (inv.scope i).told) (inv.scope i).is_serial (inv.initial i) e)));
    }

-- an entry more is left out: it isn't the last in which a lane may give
pub loop-stamp-preserved : goal.loop-stamp-preserved
loop-stamp-preserved g c =
    let told : Bool = c.args.self.now.scope.told in
    let s = initial_of c.args.walk.now in
    let b = c.args.self.now.scope.is_serial in
    let e : Bytes × Led = (c.in-Some.stamp, c.in-Some.led) in
    let inv = c.loop-stamp.invariant in
    let count = c.thin-thinning.result.count in
    elim c.if-not-may_go_on.branch [
      | then-not-may_go_on w ↦ absurd (true≢false (ap not (sym w.if-not-may_go_on.true) ∙ sym w.is_kept-is ∙ c.if-is_kept.false))
      | else-not-may_go_on l ↦
          let cut : l.keeps-is_kept.result ≡ false = sym l.is_kept-is ∙ c.if-is_kept.false in
          let share : 1 ≤ c.thin-thinning.result.share = omega (arith, c.thin-thinning.ensures.share, c.requires.share) in
          let more = one_left c.loop-stamp.at count c.loop-stamp.stamp-iterator c.next.new.self e c.in-Some.ensures.steps inv.sum l.if-not-may_go_on.false
          (λ last. true≢false (sym (l.keeps-is_kept.ensures.last last share) ∙ cut)) in
          record {
            some = inv.some;
            initial = inv.initial;
            known = inv.known;
            left = (subst (Each (IsEntry lanes breaks (state_stamp told) b s)) c.in-Some.ensures.steps inv.left).1;
            scope = inv.scope;
            limit = inv.limit;
            met = inv.met;
            share = inv.share;
            sum = one_counted c.loop-stamp.at c.from.result c.saturating_add-at.result count c.loop-stamp.stamp-iterator c.next.new.self e c.in-Some.ensures.steps inv.sum
                (omega (arith, c.thin-thinning.ensures.count, c.live_count.type_inv)) c.from.ensures c.saturating_add-at.ensures;
            kept = λ any. inr more;
            within = λ all. absurd (true≢false (sym (l.keeps-is_kept.ensures.all all) ∙ cut));
            part = part_less c.args.self.now.is_whole c.loop-stamp.self.is_whole false c.args.level.entries c.loop-stamp.stamp-iterator c.next.new.self inv.some e c.in-Some.ensures.steps refl inv.part;
            next = inv.next;
          }
    ]
