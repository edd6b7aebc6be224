use Rattle.std.proofs.Common.{◌≡◌, ◌∙◌, ap, refl, sym, arith, cond, not, ◌+◌, take}
use Rattle.std.specs.List.{count_by}
use Rattle.cics_names.specs.Keyed.{Bytes}
use Rattle.cics_orders.specs.declared.space.states.Led.{Led}
use Rattle.cics_orders.specs.Search.Levels.{live}
use Rattle.cics_orders.proofs.OfSearch.Following.{live_more, none_past}
use Rattle.cics_orders.proofs.search.exploring.live_count.Goals as goal
use Rattle.cics_orders.proofs.search.exploring.live_count.Goals.{in-Some+then-not-led, in-Some+else-not-led, in_default}

-- an entry more is counted
pub loop-at-preserved : goal.loop-at-preserved
loop-at-preserved c =
    let es = c.args.level.now.entries in
    let i = c.loop-at.at in
    elim c.match-get_index.branch [
      | in-Some+then-not-led w ↦
          let e : Bytes × Led = (w.in-Some.field-0-0.now, w.in-Some.led.now) in
          w.count-is ∙ ap (λ n. n + 1) c.loop-at.invariant
          ∙ sym (live_more es i e (sym c.get_index.ensures.entry ∙ rw w.in-Some.is refl) ∙ ap (λ b. live (take i es) + cond (not b) 1 0) w.if-not-led.true)
      | in-Some+else-not-led w ↦
          let e : Bytes × Led = (w.in-Some.field-0-0.now, w.in-Some.led.now) in
          let same : count_by (λ f. not f.1.has_ended) (take i es) + cond (not w.in-Some.led.now.has_ended) 1 0 ≡ live (take i es) = rw w.if-not-led.false (omega arith) in
          w.count-is ∙ c.loop-at.invariant ∙ sym (live_more es i e (sym c.get_index.ensures.entry ∙ rw w.in-Some.is refl) ∙ same)
      | in_default w ↦ absurd (none_past es i (omega (arith, c.loop-at-test.true, c.len-at-end.ensures.len)) (sym (sym c.get_index.ensures.entry ∙ rw w.in_default.is refl)))
    ]
