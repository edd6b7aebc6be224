use Rattle.std.proofs.Common.{◌≡◌, ◌<◌, ◌∙◌, arith, length, refl, rules, sym}
use Rattle.std.proofs.lemmas.List.{take_all}
use Rattle.cics_script.proofs.Copies.{with_front-nil}
use Rattle.cics_script.proofs.Taken.{pair-here, put-byte, digits-put}
use Rattle.cics_script.proofs.literals.put_bytes.Goals as goal

pub loop-i-init : goal.loop-i-init
loop-i-init c = record { size = refl; so_far = with_front-nil _ }

pub overflow_mul-high : goal.overflow_mul-high
overflow_mul-high c =
    let pair = pair-here _ _ _ _ _ _ _ c.requires c.loop-i-test.true c.digit_or_16-high.ensures c.digit_or_16-low.ensures c.loop-i.invariant.so_far in omega (arith, pair.first)

pub overflow_add-high : goal.overflow_add-high
overflow_add-high c =
    let pair = pair-here _ _ _ _ _ _ _ c.requires c.loop-i-test.true c.digit_or_16-high.ensures c.digit_or_16-low.ensures c.loop-i.invariant.so_far in omega (arith, pair.first, pair.second)

pub loop-i-preserved : goal.loop-i-preserved
loop-i-preserved c =
    let pair = pair-here _ _ _ _ _ _ _ c.requires c.loop-i-test.true c.digit_or_16-high.ensures c.digit_or_16-low.ensures c.loop-i.invariant.so_far in
    let room : c.loop-i.i < length c.loop-i.text = omega (arith, c.loop-i-test.true, c.loop-i.invariant.size) in
    record { size = search rules; so_far = put-byte _ _ _ _ _ _ _ room pair c.encoded_byte.ensures c.loop-i.invariant.so_far }

pub returns : goal.returns
returns c =
    let at : c.loop-i.i ≡ length c.args.text.now = omega (arith, c.loop-i-test.false, c.loop-i.auto.i-end) in
    sym (take_all c.loop-i.i c.loop-i.text (omega (arith, at, c.loop-i.invariant.size))) ∙ digits-put _ _ _ _ _ c.requires at c.loop-i.invariant.so_far
