use Rattle.std.proofs.Common.{◌≡◌, ◌<◌, ◌≤◌, ◌-◌, All, length, suc, sym, ap, ◌∙◌, subst, arith}
use Rattle.cics_dispatch.specs.Notes.Firsts.{level_at, lesser_of_pairs, IsFirstBelow}
use Rattle.cics_dispatch.proofs.OfNotes.LesserKeys.{none_below, last_place, pairs_of_level}
use Rattle.cics_dispatch.proofs.notes.firsts.first_below.Goals as goal

pub returns-in_err-at : goal.returns-in_err-at
returns-in_err-at c =
    let none = none_below c.args.limit c.args.keys.now c.args.above.now c.requires (subst (All (λ k. c.args.limit ≤ k)) c.last_level-last.ensures c.in_err-at.ensures) in
    rw c.from_residual.ensures none

pub loop-left-init : goal.loop-left-init
loop-left-init c = record {
  within = omega arith;
  first = subst (λ l. IsFirstBelow l c.args.limit c.in_ok-at.at) (c.last_level-last.ensures ∙ last_place c.args.keys.now c.args.above.now) c.in_ok-at.ensures;
}

pub first_of_pair-at-requires : goal.first_of_pair-at-requires
first_of_pair-at-requires c =
    let keys = c.args.keys.now in
    let levels = c.args.above.now in
    let left = c.loop-left.left in
    let more : left ≡ suc (left - 1) = omega arith in
    let within : left - 1 < length levels = omega arith in
    let is : level_at keys levels left ≡ lesser_of_pairs c.level_at.result.now =
    ap (level_at keys levels) more ∙ pairs_of_level keys levels (left - 1) c.requires within ∙ ap lesser_of_pairs (sym c.level_at.ensures) in
    subst (λ l. IsFirstBelow l c.args.limit c.loop-left.at) is c.loop-left.invariant.first

pub returns : goal.returns
returns c =
    let keys = c.args.keys.now in
    let levels = c.args.above.now in
    let zero : c.loop-left.left ≡ 0 = omega arith in
    subst (λ n. IsFirstBelow (level_at keys levels n) c.args.limit c.loop-left.at) zero c.loop-left.invariant.first
