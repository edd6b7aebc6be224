use Rattle.std.proofs.Common.{◌≡◌, ◌∷◌, ◌+◌, drop, sym, ◌∙◌, ap, arith}
use Rattle.cics_names.specs.Keyed.{Bytes}
use Rattle.cics_ksds.specs.Files.{key_of}
use Rattle.cics_ksds.specs.Slots.{slots_in, value_of, index_of, key_at}
use Rattle.cics_ksds.specs.Prefixes.{under}
use Rattle.cics_ksds.proofs.UnderPrefix.{begins, left_more, above, above_from}
use Rattle.cics_ksds.proofs.prefixes.next_under.Goals as goal

pub first_under-requires-clause-from : goal.first_under-requires-clause-from
first_under-requires-clause-from c j behind in_range =
    let r = c.requires.at.record_there.0 in
    let read = c.requires.at.record_there.1 in
    above_from c.args.prefix.now (key_of c.args.definition r) (key_at c.args.definition (slots_in c.args.slots.now) j)
    (begins c.args.definition c.args.slots.now c.args.prefix.now c.args.at c.requires.slots c.requires.at r read)
    (above c.args.definition c.args.slots.now c.args.prefix.now c.args.at c.requires.slots c.requires.at r read j (omega (arith, behind)) in_range)

pub returns-clause-left : goal.returns-clause-left
returns-clause-left c r read =
    let e : Bytes × Bytes = (key_of c.args.definition r, r) in
    let behind : index_of c.args.slots.now c.args.at + 1 ≡ index_of c.args.slots.now (record { area = c.args.at.area; interval = c.args.at.interval; slot = c.args.at.slot + 1 }) = omega arith in
    left_more c.args.definition c.args.slots.now c.args.prefix.now c.args.at c.requires.slots c.requires.at r read
    ∙ ap (λ n. e ∷ under c.args.prefix.now (value_of c.args.definition (drop n (slots_in c.args.slots.now))).records) behind
    ∙ ap (λ l. e ∷ l) (sym c.first_under.ensures.left)
