use Rattle.std.proofs.Common.{◌∙◌, ◌∷◌, ◌++◌, [], sym, ap, is_some}
use Rattle.std.specs.Map.{lookup}
use Rattle.cics_names.specs.Keyed.{is_same}
use Rattle.cics_enqueue.specs.Kept.{first_cover, others_unit}
use Rattle.cics_enqueue.proofs.Seeking.{first_of-some, drop_there}
use Rattle.cics_enqueue.proofs.conflicts.Search.shorter_holder.Goals as goal

pub returns-then-is_some : goal.returns-then-is_some
returns-then-is_some c =
    let es = c.args.self.now.table.now.entries in
    let key = c.loop-byte.key.items in
    let is = c.other_unit-holder.ensures ∙ ap (others_unit c.args.self.now.asker) c.held_under.ensures ∙ ap (λ b. others_unit c.args.self.now.asker (lookup (is_same b) es)) c.as_slice.ensures.value in
    let cut = drop_there c.args.bytes.now c.loop-byte.byte-index c.loop-byte-test.true in
    is ∙ sym (first_of-some (others_unit c.args.self.now.asker (lookup (is_same key) es)) (first_cover c.args.self.now.asker es (key ++ cut.0 ∷ []) cut.1) (ap is_some (sym is) ∙ sym c.if-is_some.ensures))
    ∙ ap (first_cover c.args.self.now.asker es key) (sym cut.2) ∙ c.loop-byte.invariant.rest
