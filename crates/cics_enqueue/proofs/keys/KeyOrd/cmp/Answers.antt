use Rattle.std.proofs.Common.{◌∙◌, sym}
use Rattle.cics_names.specs.Keyed.{bytes_cmp}
use Rattle.cics_enqueue.proofs.Heads.{heads_differ, heads_level}
use Rattle.cics_enqueue.proofs.keys.KeyOrd.cmp.Goals as goal

pub returns-in-Equal : goal.returns-in-Equal
returns-in-Equal c = rw (← c.self.view_is, ← c.other.view_is) (
    c.cmp.ensures
    ∙ (λ i. bytes_cmp (c.as_slice.ensures.value i) (c.as_slice-in-Equal.ensures.value i))
    ∙ heads_level c.self.inside.head c.other.inside.head c.self.inside.long.items c.other.inside.long.items c.self.invariant c.other.invariant (sym c.in-Equal.ensures))

pub returns-in_default : goal.returns-in_default
returns-in_default c = rw (← c.self.view_is, ← c.other.view_is) (
    c.head_order.ensures
    ∙ heads_differ c.self.inside.head c.other.inside.head c.self.inside.long.items c.other.inside.long.items c.self.invariant c.other.invariant (λ tied. c.in_default.not-Equal (c.head_order.ensures ∙ tied)))
