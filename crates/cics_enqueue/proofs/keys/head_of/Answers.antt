use Rattle.std.proofs.Common.{◌∙◌, ◌++◌, ◌∷◌, [], ap, length-append, sym, min}
use Rattle.cics_enqueue.specs.Keys.{padded}
use Rattle.cics_enqueue.proofs.Heads.{filled_head}
use Rattle.cics_enqueue.proofs.keys.head_of.Goals as goal

pub returns : goal.returns
returns c =
    let front = c.args.front.now in
    let rest = c.args.rest.now in
    filled_head c.min-middle.result c.min-end.result 23 front rest c.copy_from_slice.new.self c.copy_from_slice-2.new.self c.min.result c.min-middle.ensures c.min-end.ensures c.copy_from_slice.ensures.after c.copy_from_slice-2.ensures.after
    ∙ ap (λ t. padded 23 (front ++ rest) ++ t ∷ []) (c.min.ensures ∙ ap (λ n. min n 24) (sym (length-append front rest)))
