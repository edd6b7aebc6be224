use Rattle.std.proofs.Common.{◌∷◌, [], ◌++◌, ap, sym, ◌∙◌, arith}
use Rattle.std.specs.Int.{w64, to_be_bytes}
use Rattle.cics_names.proofs.Stamps.{appended_two, small_number, long_number}
use Rattle.cics_names.proofs.stamping.stamp_number.Goals as goal

pub returns-then-number-from : goal.returns-then-number-from
returns-then-number-from c =
    let stamp = small_number c.args.number (omega arith) in
    grind (arith, stamp)

pub returns : goal.returns
returns c =
    let stamp = long_number c.args.number (omega arith) (omega arith) in
    appended_two c.args.out.now.items (254 ∷ []) (to_be_bytes w64 c.args.number) c.in_ok-push-2.ensures.items
    (c.in_ok-extend_from_slice.ensures.items ∙ ap (λ t. c.push-2.new.self.items ++ t) c.to_be_bytes.ensures)
    ∙ ap (λ t. c.args.out.now.items ++ t) (sym stamp)
