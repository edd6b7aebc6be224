use Rattle.std.proofs.Common.{◌∙◌, length, ap, refl, sym}
use Rattle.std.specs.Prelude.{slice_get}
use Rattle.std.proofs.lemmas.Bool.{ltb-true}
use Rattle.std.proofs.lemmas.Option.{slice_get_read, slice_get_past, slice_get-map}
use Rattle.cics_script.specs.Lines.{line}
use Rattle.cics_orders.specs.Plans.Taking.{NumberedLine}
use Rattle.cics_orders.proofs.lines.Lines.said_at.Goals as goal

-- the line is there
pub returns-in-Some : goal.returns-in-Some
returns-in-Some c =
    let said = c.says.result.now in
    let n = c.args.index in
    let says = c.in-Some.says.now in
    sym (slice_get_read said (length said) n says refl (ltb-true n (length said) (sym c.in-Some.ensures.lookup.0)) c.in-Some.ensures.lookup.1)
    ∙ ap (λ xs. slice_get xs n) c.says.ensures ∙ slice_get-map (λ (n : NumberedLine). line n.1) c.args.self.now n

-- it is not
pub returns-in-None : goal.returns-in-None
returns-in-None c =
    let said = c.says.result.now in
    let n = c.args.index in
    sym (slice_get_past said n c.in-None.ensures.lookup.3) ∙ ap (λ xs. slice_get xs n) c.says.ensures ∙ slice_get-map (λ (n : NumberedLine). line n.1) c.args.self.now n
