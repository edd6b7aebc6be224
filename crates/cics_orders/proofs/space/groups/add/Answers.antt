use Rattle.std.proofs.Common.{◌∙◌, sym, ap}
use Rattle.std.specs.Map.{set_value}
use Rattle.std.specs.Option.{option_copied_mut}
use Rattle.indexmap.specs.IndexMap.{insert_entry}
use Rattle.cics_orders.proofs.OfSpace.Adding.{added_there, added_new}
use Rattle.cics_orders.proofs.space.groups.add.Goals as goal

-- the value is joined to the one of its key
pub returns-in-Some : goal.returns-in-Some
returns-in-Some g c =
    let eq = g.K.PartialEq.eq in
    let es = c.args.met.now.entries in
    (c.get_mut.follows.holds c.join.new.self).0 ∙ ap (set_value (eq c.args.key) es) c.join.ensures
    ∙ added_there eq g.T.Join.joined c.args.key c.args.value es c.in-Some.known.now (sym c.get_mut.ensures.value ∙ ap option_copied_mut c.in-Some.is)

-- the key is new
pub returns : goal.returns
returns g c =
    let eq = g.K.PartialEq.eq in
    let es = c.args.met.now.entries in
    c.in_ok-insert.ensures.entries ∙ ap (λ m. insert_entry eq m.entries c.args.key c.args.value) c.get_mut.follows.holds-at-none
    ∙ added_new eq g.T.Join.joined c.args.key c.args.value es (sym c.in_default.ensures.value)
