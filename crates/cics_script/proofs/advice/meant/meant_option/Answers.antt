use Rattle.std.proofs.Common.{◌≡◌, true, is_some, IfSome, Contains, subst}
use Rattle.std.proofs.lemmas.List.Elements.{All-contains}
use Rattle.cics_script.specs.Words.{kind_in}
use Rattle.cics_script.proofs.advice.meant.meant_option.Goals as goal

pub returns-in-Some-2 : goal.returns-in-Some-2
returns-in-Some-2 c =
    let near = subst (λ found. IfSome found (Contains c.deref.result.now)) c.in-Some-2.is c.in_ok-row.ensures in
    All-contains (λ row. is_some (kind_in c.args.form row.1) ≡ true) c.in_ok-rows.rows.items c.in-Some-2.row c.in_ok-rows.ensures
    (subst (λ rows. Contains rows c.in-Some-2.row) c.deref.ensures.value near)
