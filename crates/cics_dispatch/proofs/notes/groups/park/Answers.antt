use Rattle.std.proofs.Common.{◌≡◌, ◌∙◌, ap, Some, nat_eq, rules}
use Rattle.std.specs.Prelude.{Vec, unwrap_or}
use Rattle.std.specs.Map.{lookup}
use Rattle.std.specs.declared.alloc.Global.{Global}
use Rattle.cics_dispatch.specs.declared.notes.groups.Parked.{Parked}
use Rattle.cics_dispatch.proofs.OfNotes.FiledNotes.{list_same, list_more, list_added}
use Rattle.cics_dispatch.proofs.notes.groups.park.Goals as goal
use Rattle.cics_dispatch.proofs.notes.groups.park.Goals.{After-or_insert}

-- the list before is the unit's, if it has one
own : (c : After-or_insert) (l : Vec Parked Global) → lookup (nat_eq c.args.unit) c.args.parked.now.entries ≡ Some l → c.or_insert.result.now ≡ l
own c l is = c.or_insert.ensures.value ∙ ap (λ o. unwrap_or o c.new-none.result) (c.in_ok-parked.ensures.value ∙ is)

pub returns-in_err-push-clause-kept : goal.returns-in_err-push-clause-kept
returns-in_err-push-clause-kept c =
    list_same c.args.parked.now.entries _ c.args.unit c.push.new.self (λ q. let put = (c.in_ok-parked.ensures.update.0 c.push.new.self).0 q in search rules)
    c.or_insert.result.now (own (goal.at.returns-in_err-push-clause-kept c).After-or_insert) c.in_err-push.ensures.items

pub returns-clause-added : goal.returns-clause-added
returns-clause-added c =
    list_added c.args.parked.now.entries _ c.args.unit c.push.new.self (λ q. let put = (c.in_ok-parked.ensures.update.0 c.push.new.self).0 q in search rules)
    c.or_insert.result.now c.args.what c.in_ok-push.ensures.items

pub returns-clause-kept : goal.returns-clause-kept
returns-clause-kept c =
    list_more c.args.parked.now.entries _ c.args.unit c.push.new.self (λ q. let put = (c.in_ok-parked.ensures.update.0 c.push.new.self).0 q in search rules)
    c.or_insert.result.now (own (goal.at.returns-clause-kept c).After-or_insert) c.args.what c.in_ok-push.ensures.items
