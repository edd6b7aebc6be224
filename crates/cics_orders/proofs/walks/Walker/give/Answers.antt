use Rattle.std.proofs.Common.{◌≡◌, ◌∙◌, Some, ap, sym, option_copied}
use Rattle.std.proofs.lemmas.Result.{on_ok_weaker}
use Rattle.cics_orders.specs.Giving.{State, next_said, happening, left_by, after_asked, counted}
use Rattle.cics_orders.proofs.Steps.{gives_none, gives}
use Rattle.cics_orders.proofs.walks.Walker.give.Goals as goal

-- no line is left
pub returns-in_default : goal.returns-in_default
returns-in_default c =
    let l = c.args.number in
    sym (gives_none c.args.self.now l
    (ap (λ (s : State). next_said s.lanes l) (sym c.self.view_is) ∙ ap (λ xs. next_said xs l) (sym c.as_slice.ensures.value) ∙ sym c.next_said.ensures ∙ ap option_copied c.in_default.is))

-- the lane has a line left
pub count-requires : goal.count-requires
count-requires c =
    let l = c.args.number in
    let is : next_said c.args.self.now.lanes l ≡ Some c.in-Some.says.now
    = ap (λ (s : State). next_said s.lanes l) (sym c.self.view_is) ∙ ap (λ xs. next_said xs l) (sym c.as_slice.ensures.value) ∙ sym c.next_said.ensures ∙ ap option_copied c.in-Some.is in
    let found = gives c.args.self.now l c.in-Some.says.now is in
    (found.0, found.1, found.2)

-- what it asks is asked
pub returns-in-Some-request : goal.returns-in-Some-request
returns-in-Some-request c =
    let l = c.args.number in
    let s = c.args.self.now in
    let is : next_said s.lanes l ≡ Some c.in-Some.says.now
    = ap (λ (s : State). next_said s.lanes l) (sym c.self.view_is) ∙ ap (λ xs. next_said xs l) (sym c.as_slice.ensures.value) ∙ sym c.next_said.ensures ∙ ap option_copied c.in-Some.is in
    let (lane, at, short, run) = gives s l c.in-Some.says.now is in
    let r = c.in-Some-request.request in
    on_ok_weaker c.ask.result
    (λ went.
    went ∙ ap (λ (t : State). left_by t (happening t.machine r)) (c.count.ensures lane at)
    ∙ ap (after_asked (counted s l lane)) (sym c.in-Some-request.is ∙ c.in_ok-request.ensures) ∙ sym run) c.ask.ensures

-- it asks nothing
pub returns-in-None : goal.returns-in-None
returns-in-None c =
    let l = c.args.number in
    let s = c.args.self.now in
    let is : next_said s.lanes l ≡ Some c.in-Some.says.now
    = ap (λ (s : State). next_said s.lanes l) (sym c.self.view_is) ∙ ap (λ xs. next_said xs l) (sym c.as_slice.ensures.value) ∙ sym c.next_said.ensures ∙ ap option_copied c.in-Some.is in
    let (lane, at, short, run) = gives s l c.in-Some.says.now is in
    c.count.ensures lane at ∙ ap (after_asked (counted s l lane)) (sym c.in-None.is ∙ c.in_ok-request.ensures) ∙ sym run
