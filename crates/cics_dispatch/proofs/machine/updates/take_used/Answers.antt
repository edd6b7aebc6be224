use Rattle.std.proofs.Common.{◌≡◌, ◌∙◌, ◌<◌, ℕ, sym, ap, subst, refl, arith, length, Result, Ok, Err, [], ◌∷◌}
use Rattle.std.specs.Prelude.{IfOk}
use Rattle.cics_names.specs.Keyed.{Bytes}
use Rattle.cics_dispatch.specs.Machine.Emptied.{put_back}
use Rattle.cics_dispatch.specs.Machine.Lengths.{used_of}
use Rattle.cics_dispatch.proofs.machine.updates.take_used.Goals as goal

-- what follows of each value holds of the one that there is
if_ok : {A E : Type 0} {P Q : A → Type 0} (r : Result A E) → ((a : A) → P a → Q a) → IfOk r P → IfOk r Q
if_ok (Ok a) follows p = follows a p
if_ok (Err e) follows p = tt

-- bytes of which there are some stay
stays : (own taken : Bytes) (n : ℕ) → n < length own → put_back own taken ≡ own
stays [] taken n some = absurd (omega (arith, some))
stays (b ∷ bs) taken n some = refl

pub returns-in-Some-clause-content : goal.returns-in-Some-clause-content
returns-in-Some-clause-content c = if_ok c.part.result (λ content is. is ∙ sym (ap (used_of c.args.from.now) c.in-Some.is)) c.part.ensures

pub returns-in-Some-clause-back : goal.returns-in-Some-clause-back
returns-in-Some-clause-back c =
    if_ok c.part.result (λ content is. stays c.args.from.now content c.in-Some.length (subst (λ n. c.in-Some.length < n) c.len.ensures c.if-length-len.true)) c.part.ensures

pub returns-in_default-clause-back : goal.returns-in_default-clause-back
returns-in_default-clause-back c = λ i. put_back (c.take.ensures.left i) (c.take.ensures.taken i)
