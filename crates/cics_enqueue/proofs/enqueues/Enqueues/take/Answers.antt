use Rattle.std.proofs.Common.{◌≡◌, ◌∙◌, ℕ, Option, Some, None, not, refl, sym, ap, subst}
use Rattle.std.specs.Prelude.{is_some, if◌then◌else◌}
use Rattle.std.proofs.lemmas.Bool.{eq-eqb}
use Rattle.cics_history.specs.Resources.{bytes_of}
use Rattle.cics_history.specs.declared.resources.Resource.{Resource}
use Rattle.cics_history.specs.declared.resources.Resource.TheVariants.{User}
use Rattle.cics_enqueue.specs.Order.{free_own}
use Rattle.cics_enqueue.specs.Table.{Table, IsFreeFor, holder_of, other_than, taken}
use Rattle.cics_enqueue.proofs.enqueues.Enqueues.take.Goals as goal

-- what a unit may acquire is no other unit's
free_other : (t : Table) (r : Resource) (u : ℕ) → IsFreeFor t r u → other_than (Some u) (holder_of r t) ≡ None
free_other t r u free = by (holder_of r t) refl
  where
    by : (o : Option ℕ) → holder_of r t ≡ o → other_than (Some u) o ≡ None
    by None at = refl
    by (Some v) at = ap (λ b. if not b then Some v else None) (eq-eqb v u (free_own t r u free v at))

pub returns-clause-taken : goal.returns-clause-taken
returns-clause-taken c =
    let t = c.args.self.now in
    let u = c.args.unit in
    let none = c.in_ok-enq.ensures.holder ∙ ap (λ b. other_than (Some u) (holder_of (User (bytes_of b)) t)) c.as_slice.ensures.value ∙ free_other t (User c.in-User.value) u (subst (λ q. IsFreeFor t q u) c.in-User.is c.requires.free) in
    c.in_ok-enq.ensures.taken ∙ ap (λ o. if is_some o then t else taken t (User (bytes_of c.as_slice.result.now)) u) none
    ∙ ap (λ b. taken t (User (bytes_of b)) u) c.as_slice.ensures.value ∙ ap (λ q. taken t q u) (sym c.in-User.is)
