use Rattle.std.proofs.Common.{◌∙◌, sym, ap, length, take, Some, None}
use Rattle.std.specs.Prelude.{◌&&◌, if◌then◌else◌, nat_le}
use Rattle.std.proofs.lemmas.Bool.{le-leb, lt-leb}
use Rattle.cics_dispatch.specs.Machine.Lengths.{is_within, used_of}
use Rattle.cics_dispatch.proofs.machine.checks.used.Goals as goal
use Rattle.cics_dispatch.proofs.machine.checks.used.Goals.{else-length-ge1-via-then-length-ge1+else-length-from, else-length-ge1-via-else-length-ge1}

pub returns-in-None : goal.returns-in-None
returns-in-None c =
    let from = c.args.from.now in
    sym (ap (λ n. if is_within from n then Some (used_of from n) else None) c.in-None.is)

pub returns-then-length-from : goal.returns-then-length-from
returns-then-length-from c =
    let from = c.args.from.now in
    let n = c.in-Some.length in
    sym (ap (λ o. if is_within from o then Some (used_of from o) else None) c.in-Some.is
    ∙ ap (λ b. if b then Some (take n from) else None) (λ i. le-leb 1 n c.if-length-ge1.true i && le-leb n (length from) c.if-length-from.true i))

pub returns-else-length-ge1 : goal.returns-else-length-ge1
returns-else-length-ge1 c =
    let from = c.args.from.now in
    let n = c.in-Some.length in
    sym (ap (λ o. if is_within from o then Some (used_of from o) else None) c.in-Some.is
    ∙ elim c.else-length-ge1.branch [
      | else-length-ge1-via-then-length-ge1+else-length-from w ↦ ap (λ b. if b then Some (take n from) else None) (λ i. le-leb 1 n w.if-length-ge1.true i && lt-leb n (length from) w.if-length-from.false i)
      | else-length-ge1-via-else-length-ge1 w ↦ ap (λ b. if b then Some (take n from) else None) (λ i. lt-leb 1 n w.if-length-ge1.false i && nat_le n (length from))
    ])
