-- A fault that is printed for a line of which more is to come is no run.
use Rattle.std.proofs.Common.{◌≡◌, ◌+◌, ℕ, List, ◌++◌, length, take, ap, sym, ◌∙◌, Option, Some, None, inl, inr, arith, length-append}
use Rattle.std.proofs.lemmas.Bool.{true≢false}
use Rattle.std.proofs.Math.Seq.{take-append_seam}
use Rattle.std.specs.Prelude.{Ok}
use Rattle.cics_run.specs.Session.Running.{RunsOver, is_stopped}
use Rattle.cics_run.specs.declared.session.running.Status.TheVariants as status
use Rattle.cics_run.proofs.OfSession.Scripts.{listed}
use lib.Chars.{codes}

first_word : (bytes : List ℕ) → codes "T1 EXEC CICS SYNCPOINT" ≡ bytes ++ codes " EXEC CICS SYNCPOINT" → bytes ≡ codes "T1"
first_word bytes read =
    let sum : 22 ≡ length bytes + 20 = ap length read ∙ length-append bytes (codes " EXEC CICS SYNCPOINT") in
    let two : length bytes ≡ 2 = omega (arith, sum) in
    sym (take-append_seam bytes (codes " EXEC CICS SYNCPOINT")) ∙ ap (λ n. take n (bytes ++ codes " EXEC CICS SYNCPOINT")) two ∙ ap (take 2) (sym read)

-- the line is not complete, and the input is not at its end
no_early_fault : (old new : Option (List ℕ)) → RunsOver listed (Some (codes "T1 EXEC CICS SYNCPOINT")) (Some (codes " EXEC CICS SYNCPOINT")) None old new (Ok status.LineFault) → ⊥
no_early_fault old new (bytes, read, within, on, (wrote, faulty, inl stopped)) = true≢false (sym stopped ∙ ap is_stopped (first_word bytes read))
no_early_fault old new (bytes, read, within, on, (wrote, faulty, inr end)) = let none : 20 ≡ 0 = ap length end in absurd (omega (arith, none))
