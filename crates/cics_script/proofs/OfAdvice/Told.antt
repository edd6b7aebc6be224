-- What was put behind a text is what is told of a line.
use Rattle.std.specs.Prelude.{◌≡◌, ℕ, List, ◌++◌, Result, Ok, Err, OnOk, Some, None}
use Rattle.std.proofs.Common.{ap, ◌∙◌, append_assoc}
use Rattle.cics_script.specs.Advice.Advice.{message_line, marked, too_long, IsColumnOf, Advises}
use Rattle.cics_script.specs.declared.advice.messages.Cause.{Cause}
use Rattle.cics_script.specs.declared.advice.origin.Origin.{Origin}

module _ {A E : Type 0} (origin : Origin) (bytes : List ℕ) (cause : Cause) (before : List ℕ) where
  pub told_long : (now : List ℕ) (r : Result A E) → IsColumnOf bytes cause None → OnOk r (now ≡ before ++ too_long origin)
      → OnOk r (Advises origin bytes cause before now)
  told_long now (Ok x) is put = (None, is, put)
  told_long now (Err e) is put = tt

  pub told_marked : (column : ℕ) (message middle now : List ℕ) (r : Result A E) → IsColumnOf bytes cause (Some column)
      → middle ≡ before ++ message_line origin (Some column) message → OnOk r (now ≡ middle ++ marked bytes column)
      → OnOk r (Advises origin bytes cause before now)
  told_marked column message middle now (Ok x) is first put = (
    Some column,
    is,
    (message, put ∙ ap (λ l. l ++ marked bytes column) first ∙ append_assoc before (message_line origin (Some column) message) (marked bytes column)),
  )
  told_marked column message middle now (Err e) is first put = tt
