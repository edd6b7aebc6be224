use Rattle.std.proofs.Common.{◌≡◌, ◌∙◌, ◌∷◌, sym, ap, Some, None}
use Rattle.std.specs.Prelude.{slice_get}
use Rattle.std.specs.Option.{option_copied}
use Rattle.std.specs.Map.{lookup}
use Rattle.cics_names.specs.Keyed.{Bytes, is_same}
use Rattle.cics_enqueue.proofs.Seeking.{headed, none_of_kind, on_false_by}
use Rattle.cics_enqueue.proofs.conflicts.has_prefixes.Goals as goal

pub returns-in-Some-first : goal.returns-in-Some-first
returns-in-Some-first c =
    let kind = c.in-Some-first.kind.now in
    let at : slice_get c.in-Some.key.now 0 ≡ Some kind = ap (λ b. slice_get b 0) (sym c.as_slice.ensures) ∙ sym c.first.ensures.value ∙ ap option_copied c.in-Some-first.is in
    let split = headed c.in-Some.key.now kind at in
    on_false_by {Q = (b : Bytes) → lookup (is_same (0 ∷ b)) c.args.table.now.entries ≡ None} _ (λ other b. none_of_kind b c.in-Some.key.now split.0 kind split.1 other c.args.table.now.entries c.in-Some.ensures.all_from)
