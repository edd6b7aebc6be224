use Rattle.std.proofs.Common.{◌≢◌, ℕ, List, ap, ◌∙◌, arith}
use Rattle.std.specs.Prelude.{Result, Ok, Err}
use Rattle.std.specs.Borrow.{Bor}
use Rattle.cics_script.specs.declared.faults.LineFault.{LineFault}
use Rattle.cics_script.specs.declared.words.OptionWord.{OptionWord}
use Rattle.cics_script.specs.declared.words.ValueKind.{ValueKind}
use Rattle.cics_script.specs.declared.words.ValueKind.TheVariants.{Flag, Last}
use Rattle.cics_script.specs.Tokens.{tokens}
use Rattle.cics_script.specs.Options.{Entry, reads}
use Rattle.cics_script.specs.Views.{HasValue, Enters}
use Rattle.cics_script.proofs.OptionSteps.{refuses_behind, entered-value, reads-further}
use Rattle.cics_script.proofs.options.read_option.Goals as goal

-- what reading a value gave is what reading its option gave
behind_word : (kind : ValueKind) (option : OptionWord) (before after : List Entry) (bytes : List ℕ) (result : Result (Bor (List ℕ)) LineFault) → kind ≢ Flag → kind ≢ Last
    → HasValue kind option before after bytes result → Enters kind option before after bytes result
behind_word kind option before after bytes (Ok rest) valued more value = λ form. (
  ap (λ s. reads form s.0 s.1 (tokens bytes)) (entered-value option before kind valued more) ∙ (value form).0 ∙ reads-further form kind _ _ more,
  omega (arith, (value form).1),
)
behind_word kind option before after bytes (Err fault) valued more value = λ form.
    refuses_behind _ _ fault (ap (λ s. reads form s.0 s.1 (tokens bytes)) (entered-value option before kind valued more)) (value form)

pub returns-in_default : goal.returns-in_default
returns-in_default c = record {
  put = c.read_value.ensures.put;
  reading = behind_word c.args.one.now.kind c.args.one.now.option _ _ c.args.bytes.now _ c.in_default.not-Flag c.in_default.not-Last c.read_value.ensures.value;
}
