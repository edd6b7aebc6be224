use Rattle.std.proofs.Common.{◌≡◌, ◌<◌, ◌++◌, ◌∷◌, [], ℕ, List, length, arith, ap, sym, ◌∙◌}
use Rattle.std.specs.Prelude.{Some, Result, Ok, Err}
use Rattle.std.specs.Borrow.{Bor}
use Rattle.cics_script.specs.declared.faults.LineFault.{LineFault}
use Rattle.cics_script.specs.declared.words.LineForm.{LineForm}
use Rattle.cics_script.specs.declared.words.ValueKind.{ValueKind}
use Rattle.cics_script.specs.declared.words.OptionWord.{OptionWord}
use Rattle.cics_script.specs.Tokens.{tokens}
use Rattle.cics_script.specs.Options.{Content, Entry, reads, at_option, at_opening, at_closing}
use Rattle.cics_script.specs.Views.{Steps, entries}
use Rattle.cics_script.proofs.OptionSteps.{refuses_behind}
use Rattle.cics_script.proofs.options.read_value.Goals as goal

-- behind the content stands a closing parenthesis, or what has the fault of a wrong one
closed : (f : LineForm) (kind : ValueKind) (option : OptionWord) (before after : List Entry) (bytes behind : List ℕ) (c : Content) (result : Result (Bor (List ℕ)) LineFault)
    → after ≡ before ++ (option, c) ∷ [] → reads f (at_opening option kind) before (tokens bytes) ≡ reads f (at_closing option kind c) before (tokens behind)
    → length behind < length bytes
    → Steps f before (at_closing option kind c) behind (λ rest. (at_option (Some kind), before ++ (option, c) ∷ [], rest.now)) result
    → Steps f before (at_opening option kind) bytes (λ rest. (at_option (Some kind), after, rest.now)) result
closed f kind option before after bytes behind c (Ok rest) put step less last =
    (step ∙ last.0 ∙ ap (λ es. reads f (at_option (Some kind)) es (tokens rest.now)) (sym put), omega (arith, less, last.1))
closed f kind option before after bytes behind c (Err fault) put step less refuses = refuses_behind _ _ fault step refuses

pub returns-clause-value : goal.returns-clause-value
returns-clause-value c f =
    let found = entries c.args.found.now.items in
    let asked = c.args.one.now in
    let one = c.in_ok-inside.ensures f found asked.option in
    let two = c.in_ok-behind.ensures in
    closed f asked.kind asked.option found _ c.args.bytes.now c.in_ok-behind.behind.now two.0 c.read_closing.result two.1 (one.0 ∙ two.2 f) (omega (arith, one.1, two.3))
    (c.read_closing.ensures f found asked.option two.0)
