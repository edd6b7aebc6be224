use Rattle.std.proofs.Common.{◌≡◌, ◌∙◌, ℕ, List, refl, ap, rules}
use Rattle.std.specs.Prelude.{Result, Ok, Err}
use Rattle.cics_script.specs.declared.faults.LineFault.{LineFault}
use Rattle.cics_script.specs.declared.words.CommandWord.{CommandWord}
use Rattle.cics_script.specs.Faults.{◌>>=◌}
use Rattle.cics_script.specs.Tokens.{tokens}
use Rattle.cics_script.specs.Lines.{behind, command_at, command_line, issue, issued, verb_first}
use Rattle.cics_script.proofs.lines.read_issue.Goals as goal
use lib.Chars.{codes}

-- two parts are read as one
as_one : {A B C : Type 0} (read : Result A LineFault) (more : A → Result B LineFault) (last : B → Result C LineFault)
    → (read >>= λ part. more part >>= last) ≡ ((read >>= more) >>= last)
as_one (Ok part) more last = refl
as_one (Err fault) more last = refl

-- a command is read from its verb on
from-verb : (label bytes rest : List ℕ) → (behind (codes "EXEC") (tokens bytes) >>= behind (codes "CICS")) ≡ Ok (tokens rest)
    → issue label (tokens bytes) ≡ command_line label (tokens rest)
from-verb label bytes rest skipped =
    as_one (behind (codes "EXEC") (tokens bytes)) (behind (codes "CICS")) (command_line label) ∙ ap (λ read. read >>= command_line label) skipped

-- and from its options on
from-options : (label bytes front rest options : List ℕ) (verb command : CommandWord) → (behind (codes "EXEC") (tokens bytes) >>= behind (codes "CICS")) ≡ Ok (tokens front)
    → verb_first (tokens front) ≡ Ok (verb, tokens rest) → command_at verb (tokens rest) ≡ (command, tokens options)
    → issue label (tokens bytes) ≡ issued label (command, tokens options)
from-options label bytes front rest options verb command skipped first placed =
    from-verb label bytes front skipped ∙ ap (λ read. read >>= λ found. issued label (command_at found.0 found.1)) first ∙ ap (issued label) placed

pub returns : goal.returns
returns c =
    from-options c.args.label c.args.bytes.now c.in_ok-behind_cics.behind_cics.now c.in_ok-verb.rest.now c.placed_command-command.result.1.now c.in_ok-verb.verb c.placed_command-command.result.0 c.in_ok-behind_cics.ensures c.in_ok-verb.ensures c.placed_command-command.ensures
    ∙ search rules

pub returns-in_err-read_options : goal.returns-in_err-read_options
returns-in_err-read_options c =
    rw (from-options c.args.label c.args.bytes.now c.in_ok-behind_cics.behind_cics.now c.in_ok-verb.rest.now c.placed_command-command.result.1.now c.in_ok-verb.verb c.placed_command-command.result.0 c.in_ok-behind_cics.ensures c.in_ok-verb.ensures c.placed_command-command.ensures)
    (search rules)

pub returns-in_err-verb-2 : goal.returns-in_err-verb-2
returns-in_err-verb-2 c =
    rw (from-options c.args.label c.args.bytes.now c.in_ok-behind_cics.behind_cics.now c.in_ok-verb.rest.now c.placed_command-command.result.1.now c.in_ok-verb.verb c.placed_command-command.result.0 c.in_ok-behind_cics.ensures c.in_ok-verb.ensures c.placed_command-command.ensures)
    (search rules)
