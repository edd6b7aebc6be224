use Rattle.std.proofs.Common.{◌≡◌, ℕ, List, ap, sym, ◌∙◌}
use Rattle.cics_script.specs.declared.words.CommandWord.{CommandWord}
use Rattle.cics_script.specs.Tokens.{tokens}
use Rattle.cics_script.specs.Words.{lookup, queue_words}
use Rattle.cics_script.specs.Lines.{taken, command_at}
use Rattle.cics_script.specs.Views.{IsNamed}
use Rattle.cics_script.proofs.lines.placed_command.Goals as goal
use lib.Chars.{codes}

-- a word behind a verb that makes it this command
placed : (verb command : CommandWord) (bytes front rest : List ℕ) → tokens front ≡ tokens bytes → IsNamed (queue_words verb) command front rest
    → command_at verb (tokens bytes) ≡ (command, tokens rest)
placed verb command bytes front rest same is =
    ap (command_at verb) (sym same ∙ is.2.0) ∙ ap (λ found. taken found verb is.0 (tokens rest)) is.1

pub returns-in-Some-named : goal.returns-in-Some-named
returns-in-Some-named c =
    placed c.args.verb _ c.args.bytes.now c.skip_one_blank-front.result.now _ c.skip_one_blank-front.ensures.tokens
    (c.in-Some-named.ensures (queue_words c.args.verb) (ap (lookup (codes "TS")) c.in-Some.ensures.some))

pub returns-in-Some-named-2 : goal.returns-in-Some-named-2
returns-in-Some-named-2 c =
    placed c.args.verb _ c.args.bytes.now c.skip_one_blank-front.result.now _ c.skip_one_blank-front.ensures.tokens
    (c.in-Some-named-2.ensures (queue_words c.args.verb) (ap (lookup (codes "TD")) c.in-Some.ensures.some))
