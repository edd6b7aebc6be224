use Rattle.std.proofs.Common.{◌≡◌, ◌∙◌, refl}
use Rattle.std.specs.Option.{option_copied}
use Rattle.cics_names.specs.declared.commands.Verb.{Verb}
use Rattle.cics_names.specs.declared.commands.Verb.TheVariants.{Read, Write, Rewrite, Delete}
use Rattle.cics_dispatch.specs.Machine.Checks.{browsing_reason, file_reason}
use Rattle.cics_dispatch.proofs.machine.checks.file_reason.Goals as goal

pub returns-in_default : goal.returns-in_default
returns-in_default c = c.browsing_reason.ensures ∙ by c.args.verb.now refl
  where
    -- what neither reads nor changes a file is a command of a browse
    by : (verb : Verb) → c.args.verb.now ≡ verb →
        browsing_reason c.args.definition (option_copied c.args.browse) verb ≡ file_reason c.args.definition (option_copied c.args.open_key) (option_copied c.args.browse) verb
    by (Read f key given n generic gteq update) is = absurd (c.in_default.not-Read _ _ _ _ _ _ _ is)
    by (Write f key given from n) is = absurd (c.in_default.not-Write _ _ _ _ _ is)
    by (Rewrite f from n) is = absurd (c.in_default.not-Rewrite _ _ _ is)
    by (Delete f key given generic) is = absurd (c.in_default.not-Delete _ _ _ _ is)
    by verb is = refl
