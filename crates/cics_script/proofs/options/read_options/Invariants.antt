use Rattle.std.proofs.Common.{◌≡◌, length}
use Rattle.cics_script.specs.Tokens.{tokens}
use Rattle.cics_script.specs.Options.{reads, at_option, options}
use Rattle.cics_script.specs.Views.{entries}
use Rattle.cics_script.proofs.OptionRoom.{AreOnce}
use Rattle.cics_script.proofs.options.read_options.Given as goal

abbrev pub invariant-options : goal.invariant-options
invariant-options l = record {
  read : reads l.form (at_option l.last) (entries l.found.items) (tokens l.rest) ≡ options l.form (tokens l.bytes);
  once : AreOnce l.form (entries l.found.items);
}

abbrev pub decreases-options : goal.decreases-options
decreases-options l = length l.rest
