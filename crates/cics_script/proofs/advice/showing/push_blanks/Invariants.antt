use Rattle.std.proofs.Common.{◌≡◌, ◌++◌, replicate}
use Rattle.cics_script.proofs.advice.showing.push_blanks.Given as goal

abbrev pub invariant-loop-blank : goal.invariant-loop-blank
invariant-loop-blank l = l.out.items ≡ l.fn.out.items ++ replicate l._blank 32
