use Rattle.std.proofs.Common.{ap, sym, ◌∙◌, ◌-◌, length}
use Rattle.std.specs.List.{list_all}
use Rattle.cics_script.specs.Lines.{is_script_byte}
use Rattle.cics_script.proofs.ScriptBytes.{list_all-some}
use Rattle.cics_script.proofs.lines.are_in_script.Goals as goal

pub returns-else-few_are_in_script : goal.returns-else-few_are_in_script
returns-else-few_are_in_script c =
    c.if-few_are_in_script.false
    ∙ sym (list_all-some is_script_byte (length c.args.bytes.now - 16) c.args.bytes.now
    (ap (list_all is_script_byte) (sym c.in-Some.ensures.cases.1.same) ∙ sym c.few_are_in_script.ensures ∙ c.if-few_are_in_script.false))
