use Rattle.std.proofs.Common.{◌≡◌, ◌&&◌, ◌-◌, true, drop, length, arith, ap, sym, ◌∙◌}
use Rattle.std.specs.List.{list_all}
use Rattle.cics_script.specs.Lines.{is_script_byte}
use Rattle.cics_script.proofs.ScriptBytes.{list_all-parts, list_all-end, end-further}
use Rattle.cics_script.proofs.lines.blocks_are_in_script.Goals as goal

pub returns-then-not-few_are_in_script : goal.returns-then-not-few_are_in_script
returns-then-not-few_are_in_script c =
    let parts = c.in-Some.ensures.cases in
    let block : list_all is_script_byte c.in-Some.block.now ≡ _ = sym c.few_are_in_script.ensures ∙ c.if-not-few_are_in_script.true in
    sym (sym c.blocks-2.invariant.passed ∙ list_all-parts is_script_byte 16 c.blocks-2.rest.now ∙ ap (λ front. list_all is_script_byte front && list_all is_script_byte (drop 16 c.blocks-2.rest.now)) (sym parts.0)
    ∙ ap (λ all. all && list_all is_script_byte (drop 16 c.blocks-2.rest.now)) block)

pub blocks-2-preserved : goal.blocks-2-preserved
blocks-2-preserved c =
    let parts = c.in-Some.ensures.cases in
    let block : list_all is_script_byte c.in-Some.block.now ≡ true = sym c.few_are_in_script.ensures ∙ c.if-not-few_are_in_script.false in
    record {
      passed = ap (list_all is_script_byte) parts.1
          ∙ sym (list_all-parts is_script_byte 16 c.blocks-2.rest.now ∙ ap (λ front. list_all is_script_byte front && list_all is_script_byte (drop 16 c.blocks-2.rest.now)) (sym parts.0)
          ∙ ap (λ all. all && list_all is_script_byte (drop 16 c.blocks-2.rest.now)) block)
          ∙ c.blocks-2.invariant.passed;
      within = omega (arith, parts.2, c.blocks-2.invariant.within);
      behind = parts.1 ∙ end-further (length c.args.bytes.now) (length c.in-Some.behind.now) 16 c.args.bytes.now c.blocks-2.rest.now
          (c.blocks-2.invariant.behind ∙ ap (λ n. drop (length c.args.bytes.now - n) c.args.bytes.now) (sym parts.2)) (omega (arith, parts.2, c.blocks-2.invariant.within));
    }

pub returns-in-None : goal.returns-in-None
returns-in-None c =
    sym (list_all-end is_script_byte (length c.blocks-2.rest.now) 16 c.args.bytes.now c.blocks-2.rest.now c.blocks-2.invariant.behind (omega (arith, c.in-None.ensures.cases)) c.blocks-2.invariant.within c.requires.last)
    ∙ c.blocks-2.invariant.passed
