use Rattle.std.proofs.Common.{◌≡◌, ◌&&◌, ◌∙◌, ap, sym, rules, get_or, arith}
use Rattle.std.specs.Prelude.{not}
use Rattle.cics_script.specs.Tokens.{is_quote}
use Rattle.cics_script.proofs.Taken.{put-character, characters-put, one-at-most}
use Rattle.cics_script.proofs.literals.put_characters.Goals.{then-is_quote_byte, else-is_quote_byte}
use Rattle.cics_script.proofs.literals.put_characters.Goals as goal

pub loop-i-preserved : goal.loop-i-preserved
loop-i-preserved c =
    let state : c.if-is_quote_byte.is_first ≡ (is_quote (get_or c.args.bytes.now c.loop-i.i 0) && not c.loop-i.is_first) =
    elim c.if-is_quote_byte.branch [
      | then-is_quote_byte w ↦ w.is_first-is ∙ ap (λ b. b && not c.loop-i.is_first) (sym w.if-is_quote_byte.true ∙ c.is_quote_byte.ensures)
      | else-is_quote_byte w ↦ w.is_first-is ∙ w.if-is_quote_byte.false ∙ ap (λ b. b && not c.loop-i.is_first) (sym w.if-is_quote_byte.false ∙ c.is_quote_byte.ensures)
    ] in
    record {
      size = search rules;
      within = let more = one-at-most _ _ c.from-count.ensures in omega (arith, more, c.loop-i.invariant.within);
      so_far =
          put-character _ _ _ _ _ _ _ _ _ _ c.requires c.loop-i.invariant.size c.loop-i.invariant.within c.loop-i-test.true state c.encoded_byte.ensures c.from-count.ensures
          c.loop-i.invariant.so_far;
    }

pub returns : goal.returns
returns c = characters-put _ _ _ _ _ _ c.requires (omega (arith, c.loop-i-test.false, c.loop-i.auto.i-end)) c.loop-i.invariant.so_far
