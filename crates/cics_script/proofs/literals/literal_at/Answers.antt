use Rattle.std.proofs.Common.{◌≡◌, ◌-◌, ℕ, true, false, List, [], Some, None, Option, length, take, drop, ap, sym, subst, refl, arith, ◌∙◌}
use Rattle.std.specs.Prelude.{option_map}
use Rattle.std.specs.List.{prefix_len}
use Rattle.cics_script.specs.declared.literals.Notation.{Notation}
use Rattle.cics_script.specs.declared.literals.Notation.TheVariants.{Quoted, Hexadecimal}
use Rattle.cics_script.specs.Tokens.{text_in, with_byte}
use Rattle.cics_script.specs.Literals.{is_plain, IsWrittenAs}
use Rattle.cics_script.proofs.Copies.{characters-front, said-plain, rest-more, rest-plain}
use Rattle.cics_script.proofs.Taken.{takes, plain-size}
use Rattle.cics_script.proofs.literals.literal_at.Goals.{in-Quoted+in-End, in-Quoted+in-Byte+in_ok-behind_pieces-in-Byte, in-Hexadecimal+in_ok-behind_pieces-in-Hexadecimal}
use Rattle.cics_script.proofs.literals.literal_at.Goals as goal

-- what follows a quoted literal, behind characters that stand for themselves
quoted-rest : (notation : Notation) (bytes plain behind : List ℕ) (n : ℕ) (rest : Option (List ℕ)) → notation ≡ Quoted
    → n ≡ prefix_len is_plain bytes → plain ≡ take n bytes → behind ≡ drop n bytes
    → rest ≡ option_map (λ t. t.1) (text_in Quoted behind) → rest ≡ option_map (λ t. t.1) (text_in notation bytes)
quoted-rest Quoted bytes plain behind n rest is count front back found =
    found ∙ rest-plain plain (text_in Quoted bytes) (text_in Quoted bytes) (text_in Quoted behind) refl (characters-front bytes plain behind n count front back)
quoted-rest Hexadecimal bytes plain behind n rest is count front back found = cc

-- two quotes further
pieces-rest : (notation : Notation) (behind after : List ℕ) (byte : ℕ) (rest : Option (List ℕ)) → notation ≡ Quoted
    → text_in Quoted behind ≡ with_byte byte (text_in Quoted after) → rest ≡ option_map (λ t. t.1) (text_in notation after)
    → rest ≡ option_map (λ t. t.1) (text_in Quoted behind)
pieces-rest Quoted behind after byte rest is next found = found ∙ rest-more byte (text_in Quoted behind) (text_in Quoted behind) (text_in Quoted after) refl next
pieces-rest Hexadecimal behind after byte rest is next found = cc

quoted-plain : (notation : Notation) (bytes behind rest : List ℕ) (n : ℕ) → notation ≡ Quoted → n ≡ prefix_len is_plain bytes → behind ≡ drop n bytes
    → text_in Quoted behind ≡ Some ([], rest) → IsWrittenAs notation bytes (take n bytes)
quoted-plain Quoted bytes behind rest n is count back end = said-plain (take n bytes) rest _ _ (characters-front bytes _ behind n count refl back) end
quoted-plain Hexadecimal bytes behind rest n is count back end = cc

pub returns-in_err-behind_pieces-in-Byte-clause-rest : goal.returns-in_err-behind_pieces-in-Byte-clause-rest
returns-in_err-behind_pieces-in-Byte-clause-rest c =
    rw c.from_residual.ensures (quoted-rest c.args.notation c.args.behind_quote.now _ _ _ None c.in-Quoted.is c.plain_len-plain_len.ensures.value c.split_at.ensures.front c.split_at.ensures.back
    (pieces-rest c.args.notation c.split_at.result.1.now c.in-Byte.after.now _ None c.in-Quoted.is c.in-Byte.ensures.0 c.in_err-behind_pieces-in-Byte.ensures))

pub returns-in-Bad-clause-rest : goal.returns-in-Bad-clause-rest
returns-in-Bad-clause-rest c =
    quoted-rest c.args.notation c.args.behind_quote.now _ _ _ None c.in-Quoted.is c.plain_len-plain_len.ensures.value c.split_at.ensures.front c.split_at.ensures.back
    (sym (ap (option_map (λ t. t.1)) c.in-Bad.ensures))

pub returns-clause-rest : goal.returns-clause-rest
returns-clause-rest c =
    elim c.match-notation.branch [
      | in-Quoted+in-End w ↦
          ap (λ p. Some p.1.now) w.is_plain-is
          ∙ quoted-rest c.args.notation c.args.behind_quote.now _ _ _ _ w.in-Quoted.is w.plain_len-plain_len.ensures.value w.split_at.ensures.front w.split_at.ensures.back
          (sym (ap (option_map (λ t. t.1)) w.in-End.ensures.0))
      | in-Quoted+in-Byte+in_ok-behind_pieces-in-Byte w ↦
          ap (λ p. Some p.1.now) w.is_plain-is
          ∙ quoted-rest c.args.notation c.args.behind_quote.now _ _ _ _ w.in-Quoted.is w.plain_len-plain_len.ensures.value w.split_at.ensures.front w.split_at.ensures.back
          (pieces-rest c.args.notation w.split_at.result.1.now w.in-Byte.after.now _ _ w.in-Quoted.is w.in-Byte.ensures.0 w.in_ok-behind_pieces-in-Byte.ensures)
      | in-Hexadecimal+in_ok-behind_pieces-in-Hexadecimal w ↦ ap (λ p. Some p.1.now) w.is_plain-is ∙ w.in_ok-behind_pieces-in-Hexadecimal.ensures
    ]

pub overflow_sub-literal : goal.overflow_sub-literal
overflow_sub-literal c =
    let found : Some c.match-notation.is_plain.1.now ≡ option_map (λ t. t.1) (text_in c.args.notation c.args.behind_quote.now) =
    elim c.match-notation.branch [
      | in-Quoted+in-End w ↦
          ap (λ p. Some p.1.now) w.is_plain-is
          ∙ quoted-rest c.args.notation c.args.behind_quote.now _ _ _ _ w.in-Quoted.is w.plain_len-plain_len.ensures.value w.split_at.ensures.front w.split_at.ensures.back
          (sym (ap (option_map (λ t. t.1)) w.in-End.ensures.0))
      | in-Quoted+in-Byte+in_ok-behind_pieces-in-Byte w ↦
          ap (λ p. Some p.1.now) w.is_plain-is
          ∙ quoted-rest c.args.notation c.args.behind_quote.now _ _ _ _ w.in-Quoted.is w.plain_len-plain_len.ensures.value w.split_at.ensures.front w.split_at.ensures.back
          (pieces-rest c.args.notation w.split_at.result.1.now w.in-Byte.after.now _ _ w.in-Quoted.is w.in-Byte.ensures.0 w.in_ok-behind_pieces-in-Byte.ensures)
      | in-Hexadecimal+in_ok-behind_pieces-in-Hexadecimal w ↦ ap (λ p. Some p.1.now) w.is_plain-is ∙ w.in_ok-behind_pieces-in-Hexadecimal.ensures
    ] in
    let some = (takes c.args.notation c.args.behind_quote.now c.match-notation.is_plain.1.now (sym found)).some in omega (arith, some)

pub invariant_of-literal : goal.invariant_of-literal
invariant_of-literal c =
    let found : Some c.match-notation.is_plain.1.now ≡ option_map (λ t. t.1) (text_in c.args.notation c.args.behind_quote.now) =
    elim c.match-notation.branch [
      | in-Quoted+in-End w ↦
          ap (λ p. Some p.1.now) w.is_plain-is
          ∙ quoted-rest c.args.notation c.args.behind_quote.now _ _ _ _ w.in-Quoted.is w.plain_len-plain_len.ensures.value w.split_at.ensures.front w.split_at.ensures.back
          (sym (ap (option_map (λ t. t.1)) w.in-End.ensures.0))
      | in-Quoted+in-Byte+in_ok-behind_pieces-in-Byte w ↦
          ap (λ p. Some p.1.now) w.is_plain-is
          ∙ quoted-rest c.args.notation c.args.behind_quote.now _ _ _ _ w.in-Quoted.is w.plain_len-plain_len.ensures.value w.split_at.ensures.front w.split_at.ensures.back
          (pieces-rest c.args.notation w.split_at.result.1.now w.in-Byte.after.now _ _ w.in-Quoted.is w.in-Byte.ensures.0 w.in_ok-behind_pieces-in-Byte.ensures)
      | in-Hexadecimal+in_ok-behind_pieces-in-Hexadecimal w ↦ ap (λ p. Some p.1.now) w.is_plain-is ∙ w.in_ok-behind_pieces-in-Hexadecimal.ensures
    ] in
    record {
      ends = takes c.args.notation c.args.behind_quote.now c.match-notation.is_plain.1.now (sym found);
      as_written = elim c.match-notation.branch [
        | in-Quoted+in-End w ↦
            let size = plain-size c.args.behind_quote.now w.split_at.result.1.now w.in-End.rest.now _ w.plain_len-plain_len.ensures.within w.split_at.ensures.back w.in-End.ensures.1 in
            subst (λ p. p.0 ≡ true → IsWrittenAs c.args.notation c.args.behind_quote.now (take (length c.args.behind_quote.now - length p.1.now - 1) c.args.behind_quote.now)) (sym w.is_plain-is)
            (λ is. subst (λ n. IsWrittenAs c.args.notation c.args.behind_quote.now (take n c.args.behind_quote.now)) size
            (quoted-plain c.args.notation c.args.behind_quote.now _ w.in-End.rest.now _ w.in-Quoted.is w.plain_len-plain_len.ensures.value w.split_at.ensures.back w.in-End.ensures.0))
        | in-Quoted+in-Byte+in_ok-behind_pieces-in-Byte w ↦ λ is. let wrong : false ≡ true = ap (λ p. p.0) (sym w.is_plain-is) ∙ is in cc
        | in-Hexadecimal+in_ok-behind_pieces-in-Hexadecimal w ↦ λ is. let wrong : false ≡ true = ap (λ p. p.0) (sym w.is_plain-is) ∙ is in cc
      ];
    }
