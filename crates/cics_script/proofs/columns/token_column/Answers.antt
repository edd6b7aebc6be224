use Rattle.std.proofs.Common.{◌≡◌, true, false, ◌++◌, ◌∷◌, [], ap, sym, ◌∙◌, subst}
use Rattle.std.specs.Prelude.{Err}
use Rattle.cics_script.specs.Tokens.{tokens}
use Rattle.cics_script.specs.Lines.{statement}
use Rattle.cics_script.specs.Columns.{broken_bytes, other_fault}
use Rattle.cics_script.proofs.Passed.{Passed, passed-none, passed-end, passed-broken, passed-stuck, passed-more, behind-less, line-further, none-left, some-left}
use Rattle.cics_script.proofs.columns.token_column.Goals as goal

pub tokens-init : goal.tokens-init
tokens-init c =
    subst (λ text. Passed c.args.fault c.args.bytes.now text c.args.bytes.now) (sym c.new-front.ensures.items) (passed-none c.args.fault c.args.bytes.now)

pub returns-then-is_empty : goal.returns-then-is_empty
returns-then-is_empty c =
    passed-end c.args.fault c.args.bytes.now c.tokens.front.items c.tokens.rest.now c.tokens.invariant
    (sym c.skip_blanks-here.ensures ∙ none-left c.skip_blanks-here.result.now c.is_empty.result c.is_empty.ensures c.if-is_empty.true)

pub returns-in_default : goal.returns-in_default
returns-in_default c =
    let here = c.skip_blanks-here.result.now in
    let own = c.in_default.ensures {u = tt} in
    passed-broken c.args.fault own.0 c.args.bytes.now c.tokens.front.items c.tokens.rest.now here c.tokens.invariant c.skip_blanks-here.ensures
    (some-left here c.is_empty.result c.is_empty.ensures c.if-is_empty.false) own.1 c.requires

pub returns-then-not-branch : goal.returns-then-not-branch
returns-then-not-branch c =
    let rest = c.tokens.rest.now in
    let here = c.skip_blanks-here.result.now in
    let is = c.skip_blanks-here.ensures in
    let some = some-left here c.is_empty.result c.is_empty.ensures c.if-is_empty.false in
    let next = c.in-Some.ensures in
    let text : c.deref.result.now ≡ (c.tokens.front.items ++ c.in-Some.token.now) ++ 32 ∷ [] =
    c.deref.ensures.value ∙ c.in_ok-push.ensures.items ∙ ap (λ t. t ++ 32 ∷ []) c.in_ok-extend_from_slice.ensures.items in
    passed-stuck c.args.fault c.args.bytes.now c.tokens.front.items rest here c.in-Some.token.now c.in-Some.behind.now next.0 c.tokens.invariant is some
    next.2 (behind-less rest here c.in-Some.behind.now next.0 is some next.1) next.1 next.3 c.requires
    (λ has.
    let on : c.in_ok-is_read_on.field-0 ≡ true = c.in_ok-is_read_on.ensures.1 (ap (λ t. statement (tokens (t ++ broken_bytes c.args.fault))) text ∙ has) in
    let off : c.in_ok-is_read_on.field-0 ≡ false = c.if-not-branch.true in
    cc)

pub tokens-preserved : goal.tokens-preserved
tokens-preserved c =
    let rest = c.tokens.rest.now in
    let here = c.skip_blanks-here.result.now in
    let is = c.skip_blanks-here.ensures in
    let some = some-left here c.is_empty.result c.is_empty.ensures c.if-is_empty.false in
    let next = c.in-Some.ensures in
    let text : c.push.new.self.items ≡ (c.tokens.front.items ++ c.in-Some.token.now) ++ 32 ∷ [] =
    c.in_ok-push.ensures.items ∙ ap (λ t. t ++ 32 ∷ []) c.in_ok-extend_from_slice.ensures.items in
    let has : statement (tokens (c.deref.result.now ++ broken_bytes c.args.fault)) ≡ Err (other_fault c.args.fault) = c.in_ok-is_read_on.ensures.0 c.if-not-branch.false in
    subst (λ t. Passed c.args.fault c.args.bytes.now t c.in-Some.behind.now) (sym text)
    (passed-more c.args.fault c.args.bytes.now c.tokens.front.items rest here c.in-Some.token.now c.in-Some.behind.now next.0 c.tokens.invariant is some
    next.2 (behind-less rest here c.in-Some.behind.now next.0 is some next.1) next.1 next.3
    (ap (λ t. statement (tokens (t ++ broken_bytes c.args.fault))) (sym (c.deref.ensures.value ∙ text)) ∙ has))

pub tokens-smaller : goal.tokens-smaller
tokens-smaller c =
    let here = c.skip_blanks-here.result.now in
    let next = c.in-Some.ensures in
    (line-further c.args.fault c.args.bytes.now c.tokens.front.items c.tokens.rest.now here c.in-Some.behind.now next.0 c.tokens.invariant c.skip_blanks-here.ensures
    (some-left here c.is_empty.result c.is_empty.ensures c.if-is_empty.false) next.1).1
