use Rattle.std.proofs.Common.{◌≡◌, ◌≤◌, ◌∙◌, false, true, length, sym, ap, take, drop, ℕ, arith}
use Rattle.std.specs.declared.cmp.Ordering.TheVariants.{Equal}
use Rattle.std.specs.Ordering.{nat_cmp, ordering_then, is_eq}
use Rattle.cics_names.specs.Keyed.{bytes_cmp}
use Rattle.cics_ksds.specs.Words.{number}
use Rattle.cics_ksds.proofs.Words.{by_numbers, compared, decided}
use Rattle.cics_ksds.proofs.comparing.order_of.Goals as goal
use Rattle.cics_ksds.proofs.comparing.order_of.Goals.{After-word_of-y, else-left-gt-BYTES-via-then-left-gt-BYTES+else-is_eq, else-left-gt-BYTES-via-else-left-gt-BYTES}

-- how the keys compare by their first words
by_words : (c : After-word_of-y) → ordering_then (nat_cmp c.word_of-x.result c.word_of-y.result) (bytes_cmp (drop 8 c.args.left.now) (drop 8 c.args.right.now)) ≡ bytes_cmp c.args.left.now c.args.right.now
by_words c =
    let first = c.word_of-x.ensures in
    let second = c.word_of-y.ensures in
    ap (λ (x : ℕ). ordering_then (nat_cmp x c.word_of-y.result) (bytes_cmp (drop 8 c.args.left.now) (drop 8 c.args.right.now))) first.value
    ∙ ap (λ (y : ℕ). ordering_then (nat_cmp (number 0 (take 8 c.args.left.now)) y) (bytes_cmp (drop 8 c.args.left.now) (drop 8 c.args.right.now))) second.value
    ∙ sym (compared 8 0 c.args.left.now c.args.right.now (omega (arith, c.if-left-lt-WORD.false)) (omega (arith, c.if-right-lt-WORD.false)) first.bytes second.bytes)

pub returns-then-x-y : goal.returns-then-x-y
returns-then-x-y c = c.cmp-then-x-y.ensures ∙ sym (decided _ _ _ c.if-x-y.true) ∙ by_words (goal.at.returns-then-x-y c).After-word_of-y

pub returns-else-left-gt-BYTES : goal.returns-else-left-gt-BYTES
returns-else-left-gt-BYTES c =
    by_numbers c.args.left.now c.args.right.now c.of.result c.of-2.result c.of.ensures c.of-2.ensures c.if-left-right.false c.order-order.result c.order-order.ensures few
  where
    few : c.order-order.result ≡ Equal → length c.args.left.now ≤ 16
    few tie = elim c.else-left-gt-BYTES.branch [
      | else-left-gt-BYTES-via-then-left-gt-BYTES+else-is_eq w ↦ let wrong : false ≡ true = sym w.if-is_eq.false ∙ w.is_eq.ensures ∙ ap is_eq tie in cc
      | else-left-gt-BYTES-via-else-left-gt-BYTES w ↦ omega (arith, w.if-left-gt-BYTES.false)
    ]
