use Rattle.std.proofs.Common.{◌≡◌, ◌≤◌, ◌∙◌, ℕ, length, take, drop, arith, refl, sym, nat_cmp}
use Rattle.std.specs.Ordering.{ordering_then}
use Rattle.std.specs.declared.cmp.Ordering.{Ordering}
use Rattle.std.specs.declared.cmp.Ordering.TheVariants.{Less, Equal, Greater}
use Rattle.std.proofs.Math.ListN.{drop_of_length-le}
use Rattle.cics_names.specs.Keyed.{Bytes, bytes_cmp}
use Rattle.cics_ksds.specs.Words.{number, AreBytes}
use Rattle.cics_ksds.proofs.Words.{compared, decided, tied}
use Rattle.cics_enqueue.proofs.keys.head_order.Goals as goal

-- nothing comes behind
ended : (o : Ordering) → ordering_then o Equal ≡ o
ended Less = refl
ended Equal = refl
ended Greater = refl

module _ (u v : Bytes) (x y : ℕ) (p : 8 ≤ length u) (q : 8 ≤ length v) (bu : AreBytes 8 u) (bv : AreBytes 8 v) (is : x ≡ number 0 (take 8 u)) (also : y ≡ number 0 (take 8 v)) where
  -- two words, and then what comes behind them, decide
  by_word : bytes_cmp u v ≡ ordering_then (nat_cmp x y) (bytes_cmp (drop 8 u) (drop 8 v))
  by_word = compared 8 0 u v p q bu bv ∙ (λ i. ordering_then (nat_cmp (sym is i) (sym also i)) (bytes_cmp (drop 8 u) (drop 8 v)))

  -- words that differ decide
  by_first : (x ≡ y → ⊥) → nat_cmp x y ≡ bytes_cmp u v
  by_first differ = sym (by_word ∙ decided x y (bytes_cmp (drop 8 u) (drop 8 v)) differ)

  -- behind words that are one number the rest decides
  by_rest : x ≡ y → bytes_cmp (drop 8 u) (drop 8 v) ≡ bytes_cmp u v
  by_rest same = sym (by_word ∙ tied x y (bytes_cmp (drop 8 u) (drop 8 v)) same)

  -- words that are all there is decide
  by_all : length u ≤ 8 → length v ≤ 8 → nat_cmp x y ≡ bytes_cmp u v
  by_all few also_few = sym (by_word ∙ (λ i. ordering_then (nat_cmp x y) (bytes_cmp (drop_of_length-le u few i) (drop_of_length-le v also_few i))) ∙ ended (nat_cmp x y))

pub returns-then-first-other_first : goal.returns-then-first-other_first
returns-then-first-other_first c =
    c.cmp.ensures
    ∙ by_first c.args.left.now c.args.right.now c.word_of-first.result c.word_of-other_first.result (omega (arith, c.told-left)) (omega (arith, c.told-right)) c.word_of-first.ensures.bytes c.word_of-other_first.ensures.bytes c.word_of-first.ensures.value c.word_of-other_first.ensures.value c.if-first-other_first.true

pub returns-then-second-other_second : goal.returns-then-second-other_second
returns-then-second-other_second c =
    let left : Bytes = c.split_at.result.1.now in
    let right : Bytes = c.split_at-2.result.1.now in
    let long : length left ≡ 16 = omega (arith, c.split_at.ensures.back_len, c.told-left) in
    let other_long : length right ≡ 16 = omega (arith, c.split_at-2.ensures.back_len, c.told-right) in
    c.cmp-then-second-other_second.ensures
    ∙ by_first left right c.word_of-second.result c.word_of-other_second.result (omega (arith, long)) (omega (arith, other_long)) c.word_of-second.ensures.bytes c.word_of-other_second.ensures.bytes c.word_of-second.ensures.value c.word_of-other_second.ensures.value c.if-second-other_second.true
    ∙ (λ i. bytes_cmp (c.split_at.ensures.back i) (c.split_at-2.ensures.back i))
    ∙ by_rest c.args.left.now c.args.right.now c.word_of-first.result c.word_of-other_first.result (omega (arith, c.told-left)) (omega (arith, c.told-right)) c.word_of-first.ensures.bytes c.word_of-other_first.ensures.bytes c.word_of-first.ensures.value c.word_of-other_first.ensures.value c.if-first-other_first.false

pub returns : goal.returns
returns c =
    let left : Bytes = c.split_at.result.1.now in
    let right : Bytes = c.split_at-2.result.1.now in
    let last : Bytes = c.split_at-3.result.1.now in
    let other_last : Bytes = c.split_at-4.result.1.now in
    let long : length left ≡ 16 = omega (arith, c.split_at.ensures.back_len, c.told-left) in
    let other_long : length right ≡ 16 = omega (arith, c.split_at-2.ensures.back_len, c.told-right) in
    let short : length last ≡ 8 = omega (arith, c.split_at-3.ensures.back_len, long) in
    let other_short : length other_last ≡ 8 = omega (arith, c.split_at-4.ensures.back_len, other_long) in
    c.cmp-2.ensures
    ∙ by_all last other_last c.word_of.result c.word_of-2.result (omega (arith, short)) (omega (arith, other_short)) c.word_of.ensures.bytes c.word_of-2.ensures.bytes c.word_of.ensures.value c.word_of-2.ensures.value (omega (arith, short)) (omega (arith, other_short))
    ∙ (λ i. bytes_cmp (c.split_at-3.ensures.back i) (c.split_at-4.ensures.back i))
    ∙ by_rest left right c.word_of-second.result c.word_of-other_second.result (omega (arith, long)) (omega (arith, other_long)) c.word_of-second.ensures.bytes c.word_of-other_second.ensures.bytes c.word_of-second.ensures.value c.word_of-other_second.ensures.value c.if-second-other_second.false
    ∙ (λ i. bytes_cmp (c.split_at.ensures.back i) (c.split_at-2.ensures.back i))
    ∙ by_rest c.args.left.now c.args.right.now c.word_of-first.result c.word_of-other_first.result (omega (arith, c.told-left)) (omega (arith, c.told-right)) c.word_of-first.ensures.bytes c.word_of-other_first.ensures.bytes c.word_of-first.ensures.value c.word_of-other_first.ensures.value c.if-first-other_first.false
