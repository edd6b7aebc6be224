-- What the numbers of a queue's items say of its list.
use Rattle.std.proofs.Common.{◌≡◌, ◌-◌, ◌<◌, ◌≤◌, ℕ, Bool, false, [], None, slice_get, if◌then◌else◌, ap, arith}
use Rattle.std.proofs.lemmas.Bool.{false_from_ne_true}
use Rattle.cics_tempstor.specs.Queues.{has_item, number_if, row_answer, item_condition}
use Rattle.cics_names.specs.Keyed.{Bytes}
use Rattle.cics_tempstor.specs.Undo.{rewritten_image, image_if, item_at}
use Rattle.cics_tempstor.specs.UndoLaws.{has_item-within}
use Rattle.cics_tempstor.specs.declared.images.Before.TheVariants.{Replaced}
use Rattle.cics_tempstor.specs.declared.answers.TsRead.{TsRead}
use Rattle.cics_names.specs.declared.conditions.Condition.TheVariants.{Normal, Qiderr}

-- no item of an absent queue is there
pub has_item-none : (n : ℕ) → has_item [] n ≡ false
has_item-none n = false_from_ne_true (has_item [] n) (λ e.
    let within = has_item-within [] n e in
    let above : 0 < n = within.0 in
    let below : n ≤ 0 = within.1 in
    omega arith)

-- so an absent queue gives no item, and is QIDERR
pub row_answer-none : (n : ℕ) → row_answer [] n ≡ record { condition = Qiderr; number = None; content = None }
row_answer-none n = (λ i. answer_if (has_item-none n i))
  where
    answer_if : Bool → TsRead
    answer_if b = record { condition = if b then Normal else Qiderr; number = number_if b n; content = if b then slice_get [] (n - 1) else None }

-- nor is one replaced
pub rewrite_none : (keep : Bool) (q : Bytes) (n : ℕ) → (item_condition [] n ≡ Qiderr) × (number_if (has_item [] n) n ≡ None) × (rewritten_image keep q [] n ≡ None)
rewrite_none keep q n = (
  ap (λ b. if b then Normal else Qiderr) (has_item-none n),
  ap (λ b. number_if b n) (has_item-none n),
  ap (λ b. if b then image_if keep q (Replaced n (item_at [] n)) else None) (has_item-none n),
)
