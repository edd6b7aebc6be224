use Rattle.std.proofs.Common.{◌≡◌, ◌∙◌, ◌∷◌, ◌++◌, length, drop, refl, sym, ap, Some}
use Rattle.std.specs.Prelude.{if◌then◌else◌}
use Rattle.std.specs.Option.{option_map}
use Rattle.std.specs.Ordering.{is_lt, is_some_and}
use Rattle.std.specs.Cmp.Lexicographic.{lists_agrees}
use Rattle.cics_names.specs.Keyed.{bytes_cmp, is_below}
use Rattle.cics_enqueue.specs.Kept.{first_entry, is_others_under, bytes_and_unit, least_shown}
use Rattle.cics_enqueue.proofs.Seeking.{lesser_of-two}
use Rattle.cics_enqueue.proofs.conflicts.Search.least_holder.Goals as goal
use Rattle.cics_enqueue.proofs.conflicts.Search.least_holder.Goals.{After-lt}

-- of a key and a prefix the lesser decides
least : (c : After-lt) → least_shown c.args.file c.args.prefix.now c.args.self.now.asker c.args.self.now.table.now.entries
    ≡ Some (if is_below (drop 1 c.in-Some-first_under-2.prefix.0.now) (drop 1 c.in-Some.key.0.now) then c.in-Some-first_under-2.prefix.1 else c.in-Some.key.1)
least c =
    let es = c.args.self.now.table.now.entries in
    let key : option_map bytes_and_unit (first_entry (is_others_under (1 ∷ length c.args.file ∷ (c.args.file ++ c.args.prefix.now)) c.args.self.now.asker) es)
    ≡ Some (c.in-Some.key.0.now, c.in-Some.key.1)
    = ap (λ b. option_map bytes_and_unit (first_entry (is_others_under b c.args.self.now.asker) es)) (sym (c.as_slice.ensures.value ∙ c.file_bytes-keys.ensures.value))
    ∙ sym c.first_under.ensures ∙ ap (option_map (λ p. (p.0.now, p.1))) c.in-Some.is in
    let prefix : option_map bytes_and_unit (first_entry (is_others_under (0 ∷ length c.args.file ∷ (c.args.file ++ c.args.prefix.now)) c.args.self.now.asker) es)
    ≡ Some (c.in-Some-first_under-2.prefix.0.now, c.in-Some-first_under-2.prefix.1)
    = ap (λ b. option_map bytes_and_unit (first_entry (is_others_under b c.args.self.now.asker) es)) (sym (c.as_slice-2.ensures.value ∙ c.file_bytes-prefixes.ensures.value))
    ∙ sym c.first_under-2.ensures ∙ ap (option_map (λ p. (p.0.now, p.1))) c.in-Some-first_under-2.is in
    lesser_of-two _ _ c.in-Some.key.0.now c.in-Some-first_under-2.prefix.0.now c.in-Some.key.1 c.in-Some-first_under-2.prefix.1 key prefix

-- whether the prefix is the lesser
below : (c : After-lt) → is_below (drop 1 c.in-Some-first_under-2.prefix.0.now) (drop 1 c.in-Some.key.0.now) ≡ c.lt.result
below c =
    (λ i. is_lt (bytes_cmp (sym c.after_kind.ensures i) (sym c.after_kind-2.ensures i)))
    ∙ sym (ap (is_some_and is_lt) (lists_agrees (λ x y. refl) c.after_kind.result.now c.after_kind-2.result.now)) ∙ sym c.lt.ensures

pub returns-then-lt : goal.returns-then-lt
returns-then-lt c =
    let here = (goal.at.returns-then-lt c).After-lt in
    sym (least here ∙ ap (λ b. Some (if b then c.in-Some-first_under-2.prefix.1 else c.in-Some.key.1)) (below here ∙ c.if-lt.true))

pub returns-else-lt : goal.returns-else-lt
returns-else-lt c =
    let here = (goal.at.returns-else-lt c).After-lt in
    sym (least here ∙ ap (λ b. Some (if b then c.in-Some-first_under-2.prefix.1 else c.in-Some.key.1)) (below here ∙ c.if-lt.false))
