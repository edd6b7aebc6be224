use Rattle.std.proofs.Common.{◌≡◌, ◌∷◌, true, refl, sym, ap, ◌∙◌}
use Rattle.std.specs.Prelude.{is_some}
use Rattle.std.specs.List.{filter}
use Rattle.std.specs.Map.{lookup}
use Rattle.std.specs.BTreeMap.{is_at}
use Rattle.cics_names.specs.Keyed.{Bytes, bytes_cmp, has_key}
use Rattle.cics_ksds.specs.Prefixes.{has_prefix, under}
use Rattle.cics_history.proofs.Entries.{value_at-looked_up}
use Rattle.cics_units.proofs.OfReplay.Under.{is_reached, reached_there, none_reached, first_beside}
use Rattle.cics_units.proofs.replay.replay.records.PlainRecords.first_under.Goals as goal
use Rattle.cics_units.proofs.replay.replay.records.PlainRecords.first_under.Goals.{in_default-via-in-Some+else-starts_with, in_default-via-in_default}

-- the bytes that are compared are those of the prefix and of the key
begins_by : (p k : Bytes) → {q l : Bytes} → q ≡ p → l ≡ k → has_prefix p k ≡ has_prefix q l
begins_by p k start bytes i = has_prefix (sym start i) (sym bytes i)

pub returns-in_ok-copy-in-Some-clause-found : goal.returns-in_ok-copy-in-Some-clause-found
returns-in_ok-copy-in-Some-clause-found c =
    let p = c.args.prefix.now in
    let es = c.self.inside.rows.entries in
    let e : Bytes × Bytes = (c.in-Some.key.now, c.in-Some.field-0-1.now) in
    let reached : filter (is_reached p) es ≡ e ∷ c.next.new.self = sym (c.range.ensures.between tt) ∙ c.in-Some.ensures.steps in
    let begins : has_prefix p e.0 ≡ true = begins_by p e.0 c.bytes-start.ensures c.bytes.ensures ∙ sym c.starts_with.ensures.value ∙ c.if-starts_with.true in
    let there : has_key e.0 c.args.self.now ≡ true =
    ap is_some (value_at-looked_up e.0 es c.args.self.now (lookup (is_at (bytes_cmp e.0)) es) refl c.self.view_is) ∙ reached_there p es e _ reached in
    let same : c.in_ok-copy-in-Some.field-0 ≡ e.0 = c.in_ok-copy-in-Some.ensures in
    (ap (has_prefix p) same ∙ begins, ap (λ k. has_key k c.args.self.now) same ∙ there)

pub returns-in_default-clause-none : goal.returns-in_default-clause-none
returns-in_default-clause-none c =
    let p = c.args.prefix.now in
    let es = c.self.inside.rows.entries in
    ap (under p) (sym c.self.view_is) ∙ elim c.in_default.branch [
      | in_default-via-in-Some+else-starts_with w ↦
          let e : Bytes × Bytes = (w.in-Some.key.now, w.in-Some.field-0-1.now) in
          first_beside p es c.self.invariant e _ (sym (c.range.ensures.between tt) ∙ w.in-Some.ensures.steps)
          (begins_by p e.0 c.bytes-start.ensures w.bytes.ensures ∙ sym w.starts_with.ensures.value ∙ w.if-starts_with.false)
      | in_default-via-in_default w ↦ none_reached p es (sym (c.range.ensures.between tt) ∙ w.in_default.ensures.steps.0)
    ]
