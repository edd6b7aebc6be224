use Rattle.std.proofs.Common.{ℕ, ◌≡◌, ◌∙◌, Option, Some, None, false, refl, sym, ap}
use Rattle.std.specs.Map.{lookup}
use Rattle.cics_names.specs.Keyed.{Bytes, is_same}
use Rattle.cics_enqueue.specs.declared.enqueues.Holding.{Holding}
use Rattle.cics_enqueue.specs.Kept.{Entries, Owned, IsKept, is_units, owns, table_of}
use Rattle.cics_enqueue.specs.Table.{given_back, resource_key}
use Rattle.cics_enqueue.specs.Order.{resource_of}
use Rattle.cics_enqueue.proofs.Tables.{own_key, read_back, given_back-free, given_back-foreign, unheld}
use Rattle.cics_enqueue.proofs.enqueues.Enqueues.let_go_keyless.Goals as goal

pub lessen-requires : goal.lessen-requires
lessen-requires c = record { key = own_key c.args.resource.now c.in-Some.key.now (c.in-Some.ensures.found ∙ c.as_slice.ensures.value ∙ c.compact-bytes.ensures) }

pub invariant_of-self : goal.invariant_of-self
invariant_of-self c = c.lessen.ensures.kept c.self.inside.owned.entries c.self.invariant

pub returns-in-Some : goal.returns-in-Some
returns-in-Some c =
    let is = c.in-Some.ensures.found ∙ c.as_slice.ensures.value ∙ c.compact-bytes.ensures in
    c.lessen.ensures.given c.self.inside.owned.entries c.self.invariant ∙ (λ i. given_back (c.self.view_is i) (read_back c.args.resource.now c.in-Some.key.now is i) c.args.unit)

-- a unit doesn't own what isn't in its list
unlisted : (es : Entries) (own : Owned) → IsKept es own → (bytes : Bytes) (unit : ℕ) → resource_key (resource_of bytes) ≡ bytes → owns own unit bytes ≡ false → given_back (table_of es) (resource_of bytes) unit ≡ table_of es
unlisted es own kept bytes unit is none = by (lookup (is_same bytes) es) refl
  where
    by : (o : Option Holding) → lookup (is_same bytes) es ≡ o → given_back (table_of es) (resource_of bytes) unit ≡ table_of es
    by None at = given_back-free (resource_of bytes) bytes (sym is) es kept.keys at unit
    by (Some h) at =
        given_back-foreign (resource_of bytes) bytes (sym is) es kept.keys h at unit (sym (ap (is_units unit) at) ∙ unheld es own unit bytes kept.owned none)

pub returns-in_default : goal.returns-in_default
returns-in_default c =
    let r = c.args.resource.now in
    let bytes = c.as_slice.result.now in
    let is = c.as_slice.ensures.value ∙ c.compact-bytes.ensures in
    let es = c.self.inside.table.entries in
    rw (← c.self.view_is) (sym (sym (ap (λ q. given_back (table_of es) q c.args.unit) (read_back r bytes is)) ∙ unlisted es c.self.inside.owned.entries c.self.invariant bytes c.args.unit (own_key r bytes is) c.in_default.ensures.none))
