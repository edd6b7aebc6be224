use Rattle.std.proofs.Common.{◌≡◌, ◌∙◌, [], ◌∷◌, ◌++◌, length, sym, refl, None}
use Rattle.cics_enqueue.specs.Kept.{table_of}
use Rattle.cics_history.specs.Resources.{bytes_of}
use Rattle.cics_enqueue.specs.Table.{held_with_prefix, holder_of_shorter}
use Rattle.cics_enqueue.specs.FreedomLaws.{free_if_none}
use Rattle.cics_history.specs.declared.resources.Resource.TheVariants.{FilePrefix}
use Rattle.cics_enqueue.proofs.Least.{least_if_some}
use Rattle.cics_enqueue.proofs.Tables.{in_order}
use Rattle.cics_enqueue.proofs.Owning.{none_from}
use Rattle.cics_enqueue.proofs.Seeking.{first_of-found, first_of-passed, shorter-none, shorter-table_of, least_under-shown}
use Rattle.cics_enqueue.proofs.enqueues.Enqueues.held_with_prefix.Goals as goal
use Rattle.cics_enqueue.proofs.enqueues.Enqueues.held_with_prefix.Goals.{then-has_prefixes+else-is_some, else-has_prefixes}

pub returns-then-is_some : goal.returns-then-is_some
returns-then-is_some c =
    let shorter = c.shorter_holder-shorter.ensures ∙ sym (shorter-table_of c.args.file c.args.but_not c.self.inside.table.entries c.self.invariant.keys c.args.prefix.now []) in
    let value : c.shorter_holder-shorter.result ≡ held_with_prefix c.args.file c.args.prefix.now c.args.but_not c.args.self.now = rw (← c.self.view_is) (first_of-found _ _ _ shorter (sym c.if-is_some.ensures)) in
    record { value = value; free = free_if_none _ _ (FilePrefix c.args.file (bytes_of c.args.prefix.now)) _ value; least = least_if_some _ _ (FilePrefix c.args.file (bytes_of c.args.prefix.now)) _ (in_order c.self.view_is c.self.invariant) value }

pub returns : goal.returns
returns c =
    let es = c.self.inside.table.entries in
    let f = c.args.file in
    let p = c.args.prefix.now in
    let shorter : holder_of_shorter f [] p c.args.but_not (table_of es) ≡ None = elim c.if-has_prefixes.branch [
      | then-has_prefixes+else-is_some w ↦ shorter-table_of f c.args.but_not es c.self.invariant.keys p [] ∙ sym w.shorter_holder-shorter.ensures ∙ none_from _ (sym w.if-is_some.ensures)
      | else-has_prefixes w ↦ shorter-none f p c.args.but_not es c.self.invariant.keys w.if-has_prefixes.ensures
    ] in
    let value : c.least_holder-least.result ≡ held_with_prefix f p c.args.but_not c.args.self.now = rw (← c.self.view_is) (first_of-passed None _ _ _ (sym shorter) refl
    (c.least_holder-least.ensures ∙ sym (least_under-shown f p c.args.but_not es c.self.invariant.keys (1 ∷ length f ∷ (f ++ p)) (0 ∷ length f ∷ (f ++ p)) refl refl))) in
    record { value = value; free = free_if_none _ _ (FilePrefix f (bytes_of p)) _ value; least = least_if_some _ _ (FilePrefix f (bytes_of p)) _ (in_order c.self.view_is c.self.invariant) value }
