use Rattle.std.proofs.Common.{◌∙◌, ◌∷◌, ◌++◌, [], length, refl, sym}
use Rattle.cics_history.specs.Resources.{bytes_of}
use Rattle.cics_enqueue.specs.Table.{first_of}
use Rattle.cics_history.specs.declared.resources.Resource.TheVariants.{FileKey, FilePrefix}
use Rattle.cics_enqueue.proofs.Seeking.{shorter-table_of, other_than-table_of}
use Rattle.cics_enqueue.proofs.enqueues.Enqueues.holder_of_key.Goals as goal

pub returns : goal.returns
returns c =
    let es = c.self.inside.table.entries in
    let asker = c.args.asker.now in
    let f = c.args.file in
    let k = c.args.key.now in
    let keys = c.self.invariant.keys in
    rw (← c.self.view_is) (c.key_holder-holder.ensures ∙ sym (λ i. first_of (shorter-table_of f asker es keys k [] i) (first_of
    (other_than-table_of (FileKey f (bytes_of k)) (1 ∷ length f ∷ (f ++ k)) refl asker es keys i)
    (other_than-table_of (FilePrefix f (bytes_of k)) (0 ∷ length f ∷ (f ++ k)) refl asker es keys i))))
