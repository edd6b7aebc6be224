-- What a command on a file acts on: keys of its file, and no queue.
use Rattle.std.specs.Prelude.{◌≡◌, Bool, true, false, not, refl}
use Rattle.std.proofs.Common.{sym, ap, ◌∙◌}
use Rattle.std.proofs.lemmas.Bool.{true≢false, false≢true}
use Rattle.cics_names.specs.Keyed.{Bytes}
use Rattle.cics_images.specs.Cells.{is_other}
use Rattle.cics_images.specs.NamedLaws.{split_cell}
use Rattle.cics_history.specs.Cells.{Cell, Key, Td, cell_of as cell_of_op, same_cell, touches, Writing, uses}
use Rattle.cics_history.specs.Records.{is_file_op, file_of, key_of}
use Rattle.cics_history.specs.declared.ops.Op.{Op}
use Rattle.cics_history.specs.declared.ops.Op.TheVariants.{Write, Rewrite, Delete, DeleteGeneric, ReadUpdate, TdWrite, TdRead, TdDelete}
use Rattle.cics_history.proofs.Joining.{same_cell-true, same_cell-refl}
use Rattle.cics_units.specs.Opening.FilesImages.{cell_of}
use Rattle.cics_units.specs.Opening.StoreMatching.{bytes_of}
use Rattle.cics_units.specs.Parts.{is_below_prefix, leaves, leaves_any}
use Rattle.cics_units.proofs.StoreMatched.{same_bytes}

-- the cell that it names is a key of its file
pub key_op : (op : Op) → is_file_op op ≡ true → cell_of_op op ≡ Key (file_of op) (key_of op)
key_op (Write f k r) file = refl
key_op (Rewrite f k r) file = refl
key_op (Delete f k) file = refl
key_op (DeleteGeneric f p) file = refl
key_op (ReadUpdate f k) file = refl
key_op _ file = absurd (false≢true file)

-- it uses the writing end of its cells
pub writes_op : (op : Op) → is_file_op op ≡ true → uses op Writing ≡ true
writes_op (TdRead q) file = absurd (false≢true file)
writes_op _ file = refl

-- it acts on no transient data queue
pub no_queue_op : (op : Op) → is_file_op op ≡ true → (q : Bytes) → touches op (Td q) ≡ false
no_queue_op (TdWrite r d) file q = absurd (false≢true file)
no_queue_op (TdRead r) file q = absurd (false≢true file)
no_queue_op (TdDelete r) file q = absurd (false≢true file)
no_queue_op _ file q = refl

-- what is so if its denial isn't
denied : (b : Bool) → not b ≡ false → b ≡ true
denied true h = refl
denied false h = absurd (true≢false h)

-- a cell whose bytes aren't other than a cell's is that cell
pub same_from : (x y : Cell) → is_other (bytes_of x) (bytes_of y) ≡ false → y ≡ x
same_from x y h = same_cell-true y x (sym (same_bytes y x) ∙ denied _ h)

-- a key that isn't left by a command on its one record is its own
one_touched : (f g k l : Bytes) → is_other (cell_of f k) (cell_of g l) ≡ false → same_cell (Key f k) (Key g l) ≡ true
one_touched f g k l h = ap (same_cell (Key f k)) (same_from (Key f k) (Key g l) h) ∙ same_cell-refl (Key f k)

-- a key that a command doesn't leave is one that it acts on
pub touched_from : (op : Op) → is_file_op op ≡ true → (g l : Bytes) → leaves op (cell_of g l) ≡ false → touches op (Key g l) ≡ true
touched_from (Write f k r) file g l h = one_touched f g k l h
touched_from (Rewrite f k r) file g l h = one_touched f g k l h
touched_from (Delete f k) file g l h = one_touched f g k l h
touched_from (ReadUpdate f k) file g l h = one_touched f g k l h
touched_from (DeleteGeneric f p) file g l h = ap (is_below_prefix f p) (sym (split_cell g l)) ∙ denied _ h
touched_from _ file g l h = absurd (false≢true file)

-- so it is of any cell of the store: a command on a file leaves each queue
pub acted_on : (op : Op) → is_file_op op ≡ true → (x : Cell) → leaves_any op (bytes_of x) ≡ false → touches op x ≡ true
acted_on op file (Key g l) h = touched_from op file g l h
acted_on op file _ h = absurd (true≢false h)
