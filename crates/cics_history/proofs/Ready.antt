-- A command that is ready names a key or a prefix of no more bytes than a key may have.
use Rattle.std.specs.Prelude.{◌≡◌, ℕ, ◌≤◌, true, Option, Some, None, nat_le, drop, length, refl}
use Rattle.std.proofs.Common.{subst, arith}
use Rattle.std.proofs.lemmas.Bool.{and_parts, leb-true, false≢true}
use Rattle.std.proofs.lemmas.List.{length-take}
use Rattle.cics_names.specs.Keyed.{Bytes, value_at, has_key}
use Rattle.cics_names.specs.KeyedLaws.{is_same-eq}
use Rattle.cics_ksds.specs.Files.{key_of as key_in, fits_file}
use Rattle.cics_ksds.specs.declared.definition.FileDef.{FileDef}
use Rattle.cics_history.specs.State.{FileOpening, UnitsState}
use Rattle.cics_history.specs.Openings.{HasLawfulKeys, is_key}
use Rattle.cics_history.specs.Records.{key_of}
use Rattle.cics_history.specs.Execution.{is_fit_for, is_ready_op}
use Rattle.cics_history.specs.declared.ops.Op.{Op}
use Rattle.cics_history.specs.declared.ops.Op.TheVariants.{Write, Rewrite, Delete, DeleteGeneric, ReadUpdate, TsWrite, TsRewrite, TsDelete, TdWrite, TdRead, TdDelete}

-- the key that lies in a record is no longer than a lawful definition allows
key_short : (d : FileDef) (r : Bytes) → is_key d ≡ true → length (key_in d r) ≤ 255
key_short d r lawful =
    let taken = length-take d.key_length (drop d.key_offset r) in
    let at_most = leb-true d.key_length 255 (and_parts (nat_le 1 d.key_length) _ (and_parts _ _ lawful).0).1 in
    omega (arith, taken, at_most)

-- so is the key of a record that fits its file
fit_short : (file : Option FileOpening) (k r : Bytes) → ((f : FileOpening) → file ≡ Some f → is_key f.definition ≡ true) →
    is_fit_for file k r ≡ true → length k ≤ 255
fit_short None k r lawful fits = absurd (false≢true fits)
fit_short (Some f) k r lawful fits =
    let same = is_same-eq (key_in f.definition r) k (and_parts (fits_file f.definition r) _ fits).1 in
    subst (λ x. length x ≤ 255) same (key_short f.definition r (lawful f refl))

-- where the definitions of all files are lawful, a command that is ready has a short key or prefix
pub ready_short : (s : UnitsState) (u : Option ℕ) (op : Op) → HasLawfulKeys s.opening → is_ready_op s u op ≡ true →
    length (key_of op) ≤ 255
ready_short s u (Write f k r) lawful ready = fit_short (value_at f s.opening.files) k r (lawful f) ready
ready_short s u (Rewrite f k r) lawful ready =
    fit_short (value_at f s.opening.files) k r (lawful f) (and_parts (is_fit_for (value_at f s.opening.files) k r) _ ready).0
ready_short s u (Delete f k) lawful ready = leb-true (length k) 255 (and_parts (has_key f s.opening.files) _ ready).1
ready_short s u (DeleteGeneric f p) lawful ready = leb-true (length p) 255 (and_parts (has_key f s.opening.files) _ ready).1
ready_short s u (ReadUpdate f k) lawful ready =
    leb-true (length k) 255 (and_parts (has_key f s.opening.files) _ (and_parts _ _ ready).0).1
ready_short s u (TsWrite q d) lawful ready = omega arith
ready_short s u (TsRewrite q n d) lawful ready = omega arith
ready_short s u (TsDelete q) lawful ready = omega arith
ready_short s u (TdWrite q d) lawful ready = omega arith
ready_short s u (TdRead q) lawful ready = omega arith
ready_short s u (TdDelete q) lawful ready = omega arith
