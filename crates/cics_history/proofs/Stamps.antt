-- The stamps of commands, stores and units tell them, whatever bytes follow.
use Rattle.std.proofs.Common.{◌≡◌, ℕ, List, [], ◌++◌, ◌==◌, refl, sym, ap, ◌∙◌, append_assoc, map, filter, arith}
use Rattle.cics_names.specs.Keyed.{Bytes, Map}
use Rattle.cics_names.specs.Stamps.{Splits, number_stamp, text_stamp, list_stamp}
use Rattle.cics_names.proofs.Stamps.{split_two, split_lists, splits_number, splits_text, splits_both, splits_list}
use Rattle.cics_history.specs.State.{UpdateRead, EnqCount, UnitsState}
use Rattle.cics_history.specs.Serial.{done_by, store_without_others}
use Rattle.cics_history.specs.Stamps.{op_stamp, read_stamp, count_stamp, place_stamp, record_stamp, file_stamp, queue_stamp, store_stamp, unit_stamp, shared_stamp}
use Rattle.cics_history.specs.declared.ops.Op.{Op}
use Rattle.cics_history.specs.declared.ops.Op.TheVariants.{Write, Rewrite, Delete, DeleteGeneric, ReadUpdate, TsWrite, TsRewrite, TsDelete, TdWrite, TdRead, TdDelete}

-- ---- Commands

-- the number of a command's kind
abbrev kind_of : Op → ℕ
kind_of (Write f k r) = 1
kind_of (Rewrite f k r) = 2
kind_of (Delete f k) = 3
kind_of (DeleteGeneric f p) = 4
kind_of (ReadUpdate f k) = 5
kind_of (TsWrite q d) = 6
kind_of (TsRewrite q n d) = 7
kind_of (TsDelete q) = 8
kind_of (TdWrite q d) = 9
kind_of (TdRead q) = 10
kind_of (TdDelete q) = 11

-- the stamp of all that it names
abbrev rest_of : Op → List ℕ
rest_of (Write f k r) = text_stamp f ++ (text_stamp k ++ text_stamp r)
rest_of (Rewrite f k r) = text_stamp f ++ (text_stamp k ++ text_stamp r)
rest_of (Delete f k) = text_stamp f ++ text_stamp k
rest_of (DeleteGeneric f p) = text_stamp f ++ text_stamp p
rest_of (ReadUpdate f k) = text_stamp f ++ text_stamp k
rest_of (TsWrite q d) = text_stamp q ++ text_stamp d
rest_of (TsRewrite q n d) = text_stamp q ++ (number_stamp n ++ text_stamp d)
rest_of (TsDelete q) = text_stamp q
rest_of (TdWrite q d) = text_stamp q ++ text_stamp d
rest_of (TdRead q) = text_stamp q
rest_of (TdDelete q) = text_stamp q

parts_of : (op : Op) → op_stamp op ≡ number_stamp (kind_of op) ++ rest_of op
unfolding op_stamp
parts_of (Write f k r) = refl
parts_of (Rewrite f k r) = refl
parts_of (Delete f k) = refl
parts_of (DeleteGeneric f p) = refl
parts_of (ReadUpdate f k) = refl
parts_of (TsWrite q d) = refl
parts_of (TsRewrite q n d) = refl
parts_of (TsDelete q) = refl
parts_of (TdWrite q d) = refl
parts_of (TdRead q) = refl
parts_of (TdDelete q) = refl

two_texts : (x y u v : Bytes) (r s : List ℕ) → (text_stamp x ++ text_stamp u) ++ r ≡ (text_stamp y ++ text_stamp v) ++ s → (x ≡ y) × (u ≡ v) × (r ≡ s)
two_texts = split_two text_stamp text_stamp splits_text splits_text

three_texts : (x y u v z w : Bytes) (r s : List ℕ) → (text_stamp x ++ (text_stamp u ++ text_stamp z)) ++ r ≡ (text_stamp y ++ (text_stamp v ++ text_stamp w)) ++ s → (x ≡ y) × (u ≡ v) × (z ≡ w) × (r ≡ s)
three_texts x y u v z w r s e =
    let all = split_two text_stamp (λ (p : Bytes × Bytes). text_stamp p.0 ++ text_stamp p.1) splits_text (splits_both text_stamp text_stamp splits_text splits_text) x y (u, z) (v, w) r s e in
    (all.0, ap (λ (p : Bytes × Bytes). p.0) all.1, ap (λ (p : Bytes × Bytes). p.1) all.1, all.2)

-- two commands of one kind that name the same are the same
same_kind : (a b : Op) (r s : List ℕ) → kind_of a ≡ kind_of b → rest_of a ++ r ≡ rest_of b ++ s → (a ≡ b) × (r ≡ s)
same_kind (Write f k x) (Write g l y) r s n e = let h = three_texts f g k l x y r s e in (λ i. Write (h.0 i) (h.1 i) (h.2 i), h.3)
same_kind (Rewrite f k x) (Rewrite g l y) r s n e = let h = three_texts f g k l x y r s e in (λ i. Rewrite (h.0 i) (h.1 i) (h.2 i), h.3)
same_kind (Delete f k) (Delete g l) r s n e = let h = two_texts f g k l r s e in (λ i. Delete (h.0 i) (h.1 i), h.2)
same_kind (DeleteGeneric f k) (DeleteGeneric g l) r s n e = let h = two_texts f g k l r s e in (λ i. DeleteGeneric (h.0 i) (h.1 i), h.2)
same_kind (ReadUpdate f k) (ReadUpdate g l) r s n e = let h = two_texts f g k l r s e in (λ i. ReadUpdate (h.0 i) (h.1 i), h.2)
same_kind (TsWrite f k) (TsWrite g l) r s n e = let h = two_texts f g k l r s e in (λ i. TsWrite (h.0 i) (h.1 i), h.2)
same_kind (TsRewrite f m x) (TsRewrite g o y) r s n e =
    let h = split_two text_stamp (λ (p : ℕ × Bytes). number_stamp p.0 ++ text_stamp p.1) splits_text (splits_both number_stamp text_stamp splits_number splits_text) f g (m, x) (o, y) r s e in
    (λ i. TsRewrite (h.0 i) (h.1 i).0 (h.1 i).1, h.2)
same_kind (TsDelete f) (TsDelete g) r s n e = let h = splits_text f g r s e in (ap TsDelete h.0, h.1)
same_kind (TdWrite f k) (TdWrite g l) r s n e = let h = two_texts f g k l r s e in (λ i. TdWrite (h.0 i) (h.1 i), h.2)
same_kind (TdRead f) (TdRead g) r s n e = let h = splits_text f g r s e in (ap TdRead h.0, h.1)
same_kind (TdDelete f) (TdDelete g) r s n e = let h = splits_text f g r s e in (ap TdDelete h.0, h.1)
same_kind a b r s n e = absurd (omega arith)

pub splits_op : Splits op_stamp
splits_op a b r s e =
    let front = splits_number (kind_of a) (kind_of b) (rest_of a ++ r) (rest_of b ++ s)
    (sym (ap (λ t. t ++ r) (parts_of a) ∙ append_assoc (number_stamp (kind_of a)) (rest_of a) r) ∙ e ∙ ap (λ t. t ++ s) (parts_of b) ∙ append_assoc (number_stamp (kind_of b)) (rest_of b) s) in
    same_kind a b r s front.0 front.1

-- ---- Stores

pub splits_place : Splits place_stamp
splits_place = splits_both text_stamp number_stamp splits_text splits_number

pub splits_record : Splits record_stamp
splits_record = splits_both text_stamp text_stamp splits_text splits_text

pub splits_file : Splits file_stamp
splits_file = splits_both text_stamp (list_stamp record_stamp) splits_text (splits_list record_stamp splits_record)

pub splits_queue : Splits queue_stamp
splits_queue = splits_both text_stamp (list_stamp text_stamp) splits_text (splits_list text_stamp splits_text)

splits_queues : Splits (list_stamp queue_stamp)
splits_queues = splits_list queue_stamp splits_queue

pub splits_store : Splits store_stamp
splits_store a b r s e =
    let h = split_two (list_stamp file_stamp) (λ (p : Map (List Bytes) × Map (List Bytes)). list_stamp queue_stamp p.0 ++ list_stamp queue_stamp p.1)
    (splits_list file_stamp splits_file) (splits_both (list_stamp queue_stamp) (list_stamp queue_stamp) splits_queues splits_queues)
    a.files b.files (a.ts, a.td) (b.ts, b.td) r s e in
    (λ i. record { files = h.0 i; ts = (h.1 i).0; td = (h.1 i).1 }, h.2)

-- ---- Units: an update read and a count are told but for their unit

-- an update read of no unit
abbrev pub any_read : UpdateRead → UpdateRead
any_read r = record { unit = 0; file = r.file; key = r.key }

-- a count of no unit
abbrev pub any_count : EnqCount → EnqCount
any_count c = record { value = c.value; unit = 0; count = c.count }

pub splits_read : (x y : UpdateRead) (r s : List ℕ) → read_stamp x ++ r ≡ read_stamp y ++ s → (any_read x ≡ any_read y) × (r ≡ s)
splits_read x y r s e =
    let h = two_texts x.file y.file x.key y.key r s e in
    (λ i. record { unit = 0; file = h.0 i; key = h.1 i }, h.2)

pub splits_count : (x y : EnqCount) (r s : List ℕ) → count_stamp x ++ r ≡ count_stamp y ++ s → (any_count x ≡ any_count y) × (r ≡ s)
splits_count x y r s e =
    let h = split_two text_stamp number_stamp splits_text splits_number x.value y.value x.count y.count r s e in
    (λ i. record { value = h.0 i; unit = 0; count = h.1 i }, h.2)

-- the stamps of two units tell that they did the same, read the same for update, and own the same
pub split_unit : (s t : UnitsState) (u v : ℕ) (r q : List ℕ) → unit_stamp s u ++ r ≡ unit_stamp t v ++ q
    → (map (λ e. e.op) (done_by s.opening s.trace u) ≡ map (λ e. e.op) (done_by t.opening t.trace v))
    × (map any_read (filter (λ x. x.unit == u) s.reads) ≡ map any_read (filter (λ x. x.unit == v) t.reads))
    × (map any_count (filter (λ c. c.unit == u) s.counts) ≡ map any_count (filter (λ c. c.unit == v) t.counts))
    × (r ≡ q)
unfolding unit_stamp
split_unit s t u v r q e =
    let ops_s = list_stamp op_stamp (map (λ e. e.op) (done_by s.opening s.trace u)) in
    let ops_t = list_stamp op_stamp (map (λ e. e.op) (done_by t.opening t.trace v)) in
    let reads_s = list_stamp read_stamp (filter (λ x. x.unit == u) s.reads) in
    let reads_t = list_stamp read_stamp (filter (λ x. x.unit == v) t.reads) in
    let counts_s = list_stamp count_stamp (filter (λ c. c.unit == u) s.counts) in
    let counts_t = list_stamp count_stamp (filter (λ c. c.unit == v) t.counts) in
    let ops = splits_list op_stamp splits_op (map (λ e. e.op) (done_by s.opening s.trace u)) (map (λ e. e.op) (done_by t.opening t.trace v)) ((reads_s ++ counts_s) ++ r) ((reads_t ++ counts_t) ++ q)
    (sym (append_assoc ops_s (reads_s ++ counts_s) r) ∙ e ∙ append_assoc ops_t (reads_t ++ counts_t) q) in
    let reads = split_lists read_stamp read_stamp any_read any_read splits_read (filter (λ x. x.unit == u) s.reads) (filter (λ x. x.unit == v) t.reads) (counts_s ++ r) (counts_t ++ q)
    (sym (append_assoc reads_s counts_s r) ∙ ops.1 ∙ append_assoc reads_t counts_t q) in
    let counts = split_lists count_stamp count_stamp any_count any_count splits_count (filter (λ c. c.unit == u) s.counts) (filter (λ c. c.unit == v) t.counts) r q reads.1 in
    (ops.0, reads.0, counts.0, counts.1)

-- the stamps of what units share tell the store without the open units' changes, and the cursors
pub split_shared : (s t : UnitsState) (r q : List ℕ) → shared_stamp s ++ r ≡ shared_stamp t ++ q
    → (store_without_others s [] ≡ store_without_others t []) × (s.next ≡ t.next) × (r ≡ q)
unfolding shared_stamp
split_shared s t r q e =
    split_two store_stamp (list_stamp place_stamp) splits_store (splits_list place_stamp splits_place) (store_without_others s []) (store_without_others t []) s.next t.next r q e
