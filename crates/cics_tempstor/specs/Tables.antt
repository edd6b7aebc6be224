-- The rows as the code has them: in a hash table. No contract of the store names its order.
use Rattle.std.specs.Prelude.{ℕ, nat_lt, List, [], ◌∷◌, filter}
use Rattle.cics_names.specs.Keyed.{Bytes, Map, with_value}
use Rattle.cics_tempstor.specs.declared.queue_rows.Row.{Row}
use Rattle.cics_tempstor.specs.Queues.{Queue, is_there, place_of}

-- the entries of the hash table in the order of their names, each as f of its row
abbrev pub in_order : {X : Type 0} → (Row → X) → List (Bytes × Row) → Map X
in_order f [] = []
in_order f (e ∷ es) = with_value e.0 (f e.1) (in_order f es)

-- the rows themselves
abbrev pub rows_of : List (Bytes × Row) → Map Row
rows_of es = in_order (λ row. row) es

-- the items in them
abbrev pub lists_of : List (Bytes × Row) → Map Queue
lists_of es = in_order (λ row. row.items) es

-- the queues that are there
abbrev pub those_there : Map Queue → Map Queue
those_there lists = filter (λ e. is_there e.1) lists

-- the NEXT cursors in them, those that are 0 as well
abbrev pub cursors_of : List (Bytes × Row) → Map ℕ
cursors_of es = in_order place_of es

-- the cursors that aren't 0
abbrev pub those_set : Map ℕ → Map ℕ
those_set cursors = filter (λ e. nat_lt 0 e.1) cursors
