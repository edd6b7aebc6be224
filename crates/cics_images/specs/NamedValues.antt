-- Values by name as one value whose changes are undone: a cell is a name with a cell of the value
-- of that name. Every law ranges over all lists, also over those whose names don't rise.
use Rattle.std.specs.Prelude.{Bool, false, if◌then◌else◌, nat_le, Option, Some, None, [], ◌∷◌, ◌++◌, length, take, drop}
use Rattle.std.specs.Option.{option_map}
use Rattle.cics_names.specs.Keyed.{Bytes, Map, value_at, with_value}
use Rattle.cics_images.specs.Cells.{Cell, Content}
use Rattle.cics_images.specs.declared.named.NamedImage.{NamedImage}

-- the cell of a value: the length of the value's name, the name, the cell
abbrev pub cell_of : Bytes → Cell → Cell
cell_of name c = length name ∷ (name ++ c)

-- a cell as a name and a cell of the value; none if the bytes are too short for a name of that
-- length
abbrev pub split : Cell → Option (Bytes × Cell)
split [] = None
split (n ∷ rest) = if nat_le n (length rest) then Some (take n rest, drop n rest) else None

-- a function of a value that may be there
abbrev pub of_value : {M A : Type 0} → A → (M → A) → Option M → A
of_value none f None = none
of_value none f (Some m) = f m

-- a function of the value that a cell is of
abbrev pub of_split : {M A : Type 0} → A → (M → Cell → A) → Map M → Option (Bytes × Cell) → A
of_split none f s None = none
of_split none f s (Some e) = of_value none (λ m. f m e.1) (value_at e.0 s)

-- what a cell contains: nothing if no value has its name
abbrev pub named_content : {M : Type 0} → (M → Cell → Content) → Map M → Cell → Content
named_content content s c = of_split None content s (split c)

-- whether something is held back at a cell
abbrev pub named_holds : {M : Type 0} → (M → Cell → Bool) → Map M → Cell → Bool
named_holds holds_back s c = of_split false holds_back s (split c)

-- the cell that an image is of
abbrev pub named_cell : {I : Type 0} → (I → Cell) → NamedImage I → Cell
named_cell cell i = cell_of i.name (cell i.image)

-- an image is ready if its value is there and finds it ready
abbrev pub IsReadyIn : {M I : Type 0} → (M → I → Type 0) → Option M → I → Type 0
IsReadyIn IsReady None i = ⊥
IsReadyIn IsReady (Some m) i = IsReady m i

-- an image is ready for the values
abbrev pub IsNamedReady : {M I : Type 0} → (M → I → Type 0) → Map M → NamedImage I → Type 0
IsNamedReady IsReady s i = IsReadyIn IsReady (value_at i.name s) i.image

-- the values with the one of a name changed, if it is there
abbrev pub changed_where : {M : Type 0} → (M → M) → Bytes → Option M → Map M → Map M
changed_where step name None s = s
changed_where step name (Some m) s = with_value name (step m) s

-- the values with the one of a name changed
abbrev pub changed_at : {M : Type 0} → (M → M) → Bytes → Map M → Map M
changed_at step name s = changed_where step name (value_at name s) s

-- the values after an image is undone
abbrev pub named_undone : {M I : Type 0} → (M → I → M) → Map M → NamedImage I → Map M
named_undone undone s i = changed_at (λ m. undone m i.image) i.name s

-- the values after a cell is swept
abbrev pub split_swept : {M : Type 0} → (M → Cell → M) → Map M → Option (Bytes × Cell) → Map M
split_swept swept s None = s
split_swept swept s (Some e) = changed_at (λ m. swept m e.1) e.0 s

-- the same, by the cell
abbrev pub named_swept : {M : Type 0} → (M → Cell → M) → Map M → Cell → Map M
named_swept swept s c = split_swept swept s (split c)

-- neither value is there, or the second has what the first has at the cells that pass
abbrev pub KeepsIn : {M : Type 0} → ((Cell → Bool) → M → M → Type 0) → (Cell → Bool) → Option M → Option M → Type 0
KeepsIn Keeps p None None = Unit {0}
KeepsIn Keeps p None (Some n) = ⊥
KeepsIn Keeps p (Some m) None = ⊥
KeepsIn Keeps p (Some m) (Some n) = Keeps p m n

-- at the cells that pass, the second values have what the first have, and what an undo there needs
abbrev pub NamedKeep : {M : Type 0} → ((Cell → Bool) → M → M → Type 0) → (Cell → Bool) → Map M → Map M → Type 0
NamedKeep Keeps p s t = (name : Bytes) → KeepsIn Keeps (λ c. p (cell_of name c)) (value_at name s) (value_at name t)

-- what was fixed for each name. By name and not as a list, since in a list whose names don't rise a
-- change may add an entry
abbrev pub named_fixed : {M F : Type 0} → (M → F) → Map M → Bytes → Option F
named_fixed fixed s name = option_map fixed (value_at name s)

-- a value replaces the one of its name
abbrev pub replaced : {M : Type 0} → Map M → Bytes → M → Option M → Map M
replaced s name m None = s
replaced s name m (Some old) = with_value name m s
