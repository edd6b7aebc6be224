-- The order of resources: two are the same exactly if they tie. What a unit may acquire.
use Rattle.std.specs.Prelude.{◌≡◌, ℕ, ◌==◌, Some, true, if◌then◌else◌, length, take, drop, [], ◌∷◌, ◌++◌, refl}
use Rattle.std.proofs.Common.{sym, ap, ◌∙◌, subst}
use Rattle.std.specs.declared.cmp.Ordering.{Ordering}
use Rattle.std.specs.declared.cmp.Ordering.TheVariants.{Less, Equal, Greater}
use Rattle.std.specs.Ordering.{is_eq}
use Rattle.std.specs.Cmp.{IsTotalOrder}
use Rattle.std.specs.Cmp.Lexicographic.{on_texts}
use Rattle.cics_names.specs.Keyed.{Bytes}
use Rattle.cics_names.specs.KeyedLaws.{is_same-self, is_same-eq}
use Rattle.cics_history.specs.declared.resources.Resource.{Resource}
use Rattle.cics_history.specs.declared.resources.Resource.TheVariants.{FileKey, TsQueue, TdRead, TdWrite, User, FilePrefix}
use Rattle.cics_history.specs.Resources.{bytes_of, is_one}
use Rattle.cics_history.specs.ResourceLaws.{is_one-self, is_one-eq, same_test, conflicts-self}
use Rattle.cics_enqueue.specs.Table.{Table, resource_key, resource_cmp, holder_of, IsFreeFor}

-- resources are ordered totally
pub resource_cmp_total : IsTotalOrder resource_cmp
resource_cmp_total = on_texts resource_key

-- a key of a file read back from its bytes, without the kind
abbrev pub file_key_of : Bytes → Resource
file_key_of [] = TsQueue []
file_key_of (n ∷ rest) = FileKey (take n rest) (bytes_of (drop n rest))

-- a prefix of keys read back from its bytes, without the kind
abbrev pub file_prefix_of : Bytes → Resource
file_prefix_of [] = TsQueue []
file_prefix_of (n ∷ rest) = FilePrefix (take n rest) (bytes_of (drop n rest))

-- a resource read back from its bytes
abbrev pub resource_of : Bytes → Resource
resource_of [] = TsQueue []
resource_of (kind ∷ rest) =
    if kind == 0 then file_prefix_of rest
    else if kind == 1 then file_key_of rest
    else if kind == 2 then TsQueue rest
    else if kind == 3 then TdRead rest
    else if kind == 4 then TdWrite rest
    else User (bytes_of rest)

-- the first bytes of two lists in one are the first list
front : (a b : Bytes) → take (length a) (a ++ b) ≡ a
front [] b = refl
front (x ∷ xs) b = ap (λ r. x ∷ r) (front xs b)

-- and the rest is the second
rest : (a b : Bytes) → drop (length a) (a ++ b) ≡ b
rest [] b = refl
rest (x ∷ xs) b = rest xs b

-- a resource is read back from its own bytes
pub resource_of-resource_key : (r : Resource) → resource_of (resource_key r) ≡ r
resource_of-resource_key (FileKey f k) = λ i. FileKey (front f k.items i) (bytes_of (rest f k.items i))
resource_of-resource_key (TsQueue q) = refl
resource_of-resource_key (TdRead q) = refl
resource_of-resource_key (TdWrite q) = refl
resource_of-resource_key (User v) = refl
resource_of-resource_key (FilePrefix f p) = λ i. FilePrefix (front f p.items i) (bytes_of (rest f p.items i))

-- resources that tie are one
pub same_resources : (r s : Resource) → resource_cmp r s ≡ Equal → r ≡ s
same_resources r s tied =
    sym (resource_of-resource_key r) ∙ ap resource_of (is_same-eq (resource_key r) (resource_key s) (ap is_eq tied)) ∙ resource_of-resource_key s

-- two are the same resource exactly if they tie
pub is_one-cmp : (r s : Resource) → is_one r s ≡ is_eq (resource_cmp r s)
is_one-cmp r s = same_test _ _
    (λ e. subst (λ t. is_eq (resource_cmp r t) ≡ true) (is_one-eq r s e) (is_same-self (resource_key r)))
    (λ e. subst (λ t. is_one r t ≡ true) (same_resources r s (tied (resource_cmp r s) e)) (is_one-self r))
  where
    tied : (o : Ordering) → is_eq o ≡ true → o ≡ Equal
    tied Less e = cc
    tied Equal e = refl
    tied Greater e = cc

-- ---- What a unit may acquire

-- if a unit may acquire a resource that is owned, the unit owns it
pub free_own : (t : Table) (r : Resource) (u : ℕ) → IsFreeFor t r u → (v : ℕ) → holder_of r t ≡ Some v → v ≡ u
free_own t r u free v at = free r v (conflicts-self r) at
