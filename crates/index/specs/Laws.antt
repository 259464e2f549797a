-- What holds of the keys of an index and of its entries.
use Rattle.std.specs.Prelude.{◌≡◌, ◌↔◌, ℕ, false, Some, List, [], ◌∷◌, ◌++◌, length}
use Rattle.std.specs.List.{AllByRecursion}
use Rattle.std.specs.declared.cmp.Ordering.{Ordering}
use Rattle.std.specs.declared.cmp.Ordering.TheVariants.{Equal}
use Rattle.std.specs.Ordering.{ordering_then}
use Rattle.bson.specs.Tree.{Tree, Pairs, document}
use Rattle.bson.specs.Lawful.{IsPairs}
use Rattle.value_order.specs.Laws.{IsKey}
use Rattle.value_order.specs.Order.{Key, value, bytes_cmp, compare}
use Rattle.value_order.specs.KeyText.{tree_text, directed_cmp}
use Rattle.index.specs.Definition.{Field, Definition, IsDefinition}
use Rattle.index.specs.Catalogue.{spelled, definition_in}
use Rattle.index.specs.IndexKeys.{index_keys, is_multikey}
use Rattle.index.specs.KeyTexts.{key_bytes, ascending_set, entry_key}
use Rattle.index.specs.Changes.{IsAscending, is_among, without}

-- The set of some lists of bytes ascends and has these members, and it is the one list that does.
abbrev pub SetAscends : Type 0
SetAscends =
    (keys : List (List ℕ)) → IsAscending (ascending_set keys)
    × ((key : List ℕ) → is_among (ascending_set keys) key ≡ is_among keys key)
    × ((others : List (List ℕ)) → IsAscending others
    → ((key : List ℕ) → is_among others key ≡ is_among keys key) → others ≡ ascending_set keys)

-- ---- order

-- a key has for each field a value that BSON can spell, or says that an empty array stands there
abbrev pub IsIndexKey : List Field → List Key → Type 0
IsIndexKey [] [] = Unit {0}
IsIndexKey [] (k ∷ ks) = ⊥
IsIndexKey (f ∷ fs) [] = ⊥
IsIndexKey (f ∷ fs) (k ∷ ks) = IsKey k × IsIndexKey fs ks

-- keys by their first values that differ, each in the direction of its field
abbrev pub index_key_cmp : List Field → List Key → List Key → Ordering
index_key_cmp [] ks ls = Equal
index_key_cmp (f ∷ fs) [] ls = Equal
index_key_cmp (f ∷ fs) (a ∷ ks) [] = Equal
index_key_cmp (f ∷ fs) (a ∷ ks) (b ∷ ls) =
    ordering_then (directed_cmp f.direction a b) (index_key_cmp fs ks ls)

-- The entries of an index order by bytes as their keys do, and those of one key by the `_id`.
abbrev pub EntriesOrder : Type 0
EntriesOrder =
    (collection index : ℕ) (fs : List Field) (ks ls : List Key) (t u : Tree) → IsIndexKey fs ks
    → IsIndexKey fs ls → IsKey (value t) → IsKey (value u)
    → bytes_cmp (entry_key collection index (key_bytes fs ks) (tree_text t))
    (entry_key collection index (key_bytes fs ls) (tree_text u))
    ≡ ordering_then (index_key_cmp fs ks ls) (compare t u)

-- Encoded keys are equal exactly where the order calls the keys equal, and none begins another.
abbrev pub KeysAgree : Type 0
KeysAgree =
    (fs : List Field) (ks ls : List Key) (x y : List ℕ) → IsIndexKey fs ks → IsIndexKey fs ls
    → ((key_bytes fs ks ≡ key_bytes fs ls) ↔ (index_key_cmp fs ks ls ≡ Equal))
    × (key_bytes fs ks ++ x ≡ key_bytes fs ls ++ y → key_bytes fs ks ≡ key_bytes fs ls)

-- The keys of a document that BSON can spell in a message have values that it can spell.
abbrev pub KeysSpellable : Type 0
KeysSpellable = (fs : List Field) (ps : Pairs) → IsKey (value (document ps))
    → AllByRecursion (IsIndexKey fs) (index_keys fs ps)

-- ---- changes

-- Without the keys that are removed, and with those that are added, the old keys are the new ones;
-- where they are the same nothing is.
abbrev pub ChangesLead : Type 0
ChangesLead =
    (old new : List (List ℕ)) → IsAscending new
    → (ascending_set (without old (without old new) ++ without new old) ≡ new)
    × (without new new ≡ [])

-- A document without an array on the paths has one key.
abbrev pub OneKey : Type 0
OneKey = (fs : List Field) (ps : Pairs) → is_multikey fs ps ≡ false → length (index_keys fs ps) ≡ 1

-- ---- the catalogue

-- What a definition is spelled as is read back.
abbrev pub ReadsBack : Type 0
ReadsBack = (d : Definition) → IsDefinition d → definition_in (spelled d) ≡ Some d

-- What is read is spelled so, and may be a definition.
abbrev pub OnlySpelled : Type 0
OnlySpelled = (ps : Pairs) (d : Definition) → IsPairs ps → definition_in ps ≡ Some d
    → (ps ≡ spelled d) × IsDefinition d
