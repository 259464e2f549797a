-- The encoded keys of a document in an index, the entries that they make in the tree, and why a
-- document may not enter.
use Rattle.std.specs.Prelude.{ℕ, nat_lt, Bool, List, [], ◌∷◌, ◌++◌, length, map, Result, Ok}
use Rattle.std.specs.Int.{w32, to_be_bytes}
use Rattle.std.specs.List.{list_any}
use Rattle.std.specs.declared.cmp.Ordering.{Ordering}
use Rattle.std.specs.declared.cmp.Ordering.TheVariants.{Less, Equal, Greater}
use Rattle.outcome.specs.Outcome.{unless}
use Rattle.bson.specs.Tree.{Pairs}
use Rattle.value_order.specs.Order.{Key, bytes_cmp}
use Rattle.value_order.specs.KeyText.{directed_text}
use Rattle.path.specs.declared.refusal.Refusal.{Refusal}
use Rattle.path.specs.declared.refusal.Refusal.TheVariants as refusals
use Rattle.index.specs.Definition.{Field, Definition}
use Rattle.index.specs.IndexKeys.{index_keys, has_parallel_arrays}

-- the texts of a key's values, each in the direction of its field, one behind the other
abbrev pub key_bytes : List Field → List Key → List ℕ
key_bytes [] ks = []
key_bytes (f ∷ fs) [] = []
key_bytes (f ∷ fs) (k ∷ ks) = directed_text f.direction k ++ key_bytes fs ks

-- before the first that isn't below it, unless they are equal
abbrev pub put_at : Ordering → List ℕ → List ℕ → List (List ℕ) → List (List ℕ) → List (List ℕ)
put_at Less k l ls put = k ∷ l ∷ ls
put_at Equal k l ls put = l ∷ ls
put_at Greater k l ls put = l ∷ put

abbrev pub put_key : List ℕ → List (List ℕ) → List (List ℕ)
put_key k [] = k ∷ []
put_key k (l ∷ ls) = put_at (bytes_cmp k l) k l ls (put_key k ls)

-- the set of these, as the one list of its members that ascends
abbrev pub ascending_set : List (List ℕ) → List (List ℕ)
ascending_set [] = []
ascending_set (k ∷ ks) = put_key k (ascending_set ks)

-- the set of a document's encoded keys, which are equal where the keys are
abbrev pub encoded_keys : List Field → Pairs → List (List ℕ)
encoded_keys fields ps = ascending_set (map (key_bytes fields) (index_keys fields ps))

-- one of the keys has more than 500 bytes
abbrev pub is_too_long : List Field → Pairs → Bool
is_too_long fields ps =
    list_any (λ ks. nat_lt 500 (length (key_bytes fields ks))) (index_keys fields ps)

-- the encoded keys, or the first refusal
abbrev pub keys_in : List Field → Pairs → Result (List (List ℕ)) Refusal
keys_in fields ps =
    unless (is_too_long fields ps) refusals.KeyTooLong
    (unless (has_parallel_arrays fields ps) refusals.CannotIndexParallelArrays
    (Ok (encoded_keys fields ps)))

-- The same in each of a collection's indexes: a key that is too long in any of them is refused
-- before parallel arrays in any.
abbrev pub keys_in_all : List Definition → Pairs → Result (List (List (List ℕ))) Refusal
keys_in_all ds ps =
    unless (list_any (λ d. is_too_long d.fields ps) ds) refusals.KeyTooLong
    (unless (list_any (λ d. has_parallel_arrays d.fields ps) ds) refusals.CannotIndexParallelArrays
    (Ok (map (λ d. encoded_keys d.fields ps) ds)))

-- The key of an entry in the tree: the numbers of the collection and of the index, the encoded key,
-- and the text of the `_id`. Its value is empty.
abbrev pub entry_key : ℕ → ℕ → List ℕ → List ℕ → List ℕ
entry_key collection index key id =
    to_be_bytes w32 collection ++ (to_be_bytes w32 index ++ (key ++ id))
