-- Bodies of commands on indexes, worked by hand: what they are read as, or their first refusal.
use Rattle.std.proofs.Common.{◌≡◌, List, [], ◌∷◌, Ok, Err, refl, true}
use Rattle.std.specs.Prelude.{ℕ, pos, negsuc, codes}
use Rattle.bson.specs.Tree.{Tree, scalar, text, int32, int64, boolean, document, array, Pairs, no_pairs, pair, no_items, item}
use Rattle.path.specs.declared.refusal.Refusal.TheVariants as refusals
use Rattle.value_order.specs.declared.texts.Direction.TheVariants as directions
use Rattle.command_model.specs.Command.{create_indexes, drop_indexes, list_indexes, command_of}
use Rattle.command_model.specs.DropIndexes.{named, all}

abbrev string : List ℕ → Tree
string s = scalar (text s)

abbrev one : Tree
one = scalar (int32 (pos 1))

-- {<command>: <collection>, .., $db: 't'}
abbrev asked : List ℕ → List ℕ → (Pairs → Pairs) → Pairs
asked command collection field = pair command (string collection) (field (pair (codes "$db") (string (codes "t")) no_pairs))

-- {createIndexes: 'c', indexes: <value>, $db: 't'}
abbrev indexes_are : Tree → Pairs
indexes_are t = asked (codes "createIndexes") (codes "c") (pair (codes "indexes") t)

-- one index, of this document
abbrev index_is : Pairs → Pairs
index_is ps = indexes_are (array (item (document ps) no_items))

-- .. of this key, named 'n'
abbrev key_is : Pairs → Pairs
key_is ps = index_is (pair (codes "key") (document ps) (pair (codes "name") (string (codes "n")) no_pairs))

abbrev on_a : Tree
on_a = document (pair (codes "a") one no_pairs)

-- {dropIndexes: <collection>, index: <value>, $db: 't'}
abbrev drop_is : List ℕ → Tree → Pairs
drop_is collection t = asked (codes "dropIndexes") collection (pair (codes "index") t)

-- ---- what is read

-- {unique: true, key: {"a.b": -1L, c: 1}, name: 'n'}
reads : command_of
    (index_is (pair (codes "unique") (scalar (boolean true))
    (pair (codes "key") (document (pair (codes "a.b") (scalar (int64 (negsuc 0))) (pair (codes "c") one no_pairs)))
    (pair (codes "name") (string (codes "n")) no_pairs))))
    ≡ Ok (create_indexes (record {
      namespace = codes "t.c";
      indexes = record {
        name = codes "n";
        fields = record { path = codes "a.b"; direction = directions.Descending } ∷ record { path = codes "c"; direction = directions.Ascending } ∷ [];
        is_unique = true;
      } ∷ [];
    }))
unfolding command_of
reads = refl

one_dropped : command_of (drop_is (codes "c") (string (codes "n"))) ≡ Ok (drop_indexes (record { namespace = codes "t.c"; indexes = named (codes "n") }))
unfolding command_of
one_dropped = refl

all_dropped : command_of (drop_is (codes "c") (string (codes "*"))) ≡ Ok (drop_indexes (record { namespace = codes "t.c"; indexes = all }))
unfolding command_of
all_dropped = refl

listed : command_of (asked (codes "listIndexes") (codes "c") (pair (codes "comment") one)) ≡ Ok (list_indexes (record { namespace = codes "t.c" }))
unfolding command_of
listed = refl

-- ---- keys that are refused

-- {}
empty_key : command_of (key_is no_pairs) ≡ Err refusals.BadValue
unfolding command_of
empty_key = refl

-- {a: true}
no_direction : command_of (key_is (pair (codes "a") (scalar (boolean true)) no_pairs)) ≡ Err refusals.TypeMismatch
unfolding command_of
no_direction = refl

-- {a: 0}
wrong_direction : command_of (key_is (pair (codes "a") (scalar (int32 (pos 0))) no_pairs)) ≡ Err refusals.BadValue
unfolding command_of
wrong_direction = refl

-- {a: 1, $b: 'x'}: the path stands before its direction
path_before_direction : command_of (key_is (pair (codes "a") one (pair (codes "$b") (string (codes "x")) no_pairs))) ≡ Err refusals.DollarPrefixedFieldName
unfolding command_of
path_before_direction = refl

-- {a: 1, a: 'x'}: a path that stood before is met before its direction
path_twice : command_of (key_is (pair (codes "a") one (pair (codes "a") (string (codes "x")) no_pairs))) ≡ Err refusals.BadValue
unfolding command_of
path_twice = refl

-- {a: 1, b: 1, c: 1, d: 1, "": 'x'}: of the fifth nothing is looked at
fifth_path : command_of
    (key_is (pair (codes "a") one (pair (codes "b") one (pair (codes "c") one (pair (codes "d") one (pair [] (string (codes "x")) no_pairs))))))
    ≡ Err refusals.BadValue
unfolding command_of
fifth_path = refl

-- {a: 1, b: 1, c: 1, d: 'x', e: 1}: the fourth is met first
fourth_before_fifth : command_of
    (key_is (pair (codes "a") one (pair (codes "b") one (pair (codes "c") one (pair (codes "d") (string (codes "x")) (pair (codes "e") one no_pairs))))))
    ≡ Err refusals.TypeMismatch
unfolding command_of
fourth_before_fifth = refl

-- ---- other fields that are refused

-- indexes: []
no_index : command_of (indexes_are (array no_items)) ≡ Err refusals.BadValue
unfolding command_of
no_index = refl

-- indexes: 1
no_array : command_of (indexes_are one) ≡ Err refusals.TypeMismatch
unfolding command_of
no_array = refl

-- [{key: {a: 1}}, {key: 1}]: the first has no name
no_name : command_of (indexes_are (array (item (document (pair (codes "key") on_a no_pairs)) (item (document (pair (codes "key") one no_pairs)) no_items))))
    ≡ Err refusals.FailedToParse
unfolding command_of
no_name = refl

-- {key: {a: 1}, name: '', sparse: true}: the name stands before the unknown field
empty_name : command_of (index_is (pair (codes "key") on_a (pair (codes "name") (string []) (pair (codes "sparse") (scalar (boolean true)) no_pairs))))
    ≡ Err refusals.BadValue
unfolding command_of
empty_name = refl

-- {key: {a: 1}, sparse: true, name: ''}
unknown_field : command_of (index_is (pair (codes "key") on_a (pair (codes "sparse") (scalar (boolean true)) (pair (codes "name") (string []) no_pairs))))
    ≡ Err refusals.FailedToParse
unfolding command_of
unknown_field = refl

-- index: 1
no_text : command_of (drop_is (codes "c") one) ≡ Err refusals.TypeMismatch
unfolding command_of
no_text = refl

-- the name of the collection is judged last
bad_collection : command_of (drop_is (codes "$") (string (codes "_id_"))) ≡ Err refusals.InvalidNamespace
unfolding command_of
bad_collection = refl

not_named : command_of (asked (codes "dropIndexes") (codes "$") (λ ps. ps)) ≡ Err refusals.FailedToParse
unfolding command_of
not_named = refl

no_batches : command_of (asked (codes "listIndexes") (codes "c") (pair (codes "batchSize") one)) ≡ Err refusals.FailedToParse
unfolding command_of
no_batches = refl
