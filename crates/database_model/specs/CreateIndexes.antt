-- `createIndexes`: indexes of a collection are made, all or none (MongoDB manual, "createIndexes").
use Rattle.std.specs.Prelude.{◌&&◌, ◌||◌, ℕ, Bool, true, false, not, nat_le, if◌then◌else◌, List}
use Rattle.std.specs.Prelude.{[], ◌∷◌, length, map, codes, Result, Ok, is_some}
use Rattle.std.specs.Bool.{beq}
use Rattle.std.specs.List.{list_any}
use Rattle.std.specs.Str.{bytes_eq}
use Rattle.bson.specs.Tree.{Tree, scalar, boolean, Pairs, no_pairs, pair}
use Rattle.value_order.specs.declared.texts.Direction.{Direction}
use Rattle.value_order.specs.declared.texts.Direction.TheVariants as directions
use Rattle.outcome.specs.Outcome.{◌>>=◌, unless}
use Rattle.path.specs.declared.refusal.Refusal.{Refusal}
use Rattle.path.specs.declared.refusal.Refusal.TheVariants as refusals
use Rattle.command_model.specs.CreateIndexes.{CreateIndexes}
use Rattle.command_model.specs.NewIndex.{NewIndex, defined}
use Rattle.index.specs.Definition.{Field, Definition}
use Rattle.entry_model.specs.WithIndex.{with_index}
use Rattle.entry_model.specs.State.{Collection, empty_collection, find_collection, put_collection}
use Rattle.database_model.specs.DropCollection.{index_count}
use Rattle.database_model.specs.Insert.{is_full}
use Rattle.database_model.specs.Refusals.{int}
use Rattle.database_model.specs.World.{World, collection_of, unused}

-- ---- which are to be made

abbrev pub is_ascending : Direction → Bool
is_ascending directions.Ascending = true
is_ascending directions.Descending = false

-- the name and the key of the index on `_id`, which each collection has
abbrev pub has_id_name : NewIndex → Bool
has_id_name n = bytes_eq n.name (codes "_id_")

abbrev pub is_id_key : List Field → Bool
is_id_key [] = false
is_id_key (f ∷ []) = bytes_eq f.path (codes "_id") && is_ascending f.direction
is_id_key (f ∷ g ∷ fs) = false

-- the same path in the same direction
abbrev pub is_same_field : Field → Field → Bool
is_same_field f g =
    bytes_eq f.path g.path && beq (is_ascending f.direction) (is_ascending g.direction)

-- so each, in order
abbrev pub are_same_fields : List Field → List Field → Bool
are_same_fields [] [] = true
are_same_fields [] (g ∷ gs) = false
are_same_fields (f ∷ fs) [] = false
are_same_fields (f ∷ fs) (g ∷ gs) = is_same_field f g && are_same_fields fs gs

abbrev pub has_name : NewIndex → Definition → Bool
has_name n i = bytes_eq i.name n.name

abbrev pub has_definition : NewIndex → Definition → Bool
has_definition n i = are_same_fields i.fields n.fields && beq i.is_unique n.is_unique

-- both, or one of them
abbrev pub is_same : NewIndex → Definition → Bool
is_same n i = has_name n i && has_definition n i

abbrev pub is_alike : NewIndex → Definition → Bool
is_alike n i = has_name n i || has_definition n i

-- it is that on `_id`
abbrev pub is_id_index : NewIndex → Bool
is_id_index n = has_id_name n && is_id_key n.fields

-- it has its name or its key
abbrev pub is_like_id_index : NewIndex → Bool
is_like_id_index n = has_id_name n || is_id_key n.fields

-- it is that on `_id`, or one of the indexes has its name and its definition
abbrev pub is_there : List Definition → NewIndex → Bool
is_there is n = is_id_index n || list_any (is_same n) is

-- it is like that on `_id`, or one of the indexes has its name or its definition
abbrev pub is_in_conflict : List Definition → NewIndex → Bool
is_in_conflict is n = is_like_id_index n || list_any (is_alike n) is

-- collections that have their numbers
abbrev pub numbered : List Definition → List Collection
numbered is = map (λ i. empty_collection [] i.number) is

-- the least number from 1 on that none of the indexes has, as collections get theirs
abbrev pub unused_index : List Definition → ℕ
unused_index is = unused (numbered is)

-- ---- what they make of a collection

-- the collection with the index, where that isn't there and there are not sixteen yet
abbrev pub with_new_index : Collection → NewIndex → Result Collection Refusal
with_new_index c n =
    if is_there c.indexes n then Ok c else
    unless (is_in_conflict c.indexes n) refusals.IndexOptionsConflict
    (unless (nat_le 16 (length c.indexes)) refusals.TooMany
    (with_index c (defined (unused_index c.indexes) n)))

-- with these, one after the other, or the first refusal
abbrev pub with_new_indexes : Collection → List NewIndex → Result Collection Refusal
with_new_indexes c [] = Ok c
with_new_indexes c (n ∷ ns) = do
  next ← with_new_index c n
  with_new_indexes next ns

-- the collections with these indexes in the one of a name; a missing one is made, where there are
-- not 1,000 yet
abbrev pub indexed : List Collection → List ℕ → List NewIndex → Result (List Collection) Refusal
indexed cs name ns =
    unless (is_full cs name) refusals.TooMany (do
      next ← with_new_indexes (collection_of cs name) ns
      Ok (put_collection next cs))

-- ---- the command

abbrev pub truth : Bool → Tree
truth b = scalar (boolean b)

-- how many indexes there were, with that on `_id`, how many there are, and whether the collection
-- was made
abbrev pub create_indexes_reply : ℕ → ℕ → Bool → Pairs
create_indexes_reply before after is_new =
    pair (codes "numIndexesBefore") (int before)
    (pair (codes "numIndexesAfter") (int after)
    (pair (codes "createdCollectionAutomatically") (truth is_new) no_pairs))

unfoldable pub run_create_indexes : World → CreateIndexes → Result (World × Pairs) Refusal
run_create_indexes world c = do
  collections ← indexed world.collections c.namespace c.indexes
  Ok (
    record world { collections = collections },
    create_indexes_reply (index_count world.collections c.namespace)
        (index_count collections c.namespace)
        (not (is_some (find_collection world.collections c.namespace))),
  )
