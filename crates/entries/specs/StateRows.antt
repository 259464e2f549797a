-- A state worked by hand: one collection of number 2 with an index on `a` and the document `{_id:
-- 7, a: 5}`.
use Rattle.std.specs.Prelude.{◌≡◌, false, [], ◌∷◌, codes}
use Rattle.bson.specs.Tree.{Pairs, no_pairs, pair}
use Rattle.tree_model.specs.Keys.{Entry}
use Rattle.value_order.specs.declared.texts.Direction.TheVariants as directions
use Rattle.index.specs.Definition.{Definition}
use Rattle.entry_model.specs.State.{Collection, int}
use Rattle.entry_model.specs.StateEntries.{state_entries}
use Rattle.entry_model.specs.LawfulState.{IsLawfulState}

abbrev pub index_on_a : Definition
index_on_a = record {
  number = 1;
  name = codes "a_1";
  fields = record { path = codes "a"; direction = directions.Ascending } ∷ [];
  is_unique = false;
  is_multi = false;
}

abbrev pub seven : Pairs
seven = pair (codes "_id") (int 7) (pair (codes "a") (int 5) no_pairs)

abbrev pub one_collection : Collection
one_collection =
    record { name = codes "t.c"; number = 2; documents = seven ∷ []; indexes = index_on_a ∷ [] }

-- 00000000 00000000 40 "t.c" 0000, and {n: 2, x: [{i: 1, name: "a_1", key: {a: 1}, unique: false,
-- multi: false}]}
abbrev pub row_catalogue : Entry
row_catalogue = record {
  key = 0 ∷ 0 ∷ 0 ∷ 0 ∷ 0 ∷ 0 ∷ 0 ∷ 0 ∷ 64 ∷ 116 ∷ 46 ∷ 99 ∷ 0 ∷ 0 ∷ [];
  value = 83 ∷ 0 ∷ 0 ∷ 0 ∷ 16 ∷ 110 ∷ 0 ∷ 2 ∷ 0 ∷ 0 ∷ 0 ∷ 4 ∷ 120 ∷ 0 ∷ 68 ∷ 0 ∷ 0 ∷ 0 ∷ 3 ∷ 48 ∷ 0
      ∷ 60 ∷ 0 ∷ 0 ∷ 0 ∷ 16 ∷ 105 ∷ 0 ∷ 1 ∷ 0 ∷ 0 ∷ 0 ∷ 2 ∷ 110 ∷ 97 ∷ 109 ∷ 101 ∷ 0 ∷ 4 ∷ 0 ∷ 0
      ∷ 0 ∷ 97 ∷ 95 ∷ 49 ∷ 0 ∷ 3 ∷ 107 ∷ 101 ∷ 121 ∷ 0 ∷ 12 ∷ 0 ∷ 0 ∷ 0 ∷ 16 ∷ 97 ∷ 0 ∷ 1 ∷ 0 ∷ 0
      ∷ 0 ∷ 0 ∷ 8 ∷ 117 ∷ 110 ∷ 105 ∷ 113 ∷ 117 ∷ 101 ∷ 0 ∷ 0 ∷ 8 ∷ 109 ∷ 117 ∷ 108 ∷ 116 ∷ 105 ∷ 0
      ∷ 0 ∷ 0 ∷ 0 ∷ 0 ∷ [];
}

-- 00000002 00000000 30 8000000000000007, and the document
abbrev pub row_document : Entry
row_document = record {
  key = 0 ∷ 0 ∷ 0 ∷ 2 ∷ 0 ∷ 0 ∷ 0 ∷ 0 ∷ 48 ∷ 128 ∷ 0 ∷ 0 ∷ 0 ∷ 0 ∷ 0 ∷ 0 ∷ 7 ∷ [];
  value = 21 ∷ 0 ∷ 0 ∷ 0 ∷ 16 ∷ 95 ∷ 105 ∷ 100 ∷ 0 ∷ 7 ∷ 0 ∷ 0 ∷ 0 ∷ 16 ∷ 97 ∷ 0 ∷ 5 ∷ 0 ∷ 0 ∷ 0
      ∷ 0 ∷ [];
}

-- 00000002 00000001 30 8000000000000005 30 8000000000000007, and nothing
abbrev pub row_index : Entry
row_index = record {
  key = 0 ∷ 0 ∷ 0 ∷ 2 ∷ 0 ∷ 0 ∷ 0 ∷ 1 ∷ 48 ∷ 128 ∷ 0 ∷ 0 ∷ 0 ∷ 0 ∷ 0 ∷ 0 ∷ 5 ∷ 48 ∷ 128 ∷ 0 ∷ 0 ∷ 0
      ∷ 0 ∷ 0 ∷ 0 ∷ 7 ∷ [];
  value = [];
}

abbrev pub FirstState : Type 0
FirstState =
    state_entries (one_collection ∷ []) ≡ row_catalogue ∷ row_document ∷ row_index ∷ []

-- It is lawful.
abbrev pub FirstIsLawful : Type 0
FirstIsLawful = IsLawfulState (one_collection ∷ [])
