-- The collections of an image of the disk: those that its entries tell. Any entries give a list;
-- where they spell a lawful state, it is that. Where the list is no lawful state, the image holds
-- none.
use Rattle.std.specs.Prelude.{ℕ, pos, false, List, [], map, drop, codes, Option, Some, unwrap_or}
use Rattle.std.specs.Prelude.{if◌then◌else◌}
use Rattle.bson.specs.Lookup.{lookup}
use Rattle.bson_bytes.specs.Raw.{document_spelled}
use Rattle.bson.specs.Tree.{Tree, scalar, int32, array, Pairs}
use Rattle.tree_model.specs.Keys.{Entry}
use Rattle.entries.specs.CatalogueReading.{definitions_in}
use Rattle.index.specs.Definition.{Definition}
use Rattle.entries.specs.Escaping.{unescaped}
use Rattle.entry_model.specs.State.{Collection}
use Rattle.entry_model.specs.StateReads.{entries_under}
use Rattle.file_state.specs.Entries.{entries_in}
use Rattle.file_state.specs.StateTests.{is_lawful}

-- ---- what an entry of the catalogue tells

-- A name stands in its key behind two numbers of four bytes each and the byte of its class.
abbrev pub name_told : List ℕ → List ℕ
name_told key = unescaped false (drop 9 key)

abbrev pub number_of : Option Tree → ℕ
number_of (Some (scalar (int32 (pos n)))) = n
number_of other = 0

abbrev pub indexes_of : Option Tree → List Definition
indexes_of (Some (array items)) = unwrap_or (definitions_in items) []
indexes_of other = []

-- ---- what stands under its number

-- the documents of the entries under a collection's number, in their order
abbrev pub documents_told : List Entry → ℕ → List Pairs
documents_told entries number =
    map (λ x. document_spelled x.value) (entries_under number 0 entries)

-- the collection of an entry of the catalogue, with what the other entries tell of it
abbrev pub collection_told : List Entry → Entry → Collection
collection_told entries entry =
    let said = document_spelled entry.value in
    let number = number_of (lookup said (codes "n")) in record {
      name = name_told entry.key;
      number = number;
      documents = documents_told entries number;
      indexes = indexes_of (lookup said (codes "x"));
    }

-- ---- all of them

-- those that the entries of the catalogue tell, in their order
unfoldable pub collections_among : List Entry → List Collection
collections_among entries = map (collection_told entries) (entries_under 0 0 entries)

-- those of the entries of the tree that the image's root names
unfoldable pub collections_in : (ℕ → List ℕ) → List Collection
collections_in image = collections_among (entries_in image)

-- these where they are a lawful state, and else none: a lawful one, whatever the image is
unfoldable pub held_in : (ℕ → List ℕ) → List Collection
held_in image = if is_lawful (collections_in image) then collections_in image else []
