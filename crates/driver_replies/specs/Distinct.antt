-- A distinct (MongoDB manual, distinct): the documents that match are found, of each the field that
-- the key begins with, batch after batch, and the values of the key in them are told, each once.
use Rattle.std.specs.Prelude.{ℕ, ℤ, pos, if◌then◌else◌, List, [], ◌∷◌, codes, Option, Some, None}
use Rattle.std.specs.Prelude.{Result, Ok, Err}
use Rattle.std.specs.Option.{option_or, option_map}
use Rattle.std.specs.Str.{bytes_eq}
use Rattle.bson.specs.Lookup.{lookup}
use Rattle.bson.specs.Tree.{Tree, document, array, Pairs, no_pairs, pair, Items, no_items}
use Rattle.bson.specs.Tree.{item}
use Rattle.path.specs.Parts.{path_of}
use Rattle.path.specs.declared.fault.PathFault.{PathFault}
use Rattle.distinct_values.specs.DistinctValues.{values_at, with_values, items_from}
use Rattle.driver_replies.specs.Fields.{int, long, words, ok}
use Rattle.driver_replies.specs.Listing.{items_in}
use Rattle.driver_replies.specs.Modifying.{part_in, or_empty}
use Rattle.driver_replies.specs.Texts.{text_or_none}
use Rattle.driver_replies.specs.declared.distinct.Distinct.{Distinct}

-- ---- what is asked

abbrev pub path_or_none : Result (List (List ℕ)) PathFault → Option (List (List ℕ))
path_or_none (Ok path) = Some path
path_or_none (Err fault) = None

-- the path that the key writes, if it is one
abbrev pub key_of : Pairs → Option (List (List ℕ))
key_of body = path_or_none (path_of (text_or_none (lookup body (codes "key"))))

abbrev pub no_values : List (List ℕ) → Distinct
no_values key = record { path = key; values = [] }

-- what is asked for, and that nothing is known yet
abbrev pub distinct_of : Pairs → Option Distinct
distinct_of body = option_map no_values (key_of body)

-- of a document the field of this name alone
abbrev pub field_alone : List ℕ → Pairs
field_alone name =
    if bytes_eq name (codes "_id") then pair (codes "_id") (int (pos 1)) no_pairs else
    pair name (int (pos 1)) (pair (codes "_id") (int (pos 0)) no_pairs)

abbrev pub first_field : List (List ℕ) → Pairs
first_field [] = no_pairs
first_field (name ∷ rest) = field_alone name

-- the find of all that match, of each the field that the path begins with
abbrev pub find_values : List ℕ → List ℕ → List (List ℕ) → Pairs → Pairs
find_values database collection path body =
    pair (codes "find") (words collection)
    (pair (codes "filter") (document (or_empty (part_in (lookup body (codes "query")))))
    (pair (codes "projection") (document (first_field path))
    (pair (codes "$db") (words database) no_pairs)))

-- what asks a cursor for its next batch
abbrev pub get_more : List ℕ → List ℕ → ℤ → Pairs
get_more database collection cursor =
    pair (codes "getMore") (long cursor)
    (pair (codes "collection") (words collection)
    (pair (codes "$db") (words database) no_pairs))

-- ---- what is answered

-- the documents of a cursor's first batch, or of its next one
abbrev pub documents_in : Option Tree → Option Items
documents_in (Some (document cursor)) =
    option_or (items_in (lookup cursor (codes "firstBatch")))
    (items_in (lookup cursor (codes "nextBatch")))
documents_in other = None

abbrev pub with_document : Distinct → Tree → Distinct
with_document d (document ps) =
    record d { values = with_values d.values (values_at d.path ps) }
with_document d other = d

-- the values of these documents too
abbrev pub with_documents : Distinct → Items → Distinct
with_documents d no_items = d
with_documents d (item t ts) = with_documents (with_document d t) ts

abbrev pub distinct_reply : Distinct → Pairs
distinct_reply d = pair (codes "values") (array (items_from d.values)) ok
