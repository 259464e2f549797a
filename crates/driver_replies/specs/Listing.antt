-- What drivers are told of a database's collections (MongoDB manual, listCollections;
-- mongodb/specifications, enumerate collections): of each its name, that it is a collection, that
-- it has no options and that it takes writes.
use Rattle.std.specs.Prelude.{pos, ℕ, Bool, true, false, if◌then◌else◌, List, ◌++◌, codes, Option}
use Rattle.std.specs.Prelude.{Some, None}
use Rattle.std.specs.Str.{bytes_eq}
use Rattle.bson.specs.Tree.{Tree, scalar, document, array, text, Pairs, no_pairs, pair, Items}
use Rattle.bson.specs.Tree.{no_items, item}
use Rattle.bson.specs.Lookup.{lookup}
use Rattle.driver_replies.specs.Fields.{words, truth, long, ok}

abbrev pub text_in : Option Tree → Option (List ℕ)
text_in (Some (scalar (text s))) = Some s
text_in other = None

-- the text in a document's field `name`: of a collection in an entry, and that which a filter asks
-- for
abbrev pub name_in : Option Tree → Option (List ℕ)
name_in (Some (document ps)) = text_in (lookup ps (codes "name"))
name_in other = None

-- all are wanted, or the one of this name
abbrev pub is_wanted : Option (List ℕ) → List ℕ → Bool
is_wanted None name = true
is_wanted (Some wanted) name = bytes_eq name wanted

abbrev pub info : Pairs
info = pair (codes "readOnly") (truth false) no_pairs

abbrev pub told_of : List ℕ → Pairs
told_of name =
    pair (codes "name") (words name)
    (pair (codes "type") (words (codes "collection"))
    (pair (codes "options") (document no_pairs)
    (pair (codes "info") (document info) no_pairs)))

abbrev pub with_told : Option (List ℕ) → Option (List ℕ) → Items → Items
with_told wanted None rest = rest
with_told wanted (Some name) rest =
    if is_wanted wanted name then item (document (told_of name)) rest else rest

-- what is told of these entries
abbrev pub told_all : Option (List ℕ) → Items → Items
told_all wanted no_items = no_items
told_all wanted (item t ts) = with_told wanted (name_in (Some t)) (told_all wanted ts)

abbrev pub items_in : Option Tree → Option Items
items_in (Some (array ts)) = Some ts
items_in other = None

-- the entries in a reply's cursor, if it has one
abbrev pub batch_in : Option Tree → Option Items
batch_in (Some (document ps)) = items_in (lookup ps (codes "firstBatch"))
batch_in other = None

abbrev pub namespace : List ℕ → List ℕ
namespace database = database ++ codes ".$cmd.listCollections"

-- a cursor that is at its end
abbrev pub ended_cursor : List ℕ → Items → Pairs
ended_cursor database ts =
    pair (codes "firstBatch") (array ts)
    (pair (codes "id") (long (pos 0))
    (pair (codes "ns") (words (namespace database)) no_pairs))

abbrev pub collections_reply : List ℕ → Items → Pairs
collections_reply database ts = pair (codes "cursor") (document (ended_cursor database ts)) ok

-- The reply to a listCollections, as drivers expect it.
abbrev pub retold : Option (List ℕ) → List ℕ → Option Items → Pairs → Pairs
retold wanted database None reply = reply
retold wanted database (Some ts) reply = collections_reply database (told_all wanted ts)
