-- Whether collections are a lawful state, as a test. Each of these is true just where what it is
-- named after holds: `is_kept` where `IsKept`, `is_lawful` where `IsLawfulState` (entries,
-- specs/LawfulState).
use Rattle.std.specs.Prelude.{Bool, true, not, ◌&&◌, ◌||◌, ◌==◌, nat_le, List, [], ◌∷◌, length}
use Rattle.std.specs.Prelude.{is_ok}
use Rattle.std.specs.List.{list_all}
use Rattle.std.specs.Ordering.{nat_cmp, is_lt}
use Rattle.std.specs.Cmp.Lexicographic.{slice_cmp}
use Rattle.std.specs.Str.{is_utf8}
use Rattle.bson.specs.Tree.{Pairs}
use Rattle.path.specs.Parts.{path_of}
use Rattle.value_order.specs.Order.{compare}
use Rattle.index.specs.Definition.{Field, Definition, key_document}
use Rattle.entry_model.specs.Entering.{share_key}
use Rattle.index.specs.IndexKeys.{is_multikey}
use Rattle.index.specs.KeyTexts.{keys_in}
use Rattle.entry_model.specs.State.{Collection, key_of, uses}
use Rattle.file_state.specs.DocumentTests.{is_pairs, is_storable}

-- each element and each behind it pass
abbrev pub all_pairs : {X : Type 0} → (X → X → Bool) → List X → Bool
all_pairs test [] = true
all_pairs test (x ∷ xs) = list_all (test x) xs && all_pairs test xs

-- the second passes, or the first doesn't
abbrev pub implies : Bool → Bool → Bool
implies a b = not a || b

-- ---- indexes

-- one to four paths, none of them twice
abbrev pub are_fields : List Field → Bool
are_fields fields =
    nat_le 1 (length fields) && nat_le (length fields) 4
    && list_all (λ f. is_ok (path_of f.path)) fields && is_pairs (key_document fields)

-- the number, the name and the paths of an index are within their limits
abbrev pub is_definition : Definition → Bool
is_definition d =
    nat_le 1 d.number && nat_le d.number 16 && is_utf8 d.name && nat_le 1 (length d.name)
    && nat_le (length d.name) 127 && are_fields d.fields

-- It refuses none of the documents, no two of them share a key if it is unique, and it is multikey
-- if one of them has an array on one of its paths.
abbrev pub is_index_of : List Pairs → Definition → Bool
is_index_of documents i =
    is_definition i && list_all (λ d. is_ok (keys_in i.fields d)) documents
    && implies i.is_unique (all_pairs (λ d e. not (share_key i.fields d e)) documents)
    && list_all (λ d. implies (is_multikey i.fields d) i.is_multi) documents

-- ---- collections

-- documents in ascending order of `_id`, each once
abbrev pub is_rising : List Pairs → Bool
is_rising ds = all_pairs (λ d e. is_lt (compare (key_of d) (key_of e))) ds

-- a collection within the limits
abbrev pub is_kept : Collection → Bool
is_kept c =
    is_utf8 c.name && nat_le (length c.name) 255 && nat_le 1 c.number && nat_le c.number 1000
    && is_rising c.documents && list_all is_storable c.documents
    && list_all (is_index_of c.documents) c.indexes
    && all_pairs (λ i j. not (i.number == j.number)) c.indexes && nat_le (length c.indexes) 16

-- collections in ascending order of their names, each once
abbrev pub are_named_apart : List Collection → Bool
are_named_apart cs = all_pairs (λ c d. is_lt (slice_cmp nat_cmp c.name d.name)) cs

-- no two collections have one number
abbrev pub are_numbered_apart : List Collection → Bool
are_numbered_apart [] = true
are_numbered_apart (c ∷ cs) = not (uses cs c.number) && are_numbered_apart cs

-- They are in order and within the limits.
unfoldable pub is_lawful : List Collection → Bool
is_lawful cs =
    are_named_apart cs && are_numbered_apart cs && list_all is_kept cs && nat_le (length cs) 1000
