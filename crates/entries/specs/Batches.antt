-- What stands in a map from a key on, as a reader of batches finds it.
use Rattle.std.specs.Prelude.{◌≡◌, ℕ, not, List, [], ◌∷◌, ◌++◌, length, map, take, drop, Some, All}
use Rattle.std.specs.Ordering.{is_lt}
use Rattle.bson.specs.Tree.{Pairs}
use Rattle.tree_model.specs.Keys.{Entry, IsNotUnder, keep_if, key_cmp, window}
use Rattle.entry_model.specs.State.{Collection, find_collection}
use Rattle.entry_model.specs.StateEntries.{key_under, document_entry}
use Rattle.entry_model.specs.StateReads.{SpellsLawful}
use Rattle.entry_model.specs.LawfulState.{IsStorable, IsRising}

-- the documents whose entries are not below a key
abbrev pub documents_at : ℕ → List ℕ → List Pairs → List Pairs
documents_at number key [] = []
documents_at number key (d ∷ ds) =
    keep_if (not (is_lt (key_cmp (document_entry number d).key key))) d (documents_at number key ds)

-- From a key on, up to the end of a collection's documents, stand the entries of these.
abbrev pub ListsDocumentsFrom : Type 0
ListsDocumentsFrom =
    (entries : List Entry) (cs : List Collection) (c : Collection) (key : List ℕ)
    → SpellsLawful entries cs
    → find_collection cs c.name ≡ Some c → IsNotUnder key (key_under c.number 0 [])
    → window key (Some (key_under c.number 1 [])) entries
    ≡ map (document_entry c.number) (documents_at c.number key c.documents)

-- From the first key under a collection's number on these are all of its documents.
abbrev pub AllDocuments : Type 0
AllDocuments = (number : ℕ) (ds : List Pairs) → documents_at number (key_under number 0 []) ds ≡ ds

-- Where some entries come before another's, they are those of the first documents, and from the key
-- of that one on the others stand.
abbrev pub GoesOnBehind : Type 0
GoesOnBehind =
    (number : ℕ) (key : List ℕ) (ds : List Pairs) (entries others : List Entry) (next : Entry)
    → IsRising ds → All IsStorable ds
    → let left = documents_at number key ds in
    map (document_entry number) left ≡ entries ++ next ∷ others
    → (entries ≡ map (document_entry number) (take (length entries) left))
    × (documents_at number next.key ds ≡ drop (length entries) left)
    × IsNotUnder next.key (key_under number 0 [])
