-- What puts and removals of documents make of a list of them, and those of collections of a state.
use Rattle.std.specs.Prelude.{◌≡◌, ℕ, ◌<◌, false, if◌then◌else◌, List, [], ◌∷◌, length, Some, None}
use Rattle.std.specs.Ordering.{is_eq}
use Rattle.bson.specs.Tree.{Tree, Pairs}
use Rattle.value_order.specs.Order.{compare}
use Rattle.tree_model.specs.Keys.{Edit}
use Rattle.entry_model.specs.State.{Collection, by_order, key_of, empty_collection, find_collection}
use Rattle.entry_model.specs.State.{uses, put_collection, without_collection}
use Rattle.entry_model.specs.StateEntries.{Leads}
use Rattle.entry_model.specs.LawfulState.{IsLawfulState}

-- ---- documents

-- the document in place of the one of its `_id`, or in its order among the others
abbrev pub put_document : Pairs → List Pairs → List Pairs
put_document new [] = new ∷ []
put_document new (d ∷ ds) =
    by_order (compare (key_of new) (key_of d))
    (new ∷ d ∷ ds) (new ∷ ds) (d ∷ put_document new ds)

-- the documents without the one of this `_id`
abbrev pub without_document : Tree → List Pairs → List Pairs
without_document id [] = []
without_document id (d ∷ ds) =
    if is_eq (compare id (key_of d)) then ds else d ∷ without_document id ds

-- the state with these documents in a collection
abbrev pub with_documents : Collection → List Pairs → List Collection → List Collection
with_documents c ds cs = put_collection (record c { documents = ds }) cs

-- ---- states

-- Wherever the old edits lead to a lawful state, the new ones lead to one with an empty collection
-- more, where its name and its number are new and there is room.
abbrev pub AddsCollection : List Edit → List Edit → List ℕ → ℕ → Type 0
AddsCollection old new name number =
    (a b : List Collection) → Leads old a b → IsLawfulState b
    → find_collection b name ≡ None → uses b number ≡ false → length b < 1000
    → let after = put_collection (empty_collection name number) b in
    Leads new a after × IsLawfulState after

-- So they lead to one without a collection, where it has no documents.
abbrev pub RemovesCollection : List Edit → List Edit → List ℕ → Type 0
RemovesCollection old new name =
    (a b : List Collection) (c : Collection) → Leads old a b → IsLawfulState b
    → find_collection b name ≡ Some c → c.documents ≡ []
    → let after = without_collection name b in Leads new a after × IsLawfulState after
