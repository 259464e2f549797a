-- Documents that are noted as removed from the file, with their entries in the indexes of their
-- collection.
use Rattle.std.specs.Prelude.{◌≡◌, ⊤, ℕ, List, [], ◌∷◌, map, Some, Ok, All, Result, MatchResult}
use Rattle.bson.specs.Tree.{Pairs}
use Rattle.tree_model.specs.Keys.{Edit}
use Rattle.collections.specs.Lookups.{IsNumbered}
use Rattle.path.specs.declared.refusal.Refusal.{Refusal}
use Rattle.path.specs.declared.refusal.Refusal.TheVariants as refusals
use Rattle.index.specs.Definition.{Definition}
use Rattle.entry_model.specs.Documents.{with_documents, without_document}
use Rattle.index.specs.KeyTexts.{encoded_keys, keys_in_all}
use Rattle.entry_model.specs.LawfulState.{IsLawfulState, IsStorable}
use Rattle.entry_model.specs.State.{Collection, find_collection}
use Rattle.entry_model.specs.StateEntries.{Leads}
use Rattle.entry_model.specs.StateReads.{find_document}
use Rattle.entries.specs.declared.catalogue_reading.Catalogued.{Catalogued}
use Rattle.database_model.specs.Documents.{key_of}
use Rattle.statements.specs.Redoing.{without_each}

-- The collection is there, and this is what the catalogue has of it.
pub record IsHome (now : List Collection) (c : Collection) (home : Catalogued) : Type 0 where
  pub numbered : IsNumbered now c home.number
  pub indexed : c.indexes ≡ home.indexes.items

-- so the collection of this name
pub record HasHome (now : List Collection) (name : List ℕ) (home : Catalogued) : Type 0 where
  pub collection : Collection
  pub found : find_collection now name ≡ Some collection
  pub catalogued : IsHome now collection home

-- ---- documents

-- They are documents of the list, each once: the first is found by its `_id`, and the others are
-- without it.
abbrev pub AreThere : List Pairs → List Pairs → Type 0
AreThere [] ds = ⊤
AreThere (d ∷ rest) ds =
    (find_document ds (key_of d) ≡ Some d) × AreThere rest (without_document (key_of d) ds)

-- a document that may be stored, and which none of these indexes refuses
pub record IsIndexable (indexes : List Definition) (d : Pairs) : Type 0 where
  pub storable : IsStorable d
  pub keyed : keys_in_all indexes d ≡ Ok (map (λ i. encoded_keys i.fields d) indexes)

-- Wherever the old edits lead to a lawful state with a collection of this number and of these
-- indexes, which has these documents, the new ones lead to the state without them.
abbrev pub TakesOut : List Edit → List Edit → ℕ → List Definition → List Pairs → Type 0
TakesOut old new number indexes gone =
    (a b : List Collection) (c : Collection) → Leads old a b → IsLawfulState b
    → find_collection b c.name ≡ Some c → c.number ≡ number → c.indexes ≡ indexes
    → AreThere gone c.documents
    → let after = with_documents c (without_each gone c.documents) b in
    Leads new a after × IsLawfulState after

-- Documents of a collection were noted as removed behind other edits, or memory ran out, if the
-- indexes refuse none of them.
abbrev pub Removes : Catalogued → List Pairs → Result (Unit {0}) Refusal → List Edit → List Edit
    → Type 0
Removes home documents result before after = MatchResult result
    (λ _. TakesOut before after home.number home.indexes.items documents)
    (λ e. All (IsIndexable home.indexes.items) documents → e ≡ refusals.OutOfMemory)
