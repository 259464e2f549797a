-- How the entries of a file are judged, one after the other, and what they make of the collections.
use Rattle.std.specs.Prelude.{◌≡◌, ◌≢◌, ◌⊎◌, ℕ, ◌+◌, ◌<◌, ◌≤◌, Bool, true, false, ◌==◌, ◌&&◌, not}
use Rattle.std.specs.Prelude.{List, [], ◌∷◌, length, map, take, drop, if◌then◌else◌, Option, Some}
use Rattle.std.specs.Prelude.{None, All, Ok}
use Rattle.std.specs.Int.{w32, from_be_bytes}
use Rattle.std.specs.Global.{Vec}
use Rattle.std.specs.List.{list_all, list_any}
use Rattle.std.specs.Ordering.{nat_cmp, is_lt}
use Rattle.std.specs.Cmp.Lexicographic.{slice_cmp}
use Rattle.bson.specs.Tree.{Pairs}
use Rattle.bson.specs.Lawful.{IsDocument}
use Rattle.value_order.specs.KeyText.{tree_text}
use Rattle.tree_model.specs.Keys.{Entry}
use Rattle.roots.specs.declared.opening.OpenFault.{OpenFault}
use Rattle.roots.specs.declared.opening.OpenFault.TheVariants as faults
use Rattle.index.specs.Definition.{Definition}
use Rattle.entry_model.specs.Documents.{put_document, with_documents}
use Rattle.entry_model.specs.Entering.{becomes_multikey, clashes}
use Rattle.index.specs.KeyTexts.{encoded_keys, keys_in_all}
use Rattle.entry_model.specs.LawfulState.{IsKept as IsIndexKept, IsLawfulState as IsIndexLawful}
use Rattle.entry_model.specs.State.{Collection, put_collection}
use Rattle.entry_model.specs.StateEntries.{catalogue_entry, document_entry}
use Rattle.collections.specs.IndexChecks.{lacks_any}
use Rattle.database_model.specs.Documents.{key_of}
use Rattle.database_model.specs.Lawful.{IsStored}

-- the fault is want of memory, or the entry is none of a file's
abbrev pub IsFaultOf : OpenFault → Type 0 → Type 0
IsFaultOf e why = (e ≡ faults.Memory) ⊎ ((e ≡ faults.Damaged) × why)

-- ---- an entry of the catalogue

-- a collection as the catalogue tells it: without its documents
abbrev pub bare : Collection → Collection
bare c = record c { documents = [] }

abbrev pub listed_of : List Collection → List Collection
listed_of now = map bare now

-- a name comes behind that of another, and has another number
abbrev pub stands_behind : Collection → Collection → Bool
stands_behind n m = is_lt (slice_cmp nat_cmp m.name n.name) && not (m.number == n.number)

-- one of these indexes has this number
abbrev pub has_number : ℕ → List Definition → Bool
has_number n is = list_any (λ i. i.number == n) is

-- no two of them have one number
abbrev pub are_apart : List Definition → Bool
are_apart [] = true
are_apart (i ∷ is) = not (has_number i.number is) && are_apart is

-- The entry of a collection within the limits, which may follow those that the catalogue has so
-- far.
pub record IsName (listed : List Collection) (pair : Entry) (n : Collection) : Type 0 where
  pub pair_is : pair ≡ catalogue_entry n
  pub plain : n.documents ≡ []
  pub kept : IsIndexKept n
  pub behind : list_all (stands_behind n) listed ≡ true
  pub room : length listed < 1000

-- ---- an entry of a document

-- the collection of this number
abbrev pub numbered : ℕ → List Collection → Option Collection
numbered n [] = None
numbered n (c ∷ cs) = if c.number == n then Some c else numbered n cs

-- the text of a document's `_id`, where the document may be stored
abbrev pub JudgesText : Pairs → Option (Vec ℕ) → Type 0
JudgesText document None = IsStored document → ⊥
JudgesText document (Some text) = IsStored document × (text.items ≡ tree_text (key_of document))

-- its encoded keys in each of these indexes
abbrev pub keys_among : List Definition → Pairs → List (List (List ℕ))
keys_among indexes d = map (λ i. encoded_keys i.fields d) indexes

-- how many they are
abbrev pub key_count : List (List (List ℕ)) → ℕ
key_count [] = 0
key_count (keys ∷ all) = length keys + key_count all

-- None of these indexes refuses the document, and those are multikey on whose paths it has an
-- array.
pub record IsIndexable (indexes : List Definition) (d : Pairs) : Type 0 where
  pub keys : keys_in_all indexes d ≡ Ok (keys_among indexes d)
  pub noted : list_any (becomes_multikey d) indexes ≡ false

-- The entry of a document that may be stored in a collection of this number.
pub record IsDocumentAt (number : ℕ) (pair : Entry) (document : Pairs) : Type 0 where
  pub pair_is : pair ≡ document_entry number document
  pub stored : IsStored document
  pub readable : IsDocument document

-- The entry of a document that may be stored in this collection, with its indexes.
pub record IsStoredAt (c : Collection) (pair : Entry) (document : Pairs) : Type 0 where
  pub pair_is : pair ≡ document_entry c.number document
  pub stored : IsStored document
  pub readable : IsDocument document
  pub indexable : IsIndexable c.indexes document

-- Among all entries each of its keys has one, and in a unique index no other document has an entry
-- of that key.
abbrev pub HasItsKeys : List Entry → Collection → Pairs → Type 0
HasItsKeys all c d =
    lacks_any c.number (tree_text (key_of d)) c.indexes (keys_among c.indexes d) all ≡ false

-- ---- an entry of an index

-- the number of the index that a key stands under, 0 for the catalogue and for documents
abbrev pub index_in : List ℕ → ℕ
index_in key = from_be_bytes w32 (take 4 (drop 4 key))

abbrev pub is_of_index : Entry → Bool
is_of_index pair = not (index_in pair.key == 0)

-- ---- what entries make

-- What was read of a file so far: the collections, how many documents they have and how many keys
-- these have, and how many entries of indexes there were.
pub record Progress : Type 0 where
  pub now : List Collection
  pub documents : ℕ
  pub keys : ℕ
  pub seen : ℕ

abbrev pub nothing_read : Progress
nothing_read = record { now = []; documents = 0; keys = 0; seen = 0 }

-- the collection with a document, where none of another `_id` has one of its keys in a unique index
abbrev pub with_document_in : Option Collection → Pairs → List Collection → List Collection
with_document_in None d now = now
with_document_in (Some c) d now =
    if list_any (clashes c.documents d) c.indexes then now
    else with_documents c (put_document d c.documents) now

abbrev pub with_document_at : ℕ → Pairs → List Collection → List Collection
with_document_at number d now = with_document_in (numbered number now) d now

pub record TakesName (p : Progress) (pair : Entry) (next : Progress) : Type 0 where
  pub name : Collection
  pub is : IsName (listed_of p.now) pair name
  pub next_is : next ≡ record p { now = put_collection name p.now }

pub record TakesDocument (all : List Entry) (p : Progress) (pair : Entry)
    (next : Progress) : Type 0 where
  pub collection : Collection
  pub document : Pairs
  pub listed : numbered collection.number (listed_of p.now) ≡ Some collection
  pub is : IsStoredAt collection pair document
  pub keyed : HasItsKeys all collection document
  pub next_is : next ≡ record {
    now = with_document_at collection.number document p.now;
    documents = p.documents + 1;
    keys = p.keys + key_count (keys_among collection.indexes document);
    seen = p.seen;
  }

pub record TakesKey (p : Progress) (pair : Entry) (next : Progress) : Type 0 where
  pub long : 8 ≤ length pair.key
  pub is : is_of_index pair ≡ true
  pub next_is : next ≡ record p { seen = p.seen + 1 }

abbrev pub Takes : List Entry → Progress → Entry → Progress → Type 0
Takes all p pair next =
    TakesName p pair next ⊎ (TakesDocument all p pair next ⊎ TakesKey p pair next)

abbrev pub Refuses : List Entry → Progress → Entry → Type 0
Refuses all p pair = (next : Progress) → Takes all p pair next → ⊥

-- ---- one after the other

abbrev pub TakesAll : List Entry → Progress → List Entry → Progress → Type 0
TakesAll all p [] last = p ≡ last
TakesAll all p (pair ∷ pairs) last =
    (next : Progress) × Takes all p pair next × TakesAll all next pairs last

-- one of them is refused
abbrev pub RefusesOne : List Entry → Progress → List Entry → Type 0
RefusesOne all p [] = ⊥
RefusesOne all p (pair ∷ pairs) = Refuses all p pair
    ⊎ ((next : Progress) × Takes all p pair next × RefusesOne all next pairs)

-- All of them are taken, and there are as many entries of indexes as keys.
pub record Makes (all : List Entry) (end : Progress) : Type 0 where
  pub takes : TakesAll all nothing_read all end
  pub even : end.keys ≡ end.seen

-- They make no collections: one of them is refused, or there are more or fewer entries of indexes
-- than keys.
abbrev pub MakesNone : List Entry → Type 0
MakesNone all = RefusesOne all nothing_read all
    ⊎ ((end : Progress) × TakesAll all nothing_read all end × (end.keys ≢ end.seen))

-- ---- what is kept meanwhile

-- lawful collections whose documents may be stored
pub record AreLoaded (now : List Collection) : Type 0 where
  pub lawful : IsIndexLawful now
  pub stored : All (λ c. All IsStored c.documents) now

-- the catalogue so far tells these
pub record IsLoadingAs (listed : List Collection) (now : List Collection) : Type 0 where
  pub named : listed ≡ listed_of now
  pub loaded : AreLoaded now
