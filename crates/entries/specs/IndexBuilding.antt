-- How edits that are noted document by document make an index of all documents, and drop one.
use Rattle.std.specs.Prelude.{◌≡◌, ℕ, List, [], ◌∷◌, ◌++◌}
use Rattle.std.specs.List.{flat_map}
use Rattle.bson.specs.Tree.{Pairs}
use Rattle.tree_model.specs.Keys.{Edit}
use Rattle.index.specs.Definition.{Definition}
use Rattle.entries.specs.Indexed.{GoesOnBy, catalogue_put}
use Rattle.entry_model.specs.State.{Collection, put_collection}
use Rattle.entry_model.specs.StateEntries.{index_entries, puts, removals, Leads}
use Rattle.entry_model.specs.StateLaws.{MayBecome}

-- Edits that go on by some and then by others go on by all of them.
abbrev pub GoOnFurther : Type 0
GoOnFurther =
    (old es mid fs new : List Edit) → GoesOnBy old es mid → GoesOnBy mid fs new
    → GoesOnBy old (es ++ fs) new

-- Where the old edits lead to a state from which some lead on, the new ones that go on by these
-- lead there too.
abbrev pub GoWhereTheyLead : Type 0
GoWhereTheyLead =
    (old es new : List Edit) (a b c : List Collection) → GoesOnBy old es new → Leads old a b
    → Leads es b c → Leads new a c

-- the entries of these documents in an index are put, or removed
abbrev pub HasPutEntries : List Edit → List Edit → ℕ → Definition → List Pairs → Type 0
HasPutEntries old new number i ds =
    GoesOnBy old (puts (flat_map (λ d. index_entries number d i) ds)) new

abbrev pub HasRemovedEntries : List Edit → List Edit → ℕ → Definition → List Pairs → Type 0
HasRemovedEntries old new number i ds =
    GoesOnBy old (removals (flat_map (λ d. index_entries number d i) ds)) new

-- Edits have put those of no document, and those of one more where they go on by these.
abbrev pub PutsOneMore : Type 0
PutsOneMore =
    (old : List Edit) (number : ℕ) (i : Definition) → HasPutEntries old old number i []
    × ((mid new : List Edit) (ds : List Pairs) (d : Pairs) → HasPutEntries old mid number i ds
    → GoesOnBy mid (puts (index_entries number d i)) new
    → HasPutEntries old new number i (ds ++ d ∷ []))

abbrev pub RemovesOneMore : Type 0
RemovesOneMore =
    (old : List Edit) (number : ℕ) (i : Definition) → HasRemovedEntries old old number i []
    × ((mid new : List Edit) (ds : List Pairs) (d : Pairs) → HasRemovedEntries old mid number i ds
    → GoesOnBy mid (removals (index_entries number d i)) new
    → HasRemovedEntries old new number i (ds ++ d ∷ []))

-- Where those of all documents of a collection are put, and then what the catalogue says of it with
-- the index, the index is made.
abbrev pub MakesIndexOfAll : Type 0
MakesIndexOfAll =
    (old mid new : List Edit) (a b : List Collection) (c : Collection) (i : Definition)
    → Leads old a b
    → HasPutEntries old mid c.number i c.documents
    → GoesOnBy mid (catalogue_put c.name c.number (c.indexes ++ i ∷ []) ∷ []) new
    → let now = record c { indexes = c.indexes ++ i ∷ [] } in MayBecome c now b
    → Leads new a (put_collection now b)

-- Where those of all are removed, and then what the catalogue says of it without the index is put,
-- the index is dropped.
abbrev pub DropsIndexOfAll : Type 0
DropsIndexOfAll =
    (old mid new : List Edit) (a b : List Collection) (c : Collection)
    (front back : List Definition) (i : Definition) → Leads old a b
    → c.indexes ≡ front ++ i ∷ back
    → HasRemovedEntries old mid c.number i c.documents
    → GoesOnBy mid (catalogue_put c.name c.number (front ++ back) ∷ []) new
    → let now = record c { indexes = front ++ back } in MayBecome c now b
    → Leads new a (put_collection now b)
