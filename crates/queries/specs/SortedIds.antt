-- Short documents: what a sort looks at of a document, and its `_id`.
use Rattle.std.specs.Prelude.{◌≡◌, ◌⊎◌, ℕ, List, [], ◌∷◌, ◌++◌, take, Some, All, Contains, codes}
use Rattle.std.specs.List.{AllZip, flat_map}
use Rattle.bson.specs.Lookup.{lookup}
use Rattle.bson.specs.Tree.{Tree, Pairs}
use Rattle.database_model.specs.Find.{matching}
use Rattle.sort.specs.Sort.{SortField}
use Rattle.queries.specs.Folding.{TellFirst}
use Rattle.queries.specs.declared.sorted_ids.Shortening.{Shortening}

-- What the one document has of a name, so has the other.
abbrev pub IsPartOf : Pairs → Pairs → Type 0
IsPartOf part d = (name : List ℕ) (t : Tree) → lookup part name ≡ Some t → lookup d name ≡ Some t

-- Another part has no more names than one, but for this.
abbrev pub HasNoOther : List ℕ → Pairs → Pairs → Type 0
HasNoOther name old new = (other : List ℕ) (t : Tree) → lookup new other ≡ Some t
    → (lookup old other ≡ Some t) ⊎ (other ≡ name)

-- `_id`, and the first names of the sort's paths
abbrev pub looked_at : List SortField → List (List ℕ)
looked_at sort = codes "_id" ∷ flat_map (λ field. take 1 field.0) sort

-- The path has a first name, of which the short document has what the document has.
abbrev pub HasSameFirst : List (List ℕ) → Pairs → Pairs → Type 0
HasSameFirst [] d short = ⊥
HasSameFirst (name ∷ names) d short = lookup short name ≡ lookup d name

-- The short document has what the document has of `_id`, and of the first name of each of the
-- sort's paths, and no other name.
pub record IsShortOf (sort : List SortField) (d short : Pairs) : Type 0 where
  pub id : lookup short (codes "_id") ≡ lookup d (codes "_id")
  pub fields : All (λ field. HasSameFirst field.0 d short) sort
  pub only : (name : List ℕ) (t : Tree) → lookup short name ≡ Some t
      → Contains (looked_at sort) name

-- Of each document that the filter matches there is a short one, in their order, and those that
-- were kept tell the first ones of all these.
pub record KeepsShort (start : Shortening) (documents : List Pairs) (now : Shortening)
    : Type 0 where
  pub filter : now.filter.now ≡ start.filter.now
  pub sort : now.sort.now ≡ start.sort.now
  pub most : now.most ≡ start.most
  pub shorts : List Pairs
  pub each : AllZip (IsShortOf start.sort.now) (matching start.filter.now documents) shorts
  pub first : TellFirst start.sort.now start.most now.found.items (start.found.items ++ shorts)
