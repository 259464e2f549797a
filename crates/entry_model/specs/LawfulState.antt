-- What is kept of a state.
use Rattle.std.specs.Prelude.{◌≡◌, ◌≢◌, ℕ, suc, ◌≤◌, true, false, List, [], ◌∷◌, length, codes}
use Rattle.std.specs.Prelude.{Some, Ok, All, IsUtf8}
use Rattle.std.specs.List.{AllPairs}
use Rattle.std.specs.Ordering.{nat_cmp}
use Rattle.std.specs.Cmp.Lexicographic.{slice_cmp}
use Rattle.std.specs.declared.cmp.Ordering.TheVariants as orders
use Rattle.bson.specs.Tree.{Pairs}
use Rattle.bson.specs.Lookup.{lookup}
use Rattle.bson.specs.Lawful.{pairs_levels, IsDocument}
use Rattle.bson.specs.Spelling.{frame_of, pairs_bytes}
use Rattle.value_order.specs.Order.{compare}
use Rattle.value_order.specs.KeyText.{tree_text}
use Rattle.index.specs.Changes.{is_among}
use Rattle.index.specs.Definition.{Field, Definition, IsDefinition}
use Rattle.index.specs.IndexKeys.{is_multikey}
use Rattle.index.specs.KeyTexts.{encoded_keys, keys_in}
use Rattle.entry_model.specs.State.{Collection, key_of, uses}

-- A document that may be stored: BSON can spell it, within the limits, and it has an `_id` whose
-- key text is within its limit.
pub record IsStorable (ps : Pairs) : Type 0 where
  pub lawful : IsDocument ps
  pub size : length (frame_of (pairs_bytes ps)) ≤ 65535
  pub depth : suc (pairs_levels ps) ≤ 90
  pub key : lookup ps (codes "_id") ≡ Some (key_of ps)
  pub short : length (tree_text (key_of ps)) ≤ 500

-- documents in ascending order of `_id`, each once
abbrev pub IsRising : List Pairs → Type 0
IsRising ds = AllPairs (λ d e. compare (key_of d) (key_of e) ≡ orders.Less) ds

-- ---- indexes

-- no key of the one document is one of the other's
abbrev pub ShareNoKey : List Field → Pairs → Pairs → Type 0
ShareNoKey fields d e =
    (key : List ℕ) → is_among (encoded_keys fields d) key ≡ true
    → is_among (encoded_keys fields e) key ≡ false

-- An index of these documents: none of them is refused, a unique index has no key in two of them,
-- and it is multikey where one of them has an array on one of the paths.
pub record IsIndexOf (documents : List Pairs) (i : Definition) : Type 0 where
  pub lawful : IsDefinition i
  pub keys : All (λ d. keys_in i.fields d ≡ Ok (encoded_keys i.fields d)) documents
  pub unique : i.is_unique ≡ true → AllPairs (ShareNoKey i.fields) documents
  pub multi : All (λ d. is_multikey i.fields d ≡ true → i.is_multi ≡ true) documents

-- ---- collections

-- A collection within the limits.
pub record IsKept (c : Collection) : Type 0 where
  pub name : IsUtf8 c.name
  pub short : length c.name ≤ 255
  pub least : 1 ≤ c.number
  pub most : c.number ≤ 1000
  pub rising : IsRising c.documents
  pub storable : All IsStorable c.documents
  pub indexes : All (IsIndexOf c.documents) c.indexes
  pub distinct : AllPairs (λ i j. i.number ≢ j.number) c.indexes
  pub few : length c.indexes ≤ 16

-- collections in ascending order of their names, each once
abbrev pub AreNamedApart : List Collection → Type 0
AreNamedApart cs = AllPairs (λ c d. slice_cmp nat_cmp c.name d.name ≡ orders.Less) cs

-- no two collections have one number
abbrev pub AreNumberedApart : List Collection → Type 0
AreNumberedApart [] = Unit {0}
AreNumberedApart (c ∷ cs) = (uses cs c.number ≡ false) × AreNumberedApart cs

-- What is kept of the collections: they are in order and within the limits.
pub record IsLawfulState (collections : List Collection) : Type 0 where
  pub apart : AreNamedApart collections
  pub numbers : AreNumberedApart collections
  pub kept : All IsKept collections
  pub few : length collections ≤ 1000
