-- What the entries of an index tell: their texts, each an encoded key and behind it the text of an
-- `_id`.
use Rattle.std.specs.Prelude.{◌≡◌, ◌⊎◌, ℕ, nat_eq, Bool, true, false, if◌then◌else◌, Option, Some}
use Rattle.std.specs.Prelude.{None, List, ◌++◌, length, drop, take, Contains, MatchOption, ◌≤◌}
use Rattle.std.specs.List.{flat_map, starts_with}
use Rattle.std.specs.Option.{option_to_list}
use Rattle.std.specs.Ordering.{is_gt, is_lt}
use Rattle.std.specs.declared.cmp.Ordering.TheVariants.{Less}
use Rattle.bson.specs.Tree.{Pairs}
use Rattle.value_order.specs.KeyText.{tree_text}
use Rattle.tree_model.specs.Keys.{Entry, Rises, key_cmp}
use Rattle.index.specs.Definition.{Definition}
use Rattle.index.specs.KeyTexts.{encoded_keys}
use Rattle.entry_model.specs.State.{Collection, key_of}
use Rattle.collections.specs.Lookups.{IsNumbered}

-- ---- of entries

-- what a key goes on with from a front
abbrev pub text_behind : List ℕ → List ℕ → Option (List ℕ)
text_behind front key =
    if starts_with nat_eq key front then Some (drop (length front) key) else None

-- those of all entries whose keys go on from it, in their order
abbrev pub texts_behind : List ℕ → List Entry → List (List ℕ)
texts_behind front entries = flat_map (λ x. option_to_list (text_behind front x.key)) entries

-- what the next key goes on with, where one is told and it goes on from the front
abbrev pub next_behind : List ℕ → Option (List ℕ) → Option (List ℕ)
next_behind front None = None
next_behind front (Some key) = text_behind front key

-- ---- of documents

-- an index of a collection
pub record Indexed : Type 0 where
  pub collection : Collection
  pub definition : Definition

-- The numbers are those of the collection and of the index.
pub record IsNumberedIndex (number index : ℕ) (now : List Collection) (at : Indexed) : Type 0 where
  pub numbered : IsNumbered now at.collection number
  pub listed : Contains at.collection.indexes at.definition
  pub same : at.definition.number ≡ index

-- It is that of an entry of a document: an encoded key, and the text of the `_id`.
abbrev pub IsEntryText : List Pairs → Definition → List ℕ → Type 0
IsEntryText ds i text =
    (d : Pairs) × (key : List ℕ) × Contains ds d × Contains (encoded_keys i.fields d) key
    × (text ≡ key ++ tree_text (key_of d))

-- The text isn't below the first, nor above the last and what goes on from it.
abbrev pub LiesBetween : List ℕ → List ℕ → List ℕ → Type 0
LiesBetween first last text =
    (is_lt (key_cmp text first) ≡ false) × (is_gt (key_cmp (take (length last) text) last) ≡ false)

-- Texts of entries of documents, each once and ascending; another one that lies between these two
-- is above all of them, and there is no other where these are all.
pub record AreFirstTexts (first last : List ℕ) (at : Indexed) (are_all : Bool)
    (texts : List (List ℕ)) : Type 0 where
  pub rise : Rises texts
  pub given : (text : List ℕ) → Contains texts text
      → IsEntryText at.collection.documents at.definition text
  pub above : (text other : List ℕ) → IsEntryText at.collection.documents at.definition text
      → LiesBetween first last text → Contains texts other
      → Contains texts text ⊎ (key_cmp other text ≡ Less)
  pub all : are_all ≡ true → (text : List ℕ)
      → IsEntryText at.collection.documents at.definition text
      → LiesBetween first last text → Contains texts text

-- Texts of entries of documents, each once and ascending; all that lie between these two are among
-- them.
pub record AreTextsBetween (first last : List ℕ) (at : Indexed)
    (texts : List (List ℕ)) : Type 0 where
  pub rise : Rises texts
  pub given : (text : List ℕ) → Contains texts text
      → IsEntryText at.collection.documents at.definition text
  pub all : (text : List ℕ) → IsEntryText at.collection.documents at.definition text
      → LiesBetween first last text → Contains texts text

-- ---- from one text on

-- The text is that of an entry of a document, and isn't below the first.
abbrev pub IsTextFrom : List ℕ → Indexed → List ℕ → Type 0
IsTextFrom first at text = IsEntryText at.collection.documents at.definition text
    × (is_lt (key_cmp text first) ≡ false)

-- So many texts are all of those from the first on that are below the next one.
pub record AreTextsBelow (first : List ℕ) (limit : ℕ) (at : Indexed) (texts : List (List ℕ))
    (next : List ℕ) : Type 0 where
  pub there : IsTextFrom first at next
  pub below : (text : List ℕ) → Contains texts text → key_cmp text next ≡ Less
  pub all : (text : List ℕ) → IsTextFrom first at text → key_cmp text next ≡ Less
      → Contains texts text
  pub full : length texts ≡ limit

-- Texts of entries of documents from the first on, each once and ascending, at most so many: all
-- that are below the next one, which is another; or, where none is told, all that aren't above the
-- last and what goes on from it.
pub record AreNextTexts (first last : List ℕ) (limit : ℕ) (at : Indexed)
    (next : Option (List ℕ)) (texts : List (List ℕ)) : Type 0 where
  pub rise : Rises texts
  pub given : (text : List ℕ) → Contains texts text → IsTextFrom first at text
  pub most : length texts ≤ limit
  pub behind : MatchOption next
      ((text : List ℕ) → IsEntryText at.collection.documents at.definition text
      → LiesBetween first last text → Contains texts text)
      (AreTextsBelow first limit at texts)

-- The same of a file's collection, which has no more documents than find room there.
pub record AreReadNext (first last : List ℕ) (limit : ℕ) (at : Indexed)
    (next : Option (List ℕ)) (texts : List (List ℕ)) : Type 0 where
  pub told : AreNextTexts first last limit at next texts
  pub few : length at.collection.documents ≤ 4294967295
