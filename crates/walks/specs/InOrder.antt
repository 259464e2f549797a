-- Batches of documents that are read in the order of an index of their collection.
use Rattle.std.specs.Prelude.{◌≡◌, ◌⊎◌, ℕ, ◌-◌, ◌<◌, ◌≤◌, Bool, true, false, not, List, ◌++◌}
use Rattle.std.specs.Prelude.{[], ◌∷◌, length, map, drop, All, Contains, Option, Some, None}
use Rattle.std.specs.Prelude.{MatchOption}
use Rattle.std.specs.List.{filter, list_any}
use Rattle.std.specs.Ordering.{is_lt}
use Rattle.std.specs.declared.cmp.Ordering.TheVariants.{Less}
use Rattle.std.specs.Global.{Vec}
use Rattle.bson.specs.Tree.{Pairs}
use Rattle.value_order.specs.KeyText.{tree_text}
use Rattle.tree_model.specs.Keys.{Rises, key_cmp}
use Rattle.filter.specs.Condition.{Conditions}
use Rattle.sort.specs.Sort.{SortField, order}
use Rattle.projection.specs.Projection.{Projection, project}
use Rattle.index.specs.Definition.{Definition}
use Rattle.index.specs.KeyTexts.{encoded_keys}
use Rattle.entry_model.specs.State.{Collection, key_of}
use Rattle.entry_model.specs.StateReads.{find_document}
use Rattle.collections.specs.IndexTexts.{Indexed, IsTextFrom}
use Rattle.collections.specs.Lookups.{IsNumbered}
use Rattle.planner.specs.KeyRange.{IsSpellable}
use Rattle.planner.specs.KeyScan.{id_text}
use Rattle.planner.specs.KeySpan.{last_key}
use Rattle.plan_model.specs.Plan.{range_in}
use Rattle.planner.specs.RangeReading.{LiesBetween}
use Rattle.database_model.specs.Cursors.{batch_of, batch_reply}
use Rattle.database_model.specs.Find.{matching, window}
use Rattle.database_model.specs.Lawful.{IsStored, IsWithin}
use Rattle.database_model.specs.Refusals.{ok_reply}
use Rattle.replies.specs.View.{batch_name}
use Rattle.walks.specs.Batches.{Gives, is_over}
use Rattle.walks.specs.Listed.{Chosen, Stored, id_text_of}
use Rattle.walks.specs.declared.batches.BatchAsked.{BatchAsked}
use Rattle.walks.specs.declared.batches.GivenBatch.{GivenBatch}
use Rattle.walks.specs.declared.batches.Giving.{Giving}
use Rattle.walks.specs.declared.in_order.OrderedWalk.{OrderedWalk}

-- ---- what is given in the order of a sort, from an entry of an index on

-- No entry of the document in the index has a text below this one.
abbrev pub is_from_entry : Definition → List ℕ → Pairs → Bool
is_from_entry i from d =
    not (list_any (λ key. is_lt (key_cmp (key ++ tree_text (key_of d)) from))
    (encoded_keys i.fields d))

-- those of the documents
abbrev pub rest_from_entry : Definition → List ℕ → List Pairs → List Pairs
rest_from_entry i from ds = filter (is_from_entry i from) ds

-- What is given of documents in the order of a sort, of which a filter and a projection say what is
-- given, so many are left out at the front, and so many may come then (0: all).
abbrev pub picked_in_order : Conditions → List SortField → Projection → ℕ → ℕ → List Pairs
    → List Pairs
picked_in_order rules sort p skip limit ds =
    map (project p) (window skip limit (order sort (matching rules ds)))

-- the same of those from an entry on
abbrev pub ordered_rest : Conditions → List SortField → Projection → ℕ → ℕ → Definition → List ℕ
    → List Pairs → List Pairs
ordered_rest rules sort p skip limit i from ds =
    picked_in_order rules sort p skip limit (rest_from_entry i from ds)

abbrev pub rest_in_order : List SortField → OrderedWalk → List Pairs → List Pairs
rest_in_order sort w ds =
    ordered_rest w.filter.now sort w.projection.now w.skip w.limit w.index.now w.from.now ds

-- The entries of the index stand in the order of the sort, and none above the last text and what
-- goes on from it is of a document that the filter matches.
pub record IsInOrder (rules : Conditions) (sort : List SortField) (i : Definition)
    (last : List ℕ) : Type 0 where
  pub sorted : (range_in rules sort (Some i)).is_sorted ≡ true
  pub spellable : IsSpellable (range_in rules sort (Some i))
  pub ends : last ≡ last_key i.fields (range_in rules sort (Some i))

-- the collection of this number, which has the index, and whose documents are such as commands
-- store
pub record IsIndexedIn (number : ℕ) (i : Definition) (now : List Collection)
    (c : Collection) : Type 0 where
  pub numbered : IsNumbered now c number
  pub listed : Contains c.indexes i
  pub stored : All IsStored c.documents

-- a collection, and a sort
pub record Sorted : Type 0 where
  pub home : Collection
  pub sort : List SortField

-- the collection of this number, in whose index the entries stand in the order of the sort
pub record IsOrderedIn (number : ℕ) (w : OrderedWalk) (now : List Collection)
    (asked : Sorted) : Type 0 where
  pub indexed : IsIndexedIn number w.index.now now asked.home
  pub in_order : IsInOrder w.filter.now asked.sort w.index.now w.last.now

-- ---- a batch of it

-- Others are left, and they are what comes from an entry on.
pub record GoesOnInOrder (sort : List SortField) (w : OrderedWalk) (ds : List Pairs) (n : ℕ)
    (text : List ℕ) : Type 0 where
  pub more : n < length (rest_in_order sort w ds)
  pub left : ordered_rest w.filter.now sort w.projection.now 0 (w.limit - n) w.index.now text ds
      ≡ drop n (rest_in_order sort w ds)

-- The batch has what goes into it of what comes in the order, its reply says so, and whether others
-- are left.
pub record IsOrderedBatch (sort : List SortField) (w : OrderedWalk) (asked : BatchAsked)
    (ds : List Pairs) (b : GivenBatch) : Type 0 where
  pub counted : b.count ≡ batch_of asked.most (rest_in_order sort w ds)
  pub says : b.reply ≡ ok_reply (batch_reply (batch_name asked.kind) b.count
      (rest_in_order sort w ds) asked.number asked.namespace.now)
  pub next : MatchOption b.next (length (rest_in_order sort w ds) ≤ b.count)
      (λ text. GoesOnInOrder sort w ds b.count text.items)
  pub within : All IsWithin (rest_in_order sort w ds)
  pub few : length (rest_in_order sort w ds) ≤ 4294967295

-- ---- documents to which entries lead

-- They are found by their `_id`s, of which the texts of the entries tell one each.
pub record AreLed (i : Definition) (ds : List Pairs) (texts : List (List ℕ))
    (documents : List Pairs) : Type 0 where
  pub found : All (λ d. find_document ds (key_of d) ≡ Some d) documents
  pub told : map (λ text. id_text i.fields text) texts ≡ map (λ d. Some (id_text_of d)) documents

-- So it is in the collection of this number, whose documents are such as commands store.
pub record AreLedIn (number : ℕ) (i : Definition) (texts : List (List ℕ)) (now : List Collection)
    (chosen : Chosen) : Type 0 where
  pub numbered : IsNumbered now chosen.home number
  pub led : AreLed i chosen.home.documents texts chosen.documents

-- The text of an entry tells the `_id` of a document of the collection of this number.
pub record IsLedIn (number : ℕ) (i : Definition) (text : List ℕ) (now : List Collection)
    (one : Stored) : Type 0 where
  pub numbered : IsNumbered now one.home number
  pub found : find_document one.home.documents (key_of one.document) ≡ Some one.document
  pub told : id_text i.fields text ≡ Some (id_text_of one.document)

-- the `_id` of a document that is left
abbrev pub IsNoted : Bool → List ℕ → Option (Vec ℕ) → Type 0
IsNoted false id noted = noted ≡ None
IsNoted true id None = ⊥
IsNoted true id (Some text) = text.items ≡ id

-- It was lent to a batch, and where there was no room for it, its `_id` was noted.
pub record GivesOne (d : Pairs) (old : Giving) (is_left : Bool) (now : Giving) : Type 0 where
  pub gives : (start : Giving) (all : List Pairs) → Gives start all old
      → Gives start (all ++ d ∷ []) now
  pub noted : IsNoted is_left (id_text_of d) now.next

-- The text of an entry is one of these, and tells this `_id`.
abbrev pub IsTextLeft : Definition → List (List ℕ) → List ℕ → Option (Vec ℕ) → Type 0
IsTextLeft i texts id None = ⊥
IsTextLeft i texts id (Some text) =
    Contains texts text.items × (id_text i.fields text.items ≡ Some id)

-- The entry at which there was no room, where there was one.
abbrev pub IsLeft : Definition → List (List ℕ) → Giving → Option (Vec ℕ) → Type 0
IsLeft i texts now left =
    MatchOption now.next (left ≡ None) (λ id. IsTextLeft i texts id.items left)

-- The documents were lent to a batch.
pub record GivesLed (i : Definition) (texts : List (List ℕ)) (documents : List Pairs)
    (old now : Giving) (place : Option (Vec ℕ)) : Type 0 where
  pub gives : (start : Giving) (all : List Pairs) → Gives start all old
      → Gives start (all ++ documents) now
  pub left : IsLeft i texts now place

-- ---- entries that were read so far

-- All entries of the index from the first text on that are below another one, which is no lower,
-- were read, in their order, and their documents lent to a batch.
pub record HasReadBelow (start now : Giving) (first below : List ℕ) (at : Indexed) : Type 0 where
  pub no_lower : is_lt (key_cmp below first) ≡ false
  pub texts : List (List ℕ)
  pub documents : List Pairs
  pub rise : Rises texts
  pub given : (text : List ℕ) → Contains texts text
      → IsTextFrom first at text × (key_cmp text below ≡ Less)
  pub all : (text : List ℕ) → IsTextFrom first at text → key_cmp text below ≡ Less
      → Contains texts text
  pub led : AreLed at.definition at.collection.documents texts documents
  pub gives : Gives start documents now

-- The first entries from the first text on were read so, all of them up to the last one, or as many
-- as the batch has room for.
pub record HasReadFirst (start now : Giving) (first last : List ℕ) (at : Indexed)
    (place : Option (Vec ℕ)) : Type 0 where
  pub texts : List (List ℕ)
  pub documents : List Pairs
  pub rise : Rises texts
  pub given : (text : List ℕ) → Contains texts text → IsTextFrom first at text
  pub above : (text other : List ℕ) → IsTextFrom first at text → LiesBetween first last text
      → Contains texts other → Contains texts text ⊎ (key_cmp other text ≡ Less)
  pub led : AreLed at.definition at.collection.documents texts documents
  pub gives : Gives start documents now
  pub left : IsLeft at.definition texts now place
  pub whole : (is_over now ≡ true) ⊎ ((text : List ℕ) → IsTextFrom first at text
      → LiesBetween first last text → Contains texts text)
  pub few : length at.collection.documents ≤ 4294967295
