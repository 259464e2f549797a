-- What is known of documents that have to have one of some `_id`s.
use Rattle.std.specs.Prelude.{◌≡◌, ◌&&◌, ◌||◌, not, ℕ, Bool, true, List, [], ◌∷◌, Some, Contains}
use Rattle.std.specs.List.{AllByRecursion, AllPairs, list_any}
use Rattle.std.specs.declared.cmp.Ordering.TheVariants as orders
use Rattle.bson.specs.Tree.{Tree, Pairs}
use Rattle.value_order.specs.KeyText.{tree_text}
use Rattle.value_order.specs.Laws.{IsKey}
use Rattle.value_order.specs.Order.{bytes_cmp, value}
use Rattle.path.specs.Reach.{candidates}
use Rattle.filter.specs.Condition.{Conditions}
use Rattle.filter.specs.Matches.{matches}
use Rattle.index.specs.Changes.{is_among}
use Rattle.entry_model.specs.State.{Collection, key_of}
use Rattle.planner.specs.IdLaws.{AreIdTexts}
use Rattle.database_model.specs.Lawful.{IsStored}
use Rattle.collections.specs.Lookups.{IsNumbered}
use Rattle.entries.specs.declared.catalogue_reading.Catalogued.{Catalogued}
use Rattle.asked_documents.specs.Asking.{IsAsked}

-- the key text of a value that BSON can spell
pub record IsIdText (text : List ℕ) : Type 0 where
  pub id : Tree
  pub spelled : text ≡ tree_text id
  pub key : IsKey (value id)

-- Texts of values were put to others: none of those is lost.
pub record ArePut (before after : List (List ℕ)) : Type 0 where
  pub texts : AllByRecursion IsIdText before → AllByRecursion IsIdText after
  pub kept : (text : List ℕ) → is_among before text ≡ true → is_among after text ≡ true

-- Whatever has such a text and passes has one of these.
abbrev pub Tell : {X : Type 0} → (X → Type 0) → (X → List ℕ) → (X → Bool) → List (List ℕ)
    → Type 0
Tell {X} Is text_of passes texts =
    (x : X) → Is x → passes x ≡ true → is_among texts (text_of x) ≡ true

-- The same, or it passes another test.
abbrev pub TellBeside : {X : Type 0} → (X → Type 0) → (X → List ℕ) → (X → Bool) → (X → Bool)
    → List (List ℕ) → Type 0
TellBeside {X} Is text_of passes other texts =
    (x : X) → Is x → passes x ≡ true → (is_among texts (text_of x) || other x) ≡ true

-- a value that BSON can spell, and that is no array
abbrev pub IsPlain : Tree → Type 0
IsPlain t = IsKey (value t) × (candidates (Some t) ≡ t ∷ [])

abbrev pub TellValues : (Tree → Bool) → List (List ℕ) → Type 0
TellValues passes texts = Tell IsPlain tree_text passes texts

-- a document that is stored, and whose `_id` BSON can spell
abbrev pub HasId : Pairs → Type 0
HasId d = IsStored d × IsKey (value (key_of d))

abbrev pub TellIds : (Pairs → Bool) → List (List ℕ) → Type 0
TellIds passes texts = Tell HasId (λ d. tree_text (key_of d)) passes texts

abbrev pub TellIdsBeside : (Pairs → Bool) → (Pairs → Bool) → List (List ℕ) → Type 0
TellIdsBeside passes other texts = TellBeside HasId (λ d. tree_text (key_of d)) passes other texts

-- one of these filters matches it
abbrev pub one_matches : List Conditions → Pairs → Bool
one_matches filters d = list_any (λ rs. matches rs d) filters

-- it passes, and none of these filters matches it
abbrev pub but_not : (Pairs → Bool) → List Conditions → Pairs → Bool
but_not passes filters d = passes d && not (one_matches filters d)

-- a document of the collection, which is stored, and whose `_id` BSON can spell
abbrev pub IsIn : Collection → Pairs → Type 0
IsIn c d = Contains c.documents d × HasId d

-- Texts of `_id`s were put to others, and a document of the collection that passes has one of all.
pub record TellOf (c : Collection) (passes : Pairs → Bool) (before after : List (List ℕ))
    : Type 0 where
  pub put : ArePut before after
  pub tells : Tell (IsIn c) (λ d. tree_text (key_of d)) passes after

-- These ascending texts tell `_id`s, and a document of the collection that passes has one of them.
pub record AreIdsOf (number : ℕ) (passes : Pairs → Bool) (texts : List (List ℕ))
    (now : List Collection) (c : Collection) : Type 0 where
  pub numbered : IsNumbered now c number
  pub ids : List Tree
  pub told : AreIdTexts texts ids
  pub ascending : AllPairs (λ s t. bytes_cmp s t ≡ orders.Less) texts
  pub all : (d : Pairs) → Contains c.documents d → passes d ≡ true
      → Contains texts (tree_text (key_of d))

-- These ascending texts tell `_id`s of the collection that is asked, among them those of all its
-- documents that pass.
pub record AreIdsOfAsked (home : Catalogued) (passes : Pairs → Bool) (texts : List (List ℕ))
    (now : List Collection) (c : Collection) : Type 0 where
  pub asked : IsAsked home now c
  pub ids : AreIdsOf home.number passes texts now c
