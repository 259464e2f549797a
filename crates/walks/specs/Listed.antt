-- Batches of documents of which a list has the key texts of the `_id`s, in its order.
use Rattle.std.specs.Prelude.{◌≡◌, ℕ, ◌<◌, ◌≤◌, List, map, length, All, Some, MatchOption}
use Rattle.bson.specs.Tree.{Pairs}
use Rattle.value_order.specs.KeyText.{tree_text}
use Rattle.projection.specs.Projection.{Projection, project}
use Rattle.entry_model.specs.LawfulState.{IsStorable}
use Rattle.entry_model.specs.State.{Collection, key_of}
use Rattle.entry_model.specs.StateReads.{find_document}
use Rattle.collections.specs.Lookups.{IsNumbered}
use Rattle.database_model.specs.Cursors.{batch_of, batch_reply}
use Rattle.database_model.specs.Lawful.{IsStored}
use Rattle.database_model.specs.Refusals.{ok_reply}
use Rattle.replies.specs.View.{batch_name}
use Rattle.walks.specs.declared.batches.BatchAsked.{BatchAsked}
use Rattle.walks.specs.declared.batches.GivenBatch.{GivenBatch}

-- the key text of a document's `_id`
abbrev pub id_text_of : Pairs → List ℕ
id_text_of d = tree_text (key_of d)

-- These texts are those of some of the documents, in the order of these.
pub record HasListed (ds : List Pairs) (texts : List (List ℕ)) (some : List Pairs) : Type 0 where
  pub found : All (λ d. find_document ds (key_of d) ≡ Some d) some
  pub spelled : texts ≡ map id_text_of some

-- some documents of a collection
pub record Chosen : Type 0 where
  pub home : Collection
  pub documents : List Pairs

-- The texts are those of documents of the collection of this number, which are such as commands
-- store.
pub record AreListedIn (number : ℕ) (texts : List (List ℕ)) (now : List Collection)
    (chosen : Chosen) : Type 0 where
  pub numbered : IsNumbered now chosen.home number
  pub stored : All IsStored chosen.home.documents
  pub listed : HasListed chosen.home.documents texts chosen.documents

-- what is given of them
abbrev pub given_of : Projection → Chosen → List Pairs
given_of p chosen = map (project p) chosen.documents

-- The batch has what goes into it of these, its reply says so, and it says whether others are left.
pub record IsListedBatch (asked : BatchAsked) (rest : List Pairs) (b : GivenBatch) : Type 0 where
  pub counted : b.count ≡ batch_of asked.most rest
  pub says : b.reply ≡ ok_reply (batch_reply (batch_name asked.kind) b.count rest
      asked.number asked.namespace.now)
  pub next : MatchOption b.next (length rest ≤ b.count) (λ _. b.count < length rest)

-- ---- one of them

pub record Stored : Type 0 where
  pub home : Collection
  pub document : Pairs

-- The text is that of a document of the collection of this number.
pub record IsStoredIn (number : ℕ) (text : List ℕ) (now : List Collection) (one : Stored)
    : Type 0 where
  pub numbered : IsNumbered now one.home number
  pub found : find_document one.home.documents (key_of one.document) ≡ Some one.document
  pub storable : IsStorable one.document
  pub spelled : text ≡ id_text_of one.document
