-- A find in the order of its walk.
use Rattle.std.specs.Prelude.{◌≡◌, ℕ, All, List, [], Some, map}
use Rattle.bson.specs.Tree.{Pairs}
use Rattle.command_model.specs.Find.{Query}
use Rattle.database_model.specs.Find.{selection}
use Rattle.entry_model.specs.State.{Collection, key_of}
use Rattle.entry_model.specs.StateReads.{find_document}
use Rattle.entries.specs.declared.catalogue_reading.Catalogued.{Catalogued}
use Rattle.engine.specs.TakingOut.{HasHome}
use Rattle.replies.specs.declared.batch_spelling.BatchKind.TheVariants as kinds
use Rattle.walks.specs.Listed.{id_text_of}
use Rattle.walks.specs.declared.batches.BatchAsked.{BatchAsked}
use Rattle.walks.specs.declared.batches.Walk.{Walk}
use Rattle.walks.specs.declared.in_order.OrderedWalk.{OrderedWalk}
use Rattle.queries.specs.declared.index_order.IndexOrder.{IndexOrder}

-- The walk is from the beginning, and gives what the query asks for.
pub record IsWholeWalk (q : Query) (walk : Walk) : Type 0 where
  pub filter : walk.filter.now ≡ q.filter
  pub projection : walk.projection.now ≡ q.projection
  pub skip : walk.skip ≡ q.skip
  pub limit : walk.limit ≡ q.limit
  pub from : walk.from.now ≡ []

-- It is asked for a first batch of the collection of that name, of so many documents.
pub record IsFirstAsked (name : List ℕ) (count : ℕ) (asked : BatchAsked) : Type 0 where
  pub kind : asked.kind ≡ kinds.First
  pub named : asked.namespace.now ≡ name
  pub number : asked.number ≡ 0
  pub most : asked.most ≡ count

-- The same of a walk in the order of an index.
pub record IsWholeOrder (q : Query) (o : IndexOrder) (walk : OrderedWalk) : Type 0 where
  pub filter : walk.filter.now ≡ q.filter
  pub projection : walk.projection.now ≡ q.projection
  pub index : walk.index.now ≡ o.index.now
  pub skip : walk.skip ≡ q.skip
  pub limit : walk.limit ≡ q.limit
  pub from : walk.from.now ≡ o.first.items
  pub last : walk.last.now ≡ o.last.items

-- The texts are those of the documents that a query asks for of the collection of that name, in its
-- order; the catalogue has this of the collection.
pub record AreIdsAsked (now : List Collection) (name : List ℕ) (home : Catalogued) (q : Query)
    (texts : List (List ℕ)) : Type 0 where
  pub at : HasHome now name home
  pub ids : texts ≡ map id_text_of (selection q at.collection.documents)

-- They are documents of the collection of that name, of which the catalogue has this.
pub record AreOf (now : List Collection) (name : List ℕ) (home : Catalogued)
    (some : List Pairs) : Type 0 where
  pub at : HasHome now name home
  pub there : All (λ d. find_document at.collection.documents (key_of d) ≡ Some d) some
