-- What was looked up for a first batch.
use Rattle.std.specs.Prelude.{◌≡◌, ℕ, List, All, take}
use Rattle.bson.specs.Tree.{Pairs}
use Rattle.database_model.specs.Find.{matching}
use Rattle.database_model.specs.Lawful.{IsWithin}
use Rattle.replies.specs.View.{IsSendable}
use Rattle.walks.specs.Batches.{IsWholeBatch}
use Rattle.walks.specs.declared.batches.BatchAsked.{BatchAsked}
use Rattle.walks.specs.declared.batches.Walk.{Walk}
use Rattle.queries.specs.declared.looked_up.LookedUp.{LookedUp}
use Rattle.queries.specs.declared.looked_up.LookedUp.TheVariants as ways

-- Such a batch, or the first documents that the walk's filter matches, up to so many.
abbrev pub IsLookedUp : Walk → BatchAsked → ℕ → List Pairs → LookedUp → Type 0
IsLookedUp w asked most ds (ways.Batch b) = IsWholeBatch w asked ds b
IsLookedUp w asked most ds (ways.Documents found) =
    found.items ≡ take most (matching w.filter.now ds)

-- Its reply is within the limit of a message, and the documents are within those of stored ones.
abbrev pub IsLookedUpWithin : LookedUp → Type 0
IsLookedUpWithin (ways.Batch b) = IsSendable b.reply
IsLookedUpWithin (ways.Documents found) = All IsWithin found.items
