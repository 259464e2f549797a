-- A first batch of documents, and whether a cursor may be opened on those that are left.
use Rattle.std.specs.Prelude.{◌≡◌, ◌⊎◌, ◌<◌, ◌^◌, ℕ, true, false, List, length, codes}
use Rattle.bson.specs.Tree.{Pairs}
use Rattle.path.specs.declared.refusal.Refusal.{Refusal}
use Rattle.path.specs.declared.refusal.Refusal.TheVariants as refusals
use Rattle.database_model.specs.Cursors.{batch_of, batch_reply, is_refused}
use Rattle.database_model.specs.Refusals.{ok_reply}
use Rattle.database_model.specs.World.{CursorTable}

-- The reply has so many of the documents. Where others are left, the connection may open the next
-- cursor.
pub record IsFirstBatch (table : CursorTable) (connection : ℕ) (namespace : List ℕ)
    (documents : List Pairs) (most n : ℕ) (reply : Pairs) : Type 0 where
  pub count : n ≡ batch_of most documents
  pub says : reply ≡ ok_reply (batch_reply (codes "firstBatch") n documents table.next namespace)
  pub free : n < length documents → is_refused connection table.list table.next ≡ false
  pub below : n < length documents → table.next < 2 ^ 63

-- Why there is none: memory ran out, or others would be left and the connection may open no cursor.
abbrev pub IsNoBatch : CursorTable → ℕ → List Pairs → ℕ → Refusal → Type 0
IsNoBatch table connection documents most e = (e ≡ refusals.OutOfMemory)
    ⊎ ((e ≡ refusals.TooMany) × (batch_of most documents < length documents)
    × (is_refused connection table.list table.next ≡ true))
