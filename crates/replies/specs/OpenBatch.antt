-- A batch into which documents are put one by one.
use Rattle.std.specs.Prelude.{◌≡◌, ℕ, ◌+◌, ◌-◌, Bool, false, not, ◌&&◌, ◌||◌, ◌==◌}
use Rattle.std.specs.Prelude.{nat_le, if◌then◌else◌, List, [], ◌∷◌, ◌++◌, length, take, codes, All}
use Rattle.bson.specs.Tree.{Pairs}
use Rattle.bson.specs.Lawful.{IsDocument}
use Rattle.bson.specs.Spelling.{items_bytes}
use Rattle.database_model.specs.Cursors.{batch_len, batch_of, item_size, items_of_documents}
use Rattle.database_model.specs.Lawful.{IsWithin}
use Rattle.replies.specs.View.{batch_name}
use Rattle.replies.specs.declared.batch_spelling.BatchKind.{BatchKind}
use Rattle.replies.specs.declared.open_batch.OpenBatch.{OpenBatch}

-- room for the length of a document or an array
abbrev pub zeros : List ℕ
zeros = 0 ∷ 0 ∷ 0 ∷ 0 ∷ []

-- what stands in a reply before the document of its cursor
abbrev pub before_cursor : List ℕ
before_cursor = zeros ++ 3 ∷ (codes "cursor" ++ 0 ∷ [])

-- what stands there before the array of a batch of this name
abbrev pub before_array : List ℕ → List ℕ
before_array name = (before_cursor ++ zeros) ++ 4 ∷ (name ++ 0 ∷ [])

-- The batch has these documents, and as many as these are it would have of more.
pub record HasGiven (b : OpenBatch) (ds : List Pairs) : Type 0 where
  pub counted : b.count ≡ length ds
  pub goes_on : (more : List Pairs) → batch_of b.most (ds ++ more)
      ≡ b.count + batch_len b.count (b.most - b.count) b.room more
  pub bytes : b.out.items ≡ (before_array (batch_name b.kind) ++ zeros)
      ++ items_bytes 0 (items_of_documents ds)
  pub readable : All IsDocument ds
  pub within : All IsWithin ds
  pub cursor_at : b.cursor_start ≡ length before_cursor
  pub array_at : b.array_start ≡ length (before_array (batch_name b.kind))

-- a batch of this kind, of at most so many documents, that has none yet
pub record IsBegun (kind : BatchKind) (most : ℕ) (b : OpenBatch) : Type 0 where
  pub same_kind : b.kind ≡ kind
  pub same_most : b.most ≡ most
  pub empty : HasGiven b []

-- whether the document goes into the batch as its next one
abbrev pub has_room : OpenBatch → Pairs → Bool
has_room b d =
    not (nat_le b.most b.count) && (b.count == 0 || nat_le (item_size b.count d) b.room)

-- The document was offered to a batch, which has it now if it goes into it. Else there is no room
-- for it still.
pub record IsOffered (old : OpenBatch) (d : Pairs) (is_taken : Bool)
    (now : OpenBatch) : Type 0 where
  pub judged : is_taken ≡ has_room old d
  pub same_kind : now.kind ≡ old.kind
  pub same_most : now.most ≡ old.most
  pub refused : is_taken ≡ false → has_room now d ≡ false
  pub given : (ds : List Pairs) → HasGiven old ds
      → HasGiven now (if is_taken then ds ++ d ∷ [] else ds)

-- These were offered to a batch that had none, as far as they go into it, and so many did.
pub record AreOffered (old : OpenBatch) (ds : List Pairs) (n : ℕ) (now : OpenBatch) : Type 0 where
  pub counted : n ≡ batch_of old.most ds
  pub same_kind : now.kind ≡ old.kind
  pub given : HasGiven now (take n ds)

-- It has some documents.
pub record IsOpen (b : OpenBatch) : Type 0 where
  pub ds : List Pairs
  pub given : HasGiven b ds
