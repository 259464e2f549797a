-- Batches of what walks through a collection give.
use Rattle.std.specs.Prelude.{◌≡◌, ℕ, ◌-◌, ◌<◌, ◌≤◌, Bool, true, false, not, ◌&&◌, ◌||◌, ◌==◌}
use Rattle.std.specs.Prelude.{nat_le, if◌then◌else◌, List, [], ◌∷◌, ◌++◌, length, map, drop, All}
use Rattle.std.specs.Prelude.{Option, None, Some, is_some, MatchOption}
use Rattle.std.specs.Global.{Vec}
use Rattle.std.specs.List.{filter}
use Rattle.std.specs.Ordering.{is_lt}
use Rattle.bson.specs.Tree.{Pairs}
use Rattle.value_order.specs.KeyText.{tree_text}
use Rattle.tree_model.specs.Keys.{key_cmp}
use Rattle.filter.specs.Condition.{Conditions}
use Rattle.filter.specs.Matches.{matches}
use Rattle.projection.specs.Projection.{Projection, project}
use Rattle.entry_model.specs.LawfulState.{IsStorable}
use Rattle.entry_model.specs.State.{key_of}
use Rattle.database_model.specs.Cursors.{batch_of, batch_reply, cursor_reply}
use Rattle.database_model.specs.Find.{matching, window}
use Rattle.database_model.specs.Lawful.{IsStored, IsWithin}
use Rattle.database_model.specs.Refusals.{ok_reply}
use Rattle.replies.specs.OpenBatch.{HasGiven, IsOpen, has_room}
use Rattle.replies.specs.View.{batch_name}
use Rattle.replies.specs.declared.open_batch.OpenBatch.{OpenBatch}
use Rattle.walks.specs.IdRange.{has_id_within}
use Rattle.walks.specs.declared.batches.BatchAsked.{BatchAsked}
use Rattle.walks.specs.declared.batches.GivenBatch.{GivenBatch}
use Rattle.walks.specs.declared.batches.Giving.{Giving}
use Rattle.walks.specs.declared.batches.Walk.{Walk}

-- ---- what a walk gives

-- the text of the `_id` isn't below this one
abbrev pub is_from : List ℕ → Pairs → Bool
is_from from d = not (is_lt (key_cmp (tree_text (key_of d)) from))

-- those of the documents
abbrev pub rest_from : List ℕ → List Pairs → List Pairs
rest_from from ds = filter (is_from from) ds

-- What a walk gives of documents, of which a filter and a projection say what is given, so many are
-- left out at the front, and so many may come then (0: all).
abbrev pub picked : Conditions → Projection → ℕ → ℕ → List Pairs → List Pairs
picked rules p skip limit ds = map (project p) (window skip limit (matching rules ds))

-- the same of those from a text on
abbrev pub walk_rest : Conditions → Projection → ℕ → ℕ → List ℕ → List Pairs → List Pairs
walk_rest rules p skip limit from ds = picked rules p skip limit (rest_from from ds)

abbrev pub rest_of : Walk → List Pairs → List Pairs
rest_of w ds = walk_rest w.filter.now w.projection.now w.skip w.limit w.from.now ds

-- ---- a batch of it

-- Others are left, and they are what the walk gives from a text on.
pub record GoesOn (w : Walk) (ds : List Pairs) (n : ℕ) (text : List ℕ) : Type 0 where
  pub more : n < length (rest_of w ds)
  pub left : walk_rest w.filter.now w.projection.now 0 (w.limit - n) text ds
      ≡ drop n (rest_of w ds)

-- The batch has what goes into it of what the walk gives, its reply says so, and whether others
-- are left.
pub record IsGivenBatch (w : Walk) (asked : BatchAsked) (ds : List Pairs)
    (b : GivenBatch) : Type 0 where
  pub counted : b.count ≡ batch_of asked.most (rest_of w ds)
  pub says : b.reply ≡ ok_reply (batch_reply (batch_name asked.kind) b.count (rest_of w ds)
      asked.number asked.namespace.now)
  pub next : MatchOption b.next (length (rest_of w ds) ≤ b.count)
      (λ text. GoesOn w ds b.count text.items)
  pub within : All IsWithin (rest_of w ds)
  pub few : length (rest_of w ds) ≤ 4294967295

-- The batch has all that a walk gives.
pub record IsWholeBatch (w : Walk) (asked : BatchAsked) (ds : List Pairs) (b : GivenBatch)
    : Type 0 where
  pub given : IsGivenBatch w asked ds b
  pub whole : b.next ≡ None

-- ---- between which texts a walk goes

-- All stored documents from a text on that pass have such a text.
abbrev pub PassFrom : (Pairs → Bool) → List ℕ → List ℕ → Option (List ℕ) → Type 0
PassFrom passes from first end =
    (ds : List Pairs) → All IsStorable ds → All IsStored ds
    → filter passes (filter (has_id_within first end) ds) ≡ filter passes (rest_from from ds)

-- ---- what documents that are lent make of it

-- whether so many are as many as may come
abbrev pub is_reached : ℕ → ℕ → Bool
is_reached limit n = not (limit == 0) && nat_le limit n

-- whether nothing else is given
abbrev pub is_over : Giving → Bool
is_over g = is_some g.next || is_reached g.limit g.batch.count

abbrev pub picked_by : Giving → List Pairs → List Pairs
picked_by g ds = picked g.filter.now g.projection.now g.skip g.limit ds

-- The batch has what is given of the documents before one for which it has no room.
pub record IsFirstLeft (start : Giving) (documents : List Pairs) (b : OpenBatch)
    (text : List ℕ) : Type 0 where
  pub front : List Pairs
  pub first : Pairs
  pub behind : List Pairs
  pub split : documents ≡ front ++ first ∷ behind
  pub key : text ≡ tree_text (key_of first)
  pub matched : matches start.filter.now first ≡ true
  pub skipped : start.skip ≤ length (matching start.filter.now front)
  pub may_come : is_reached start.limit b.count ≡ false
  pub given : HasGiven b (picked_by start front)
  pub no_room : has_room b (project start.projection.now first) ≡ false

-- The batch has what is given of the documents that were lent, or of those before the first one
-- that is left.
pub record Gives (start : Giving) (documents : List Pairs) (now : Giving) : Type 0 where
  pub same_filter : now.filter.now ≡ start.filter.now
  pub same_projection : now.projection.now ≡ start.projection.now
  pub same_limit : now.limit ≡ start.limit
  pub same_kind : now.batch.kind ≡ start.batch.kind
  pub same_most : now.batch.most ≡ start.batch.most
  pub to_skip : now.skip ≡ start.skip - length (matching start.filter.now documents)
  pub given : MatchOption now.next (HasGiven now.batch (picked_by start documents))
      (λ text. IsFirstLeft start documents now.batch text.items)

-- Of the next document was put into the batch what is given, unless the batch has no room for it:
-- then it is left, once its key text is noted.
pub record Puts (old : Giving) (d : Pairs) (is_left : Bool) (now : Giving) : Type 0 where
  pub next : now.next ≡ old.next
  pub still_open : IsOpen old.batch → IsOpen now.batch
  pub went : is_left ≡ false → (start : Giving) (all : List Pairs) → Gives start all old
      → Gives start (all ++ d ∷ []) now
  pub left : is_left ≡ true → (start : Giving) (all : List Pairs) → Gives start all old
      → (text : Vec ℕ) → text.items ≡ tree_text (key_of d)
      → Gives start (all ++ d ∷ []) (record now { next = Some text })

-- nothing was lent
pub record IsBegun (w : Walk) (asked : BatchAsked) (g : Giving) : Type 0 where
  pub same_filter : g.filter.now ≡ w.filter.now
  pub same_projection : g.projection.now ≡ w.projection.now
  pub same_skip : g.skip ≡ w.skip
  pub same_limit : g.limit ≡ w.limit
  pub same_kind : g.batch.kind ≡ asked.kind
  pub same_most : g.batch.most ≡ asked.most
  pub none_left : g.next ≡ None
  pub empty : HasGiven g.batch []

-- The reply has what is in the batch, and says the cursor's number where one is left.
pub record IsEnded (g : Giving) (asked : BatchAsked) (b : GivenBatch) : Type 0 where
  pub same_next : b.next ≡ g.next
  pub counted : b.count ≡ g.batch.count
  pub says : (ds : List Pairs) → HasGiven g.batch ds
      → b.reply ≡ ok_reply (cursor_reply (batch_name g.batch.kind) ds
      (if not (is_some g.next) then 0 else asked.number) asked.namespace.now)
