-- No two documents get one object id: those of an insert get them in order, and two of these are
-- the same only where their numbers are.
use Rattle.std.specs.Prelude.{◌≡◌, ◌≢◌, ℕ, zero, suc, ◌+◌, ◌<◌, ◌^◌}
use Rattle.std.specs.Option.{option_map}
use Rattle.bson.specs.Edits.{item_at}
use Rattle.bson.specs.Tree.{Items}
use Rattle.driver_replies.specs.NewIds.{value_with_id, with_ids}
use Rattle.driver_replies.specs.Writes.{fresh_id, next_ids}
use Rattle.driver_replies.specs.declared.fresh_ids.FreshIds.{FreshIds}

-- those behind so many documents
abbrev pub ids_behind : ℕ → FreshIds → FreshIds
ids_behind zero ids = ids
ids_behind (suc n) ids = ids_behind n (next_ids ids)

-- The document at place n gets the n-th. Of one message or of two, the m-th and the n-th differ
-- where the numbers do that lie so far behind the first, and below 2^64.
pub record GivesEachItsOwn : Type 0 where
  pub in_order : (ids : FreshIds) (ts : Items) (n : ℕ)
      → item_at (with_ids ids ts) n
      ≡ option_map (value_with_id (fresh_id (ids_behind n ids))) (item_at ts n)
  pub apart : (ids others : FreshIds) (m n : ℕ)
      → ids.number + m < 2 ^ 64 → others.number + n < 2 ^ 64
      → ids.number + m ≢ others.number + n
      → fresh_id (ids_behind m ids) ≢ fresh_id (ids_behind n others)
