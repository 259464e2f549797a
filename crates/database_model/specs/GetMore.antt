-- `getMore`: the next batch of a cursor.
use Rattle.std.specs.Prelude.{ℕ, length, codes, Option, Result, Ok, unwrap_or}
use Rattle.std.specs.List.{position}
use Rattle.bson.specs.Tree.{Pairs}
use Rattle.outcome.specs.Outcome.{◌>>=◌, or_refused}
use Rattle.path.specs.declared.refusal.Refusal.{Refusal}
use Rattle.path.specs.declared.refusal.Refusal.TheVariants as refusals
use Rattle.command_model.specs.GetMore.{GetMore}
use Rattle.database_model.specs.World.{World, Cursor}
use Rattle.database_model.specs.Cursors.{batch_of, batch_reply, is_cursor, cursor_at, advanced}

-- how many documents of a cursor go into its next batch: without a number they are bounded by their
-- bytes alone
abbrev pub batch_len_of : Cursor → Option ℕ → ℕ
batch_len_of cursor batch_size = batch_of (unwrap_or batch_size (length cursor.rest)) cursor.rest

-- the next batch of the cursor at a place
abbrev pub next_batch : World → GetMore → ℕ → World × Pairs
next_batch world c at =
    let cursor = cursor_at world.cursors at in
    let n = batch_len_of cursor c.batch_size in (
      record world { cursors = advanced world.cursors at n },
      batch_reply (codes "nextBatch") n cursor.rest cursor.number c.namespace,
    )

unfoldable pub run_get_more : World → ℕ → GetMore → Result (World × Pairs) Refusal
run_get_more world connection c = do
  at ← or_refused (position (is_cursor connection c.namespace c.id) world.cursors)
      refusals.CursorNotFound
  Ok (next_batch world c at)
