-- `killCursors`: cursors of a connection end.
use Rattle.std.specs.Prelude.{ℕ, ℤ, Bool, true, false, not, ◌&&◌, List, [], ◌∷◌, ◌++◌, codes}
use Rattle.std.specs.Prelude.{Result, Ok}
use Rattle.std.specs.List.{filter, list_any}
use Rattle.std.specs.Ordering.{int_eq}
use Rattle.bson.specs.Tree.{scalar, int64, array, Pairs, no_pairs, pair, Items, no_items, item}
use Rattle.path.specs.declared.refusal.Refusal.{Refusal}
use Rattle.command_model.specs.KillCursors.{KillCursors}
use Rattle.database_model.specs.World.{World, Cursor}
use Rattle.database_model.specs.Cursors.{is_cursor}

-- the ids that are killed and those that aren't found, in the order asked
pub record ToldApart : Type 0 where
  pub killed : List ℤ
  pub not_found : List ℤ

abbrev pub no_ids : ToldApart
no_ids = record { killed = []; not_found = [] }

abbrev pub with_id : Bool → ℤ → ToldApart → ToldApart
with_id true id so_far = record so_far { killed = so_far.killed ++ id ∷ [] }
with_id false id so_far = record so_far { not_found = so_far.not_found ++ id ∷ [] }

-- One id after the other: it is killed where such a cursor is open, and was not named before.
abbrev pub told_apart : (ℤ → Bool) → ToldApart → List ℤ → ToldApart
told_apart is_open so_far [] = so_far
told_apart is_open so_far (id ∷ ids) =
    told_apart is_open
    (with_id (is_open id && not (list_any (int_eq id) so_far.killed)) id so_far) ids

-- the connection has a cursor of this id in this namespace
abbrev pub has_cursor : ℕ → List ℕ → List Cursor → ℤ → Bool
has_cursor connection namespace cs id = list_any (is_cursor connection namespace id) cs

-- the connection asks for the end of this cursor
abbrev pub is_asked : ℕ → List ℕ → List ℤ → Cursor → Bool
is_asked connection namespace ids c = list_any (λ id. is_cursor connection namespace id c) ids

abbrev pub id_items : List ℤ → Items
id_items [] = no_items
id_items (id ∷ ids) = item (scalar (int64 id)) (id_items ids)

abbrev pub kill_reply : ToldApart → Pairs
kill_reply ids =
    pair (codes "cursorsKilled") (array (id_items ids.killed))
    (pair (codes "cursorsNotFound") (array (id_items ids.not_found)) no_pairs)

unfoldable pub run_kill_cursors : World → ℕ → KillCursors → Result (World × Pairs) Refusal
run_kill_cursors world connection c =
    Ok (
      record world {
        cursors =
            filter (λ cursor. not (is_asked connection c.namespace c.cursors cursor)) world.cursors;
      },
      kill_reply (told_apart (has_cursor connection c.namespace world.cursors) no_ids c.cursors),
    )
