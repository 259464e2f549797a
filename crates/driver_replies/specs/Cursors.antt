-- Commands about cursors, each of which only the connection that opened it can go on with
-- (mongodb/specifications, find, getMore and killCursors): `getMore`, and `killCursors`, whose
-- cursors are ended one after the other and whose answers are joined.
use Rattle.std.specs.Prelude.{ℤ, Bool, false, ◌==◌, not, nat_lt, if◌then◌else◌, codes, Option, Some}
use Rattle.std.specs.Prelude.{None}
use Rattle.std.specs.Option.{option_map}
use Rattle.bson.specs.Tree.{Tree, scalar, array, int32, int64, Pairs, no_pairs, pair, append, Items}
use Rattle.bson.specs.Tree.{no_items, item, append_items}
use Rattle.bson.specs.Lookup.{lookup}
use Rattle.bson.specs.Edits.{put, items_len, without_item}
use Rattle.driver_replies.specs.Fields.{long, ok}
use Rattle.driver_replies.specs.declared.kills.Kills.{Kills}

-- a number as an int32 or an int64, of which some drivers send one and some the other
abbrev pub number_of : Tree → Option ℤ
number_of (scalar (int32 z)) = Some z
number_of (scalar (int64 z)) = Some z
number_of other = None

-- the number of a cursor beside the name of a command
abbrev pub cursor_of : Pairs → Option ℤ
cursor_of no_pairs = None
cursor_of (pair name t ps) = number_of t

-- ---- the cursors of a killCursors, whose numbers the database has as int64

abbrev pub with_id : Option ℤ → Option Items → Option Items
with_id (Some z) ids = option_map (item (long z)) ids
with_id None ids = None

-- all of these as int64, if they are numbers
abbrev pub wide_ids : Items → Option Items
wide_ids no_items = Some no_items
wide_ids (item t ts) = with_id (number_of t) (wide_ids ts)

abbrev pub ids_in : Option Tree → Option Items
ids_in (Some (array ts)) = if nat_lt 1000 (items_len ts) then None else wide_ids ts
ids_in other = None

-- the cursors that a command names: at most 1,000 numbers
abbrev pub ids_of : Pairs → Option Items
ids_of body = ids_in (lookup body (codes "cursors"))

abbrev pub first_id : Items → Option ℤ
first_id no_items = None
first_id (item t ts) = number_of t

-- the command for one cursor
abbrev pub kill_one : Pairs → ℤ → Pairs
kill_one body z = put body (codes "cursors") (array (item (long z) no_items))

-- ---- what was answered so far

abbrev pub no_kills : Pairs → Items → Kills
no_kills command ids =
    record { body = command; left = ids; killed = no_items; missing = no_items }

-- the cursor that was asked for was there
abbrev pub is_more : Option Tree → Bool
is_more (Some (array ts)) = not (items_len ts == 0)
is_more other = false

abbrev pub was_killed : Pairs → Bool
was_killed reply = is_more (lookup reply (codes "cursorsKilled"))

abbrev pub after_id : Option ℤ → Bool → Kills → Kills
after_id None killed kills = kills
after_id (Some z) killed kills = if killed
    then record kills {
      left = without_item kills.left 0;
      killed = append_items kills.killed (item (long z) no_items);
    }
    else record kills {
      left = without_item kills.left 0;
      missing = append_items kills.missing (item (long z) no_items);
    }

-- with the answer for the first cursor of those that are left
abbrev pub after : Kills → Pairs → Kills
after kills reply = after_id (first_id kills.left) (was_killed reply) kills

-- the answer for all
abbrev pub told_ids : Items → Items → Pairs
told_ids killed missing =
    pair (codes "cursorsKilled") (array killed)
    (pair (codes "cursorsNotFound") (array missing) no_pairs)

abbrev pub kill_reply : Kills → Pairs
kill_reply kills =
    append (told_ids kills.killed kills.missing)
    (pair (codes "cursorsAlive") (array no_items)
    (pair (codes "cursorsUnknown") (array no_items) ok))
