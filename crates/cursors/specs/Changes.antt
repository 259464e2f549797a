-- What becomes of open cursors where one is opened, goes on or ends, and where a turn is done.
use Rattle.std.specs.Prelude.{ℕ, ◌+◌, ◌-◌, true, List, [], ◌∷◌, ◌++◌, map, drop, remove, slice_set}
use Rattle.std.specs.Prelude.{nat_le, if◌then◌else◌, length, Option, None, option_map}
use Rattle.bson.specs.Tree.{Pairs}
use Rattle.pager.specs.declared.version.Version.{Version}
use Rattle.database_model.specs.World.{at_rest}
use Rattle.database_model.specs.Cursors.{new_cursor}
use Rattle.cursors.specs.Held.{Way, through, listed, ordered, HeldWalk, HeldCursor, Held}
use Rattle.cursors.specs.Held.{held_at}

-- a new cursor stands behind all others
abbrev pub opened : Held → ℕ → List ℕ → List Pairs → Option HeldWalk → Held
opened held connection namespace rest walk = record {
  list = held.list ++ record {
    cursor = new_cursor held.next connection namespace rest;
    walk = walk;
  } ∷ [];
  next = held.next + 1;
}

-- a cursor gave n documents, and goes on by this walk
abbrev pub after : HeldCursor → ℕ → Option HeldWalk → HeldCursor
after h n walk = record {
  cursor = record h.cursor { rest = drop n h.cursor.rest; touched = true };
  walk = walk;
}

-- the way on after n documents: it goes on from this key text, that of a document or of an entry,
-- or by the other texts of its list
abbrev pub further : ℕ → List ℕ → Way → Way
further n from (through rules limit _) = through rules (limit - n) from
further n from (listed texts) = listed (drop n texts)
further n from (ordered rules i _ limit _ last) = ordered rules i 0 (limit - n) from last

-- the walk gave n documents, and goes on from this key text
abbrev pub onwards : ℕ → List ℕ → HeldWalk → HeldWalk
onwards n from walk = record walk { way = further n from walk.way }

-- the cursor at a place gave n documents, and has others left
abbrev pub gone_on : Held → ℕ → ℕ → Option HeldWalk → Held
gone_on held at n walk =
    record held { list = slice_set held.list at (after (held_at held at) n walk) }

-- the cursor at a place has ended
abbrev pub without : Held → ℕ → Held
without held at = record held { list = remove held.list at }

-- what a cursor has pinned
abbrev pub pinned_by : HeldCursor → Option Version
pinned_by h = option_map (λ w. w.version) h.walk

-- the turn is over for a cursor, and for all
abbrev pub rested : HeldCursor → HeldCursor
rested h = record h { cursor = at_rest h.cursor }

abbrev pub all_at_rest : Held → Held
all_at_rest held = record held { list = map rested held.list }

-- A cursor that keeps its documents gave n of them: with its last one it ends.
abbrev pub advanced_kept : Held → ℕ → ℕ → Held
advanced_kept held at n =
    if nat_le (length (held_at held at).cursor.rest) n then without held at
    else gone_on held at n None
