-- Cursors that end where a connection asks for it or is gone, or where a turn is undone.
use Rattle.std.specs.Prelude.{ℕ, Bool, not, ◌==◌, Option, Some, None, option_map}
use Rattle.std.specs.List.{filter, position}
use Rattle.pager.specs.declared.version.Version.{Version}
use Rattle.database_model.specs.World.{Cursor}
use Rattle.database_model.specs.KillCursors.{is_asked}
use Rattle.cursors.specs.Held.{Held, held_at}
use Rattle.cursors.specs.Changes.{without, pinned_by}
use Rattle.cursors.specs.declared.ending.Ends.{Ends}
use Rattle.cursors.specs.declared.ending.Ends.TheVariants as cases

-- whether a cursor is one of those that are to end
abbrev pub is_ended : Ends → Cursor → Bool
is_ended (cases.Asked connection namespace ids) c = is_asked connection namespace.now ids.now c
is_ended (cases.Of connection) c = c.connection == connection
is_ended cases.Touched c = c.touched

-- where the first of them stands
abbrev pub first_ended : Ends → Held → Option ℕ
first_ended ends held = position (λ h. is_ended ends h.cursor) held.list

-- what the cursor at a place has pinned
abbrev pub given_back : Held → Option ℕ → Option (Option Version)
given_back held place = option_map (λ at. pinned_by (held_at held at)) place

-- all others, where there is one at a place
abbrev pub left : Held → Option ℕ → Held
left held None = held
left held (Some at) = without held at

-- the cursors that are not to end
abbrev pub others : Ends → Held → Held
others ends held = record held { list = filter (λ h. not (is_ended ends h.cursor)) held.list }
