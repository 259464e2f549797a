-- What the changes of open cursors are to the table of cursors, as the definition of a database
-- knows it.
use Rattle.std.proofs.Common.{◌≡◌, ℕ, ◌+◌, ◌<◌, ◌≤◌, Bool, true, false, List, [], ◌∷◌, ◌++◌, length}
use Rattle.std.proofs.Common.{drop, map, refl, sym}
use Rattle.std.proofs.Common.{ap, ◌∙◌, arith}
use Rattle.std.specs.Prelude.{nat_le, if◌then◌else◌, remove, slice_set, Option, None}
use Rattle.std.specs.List.{filter, list_any, position}
use Rattle.std.proofs.Math.ListN.{get_or-map}
use Rattle.std.proofs.lemmas.Bool.Decides.{nat_tests}
use Rattle.std.proofs.lemmas.List.{length-map, map-append, map-set}
use Rattle.std.proofs.lemmas.Simd.{map-map}
use Rattle.bson.specs.Tree.{Pairs}
use Rattle.database_model.specs.World.{Cursor, CursorTable, at_rest}
use Rattle.database_model.specs.Cursors.{advanced, cursor_at, new_cursor}
use Rattle.cursors.specs.Held.{HeldWalk, HeldCursor, Held, cursors_of, held_at, no_held_cursor}
use Rattle.cursors.specs.Held.{table_of}
use Rattle.cursors.specs.Changes.{advanced_kept, all_at_rest, gone_on, opened, rested, without}
use Rattle.cursors.specs.ListLaws.{filter-map, list_any-map, map-remove, position-map}

abbrev cursor_of : HeldCursor → Cursor
cursor_of h = h.cursor

-- a table of the same next number
abbrev with_list : Held → List Cursor → CursorTable
with_list held cs = record { list = cs; next = held.next }

-- the cursor that is advanced, where it is known
abbrev moved : List Cursor → ℕ → ℕ → Cursor → Bool → List Cursor
moved cs at n c is_last = if is_last then remove cs at
    else slice_set cs at (record c { rest = drop n c.rest; touched = true })

module _ (held : Held) where
  pub cursor_in_table : (at : ℕ) → cursor_at (cursors_of held) at ≡ (held_at held at).cursor
  cursor_in_table at = get_or-map cursor_of held.list at no_held_cursor

  pub place_in_table : (p : Cursor → Bool)
      → position p (cursors_of held) ≡ position (λ h. p h.cursor) held.list
  place_in_table p = position-map cursor_of p held.list

  pub any_in_table : (p : Cursor → Bool)
      → list_any p (cursors_of held) ≡ list_any (λ h. p h.cursor) held.list
  any_in_table p = list_any-map cursor_of p held.list

  pub count_in_table : (p : Cursor → Bool)
      → length (filter p (cursors_of held)) ≡ length (filter (λ h. p h.cursor) held.list)
  count_in_table p = ap length (filter-map cursor_of p held.list)
      ∙ length-map (filter (λ h. p h.cursor) held.list) cursor_of

  pub opened_in_table : (connection : ℕ) (namespace : List ℕ) (rest : List Pairs)
      (walk : Option HeldWalk)
      → table_of (opened held connection namespace rest walk) ≡ record {
        list = cursors_of held ++ new_cursor held.next connection namespace rest ∷ [];
        next = held.next + 1;
      }
  opened_in_table connection namespace rest walk =
      let made : List Cursor → CursorTable = λ cs. record { list = cs; next = held.next + 1 } in
      ap made (map-append cursor_of held.list
      (record { cursor = new_cursor held.next connection namespace rest; walk = walk } ∷ []))

  pub removed_in_table : (at : ℕ)
      → table_of (without held at) ≡ record (table_of held) { list = remove (cursors_of held) at }
  removed_in_table at = ap (with_list held) (map-remove cursor_of held.list at)

  pub others_in_table : (p : Cursor → Bool)
      → map cursor_of (filter (λ h. p h.cursor) held.list) ≡ filter p (cursors_of held)
  others_in_table p = sym (filter-map cursor_of p held.list)

  pub rested_in_table : table_of (all_at_rest held)
      ≡ record (table_of held) { list = map at_rest (cursors_of held) }
  rested_in_table = ap (with_list held)
      (map-map cursor_of rested held.list
      ∙ sym (map-map at_rest cursor_of held.list))

  advanced_there : (at n : ℕ) (is_last : Bool)
      → nat_le (length (held_at held at).cursor.rest) n ≡ is_last
      → advanced (cursors_of held) at n
      ≡ moved (cursors_of held) at n (held_at held at).cursor is_last
  advanced_there at n is_last e =
      ap (λ (c : Cursor). moved (cursors_of held) at n c (nat_le (length c.rest) n))
      (cursor_in_table at)
      ∙ ap (moved (cursors_of held) at n (held_at held at).cursor) e

  -- one that has others left
  pub gone_on_in_table : (at n : ℕ) (walk : Option HeldWalk)
      → n < length (held_at held at).cursor.rest
      → table_of (gone_on held at n walk)
      ≡ record (table_of held) { list = advanced (cursors_of held) at n }
  gone_on_in_table at n walk h = ap (with_list held)
      (map-set cursor_of held.list at (record {
        cursor = record (held_at held at).cursor {
          rest = drop n (held_at held at).cursor.rest;
          touched = true;
        };
        walk = walk;
      })
      ∙ sym (advanced_there at n false (grind (arith, nat_tests, h))))

  -- one that gave its last
  pub ended_in_table : (at n : ℕ) → length (held_at held at).cursor.rest ≤ n
      → table_of (without held at)
      ≡ record (table_of held) { list = advanced (cursors_of held) at n }
  ended_in_table at n h = removed_in_table at
      ∙ ap (with_list held) (sym (advanced_there at n true (grind (arith, nat_tests, h))))

  advanced_either : (at n : ℕ) (is_last : Bool)
      → nat_le (length (held_at held at).cursor.rest) n ≡ is_last
      → table_of (if is_last then without held at else gone_on held at n None)
      ≡ record (table_of held) { list = advanced (cursors_of held) at n }
  advanced_either at n true e = ended_in_table at n (grind (arith, nat_tests, e))
  advanced_either at n false e = gone_on_in_table at n None (grind (arith, nat_tests, e))

  pub advanced_in_table : (at n : ℕ) → table_of (advanced_kept held at n)
      ≡ record (table_of held) { list = advanced (cursors_of held) at n }
  advanced_in_table at n =
      advanced_either at n (nat_le (length (held_at held at).cursor.rest) n) refl
