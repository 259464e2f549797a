-- Cursors whose documents are within the limits, where one gives some of its own or ends.
use Rattle.std.proofs.Common.{ℕ, zero, suc, ◌<◌, List, [], ◌∷◌, length, Option, sym, subst, arith}
use Rattle.std.specs.Prelude.{All, remove}
use Rattle.std.proofs.lemmas.List.{length-map, map-set}
use Rattle.std.proofs.lemmas.List.Elements.{All-cons, All-drop, All-head, All-push, All-set, All-tail}
use Rattle.bson.specs.Tree.{Pairs}
use Rattle.database_model.specs.Cursors.{new_cursor, no_cursor}
use Rattle.database_model.specs.Lawful.{AreLawfulCursors, IsWithin}
use Rattle.database_model.specs.World.{Cursor, CursorTable}
use Rattle.cursors.specs.Changes.{after, gone_on, opened, without}
use Rattle.cursors.specs.Held.{Held, HeldCursor, HeldWalk, cursors_of, held_at}
use Rattle.cursors.specs.TableLaws.{cursor_in_table, opened_in_table, removed_in_table}

All-removed : {X : Type 0} (P : X → Type 0) (xs : List X) (i : ℕ) → All P xs → All P (remove xs i)
All-removed P [] zero h = h
All-removed P [] (suc i) h = h
All-removed P (x ∷ xs) zero h = All-tail P x xs h
All-removed P (x ∷ xs) (suc i) h = All-cons P x (remove xs i) (All-head P x xs h) (All-removed P xs i (All-tail P x xs h))

abbrev holds_within : Cursor → Type 0
holds_within c = All IsWithin c.rest

-- one that is opened on such documents
pub lawful_opened : (held : Held) (connection : ℕ) (namespace : List ℕ) (rest : List Pairs) (walk : Option HeldWalk) → All IsWithin rest
    → AreLawfulCursors (cursors_of held) → AreLawfulCursors (cursors_of (opened held connection namespace rest walk))
lawful_opened held connection namespace rest walk within h =
    subst (λ (t : CursorTable). AreLawfulCursors t.list) (sym (opened_in_table held connection namespace rest walk))
    (All-push holds_within (cursors_of held) (new_cursor held.next connection namespace rest) h within)

module _ (held : Held) (at : ℕ) where
  pub lawful_without : AreLawfulCursors (cursors_of held) → AreLawfulCursors (cursors_of (without held at))
  lawful_without h =
      subst (λ (t : CursorTable). AreLawfulCursors t.list) (sym (removed_in_table held at)) (All-removed holds_within (cursors_of held) at h)

  pub lawful_gone_on : (n : ℕ) (walk : Option HeldWalk) → at < length held.list → AreLawfulCursors (cursors_of held)
      → AreLawfulCursors (cursors_of (gone_on held at n walk))
  lawful_gone_on n walk there h =
      let x : HeldCursor = after (held_at held at) n walk in
      let in_table : at < length (cursors_of held) = omega (arith, there, length-map held.list (λ (h : HeldCursor). h.cursor)) in
      let own : All IsWithin (held_at held at).cursor.rest = subst holds_within (cursor_in_table held at) (h at no_cursor in_table) in
      subst AreLawfulCursors (sym (map-set (λ (h : HeldCursor). h.cursor) held.list at x))
      (All-set holds_within (cursors_of held) at x.cursor (All-drop IsWithin n (held_at held at).cursor.rest own) h)
