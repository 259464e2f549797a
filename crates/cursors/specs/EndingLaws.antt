-- Cursors that are ended one after the other, until none is to end: all others are left.
use Rattle.std.proofs.Common.{◌≡◌, ℕ, zero, suc, ◌+◌, ◌≤◌, Bool, List, [], ◌∷◌, length}
use Rattle.std.proofs.Common.{refl, sym}
use Rattle.std.proofs.Common.{ap, ◌∙◌, arith}
use Rattle.std.specs.Prelude.{not, Option, Some, None}
use Rattle.std.specs.List.{filter}
use Rattle.std.proofs.lemmas.List.Edits.{length-remove}
use Rattle.std.proofs.lemmas.List.Quantifiers.{position-Some}
use Rattle.database_model.specs.World.{Cursor, CursorTable}
use Rattle.cursors.specs.Held.{HeldCursor, Held, cursors_of, no_held_cursor, table_of}
use Rattle.cursors.specs.Changes.{without}
use Rattle.cursors.specs.Ending.{first_ended, is_ended, left, others}
use Rattle.cursors.specs.ListLaws.{none_passes, others_stay}
use Rattle.cursors.specs.TableLaws.{others_in_table}
use Rattle.cursors.specs.declared.ending.Ends.{Ends}

abbrev ends_it : Ends → HeldCursor → Bool
ends_it ends h = is_ended ends h.cursor

abbrev with_list : Held → List HeldCursor → Held
with_list held hs = record held { list = hs }

module _ (ends : Ends) where
  -- those that are not to end are the same after one has ended
  pub others_left : (held : Held)
      → others ends (left held (first_ended ends held)) ≡ others ends held
  others_left held = after_one (first_ended ends held) refl
    where
      after_one : (place : Option ℕ) → first_ended ends held ≡ place
          → others ends (left held place) ≡ others ends held
      after_one None e = refl
      after_one (Some at) e = ap (with_list held) (others_stay (ends_it ends) held.list at e)

  -- where none is to end, they are all that there are
  pub none_left : (held : Held) → first_ended ends held ≡ None → others ends held ≡ held
  none_left held e = ap (with_list held) (none_passes (ends_it ends) held.list e)

  -- they are fewer by one where one has ended
  pub one_fewer : (held : Held) (at : ℕ) → first_ended ends held ≡ Some at
      → length (without held at).list + 1 ≡ length held.list
  one_fewer held at e = length-remove held.list at
      (position-Some (ends_it ends) held.list at no_held_cursor e).0

  -- the first of those that are to end, so many times
  abbrev pub ended_times : ℕ → Held → Held
  ended_times zero held = held
  ended_times (suc n) held = ended_times n (left held (first_ended ends held))

  none_again : (n : ℕ) (held : Held) → first_ended ends held ≡ None → ended_times n held ≡ held
  none_again zero held e = refl
  none_again (suc n) held e =
      ap (λ (place : Option ℕ). ended_times n (left held place)) e ∙ none_again n held e

  pub ended_all : (n : ℕ) (held : Held) → length held.list ≤ n
      → ended_times n held ≡ others ends held
  ended_all zero held h = sym (none_left held (none_in held.list h))
    where
      none_in : (hs : List HeldCursor) → length hs ≤ 0
          → first_ended ends (record { list = hs; next = held.next }) ≡ None
      none_in [] h = refl
      none_in (x ∷ hs) h = absurd (omega (arith, h))
  ended_all (suc n) held h =
      by (first_ended ends held) refl (λ other k. ended_all n other k)
    where
      by : (place : Option ℕ) → first_ended ends held ≡ place
          → ((other : Held) → length other.list ≤ n → ended_times n other ≡ others ends other)
          → ended_times n (left held place) ≡ others ends held
      by None e later = none_again n held e ∙ sym (none_left held e)
      by (Some at) e later =
          later (without held at) (omega (arith, h, one_fewer held at e))
          ∙ ap (with_list held) (others_stay (ends_it ends) held.list at e)

  pub others_to_table : (held : Held) → table_of (others ends held) ≡ record (table_of held) {
    list = filter (λ c. not (is_ended ends c)) (cursors_of held);
  }
  others_to_table held =
      let made : List Cursor → CursorTable = λ cs. record { list = cs; next = held.next } in
      ap made (others_in_table held (λ c. not (is_ended ends c)))
