-- Undoing leads back to the mark.
use Rattle.std.specs.Prelude.{◌≡◌, ℕ, List, [], ◌∷◌, length, Option, Some, None}
use Rattle.freelist.specs.Book.{Book, least_free, taken, refused, retired, undone}

-- what a turn asks of its book: a page, or that one is retired at a version
pub data Call : Type 0 where
  take : Call
  retire : ℕ → ℕ → Call

abbrev pub given : Option ℕ → Book → Book
given None b = refused b
given (Some page) b = taken page b

-- the book after these calls
abbrev pub after : List Call → Book → Book
after [] b = b
after (take ∷ calls) b = after calls (given (least_free b.states) b)
after (retire page version ∷ calls) b = after calls (retired page version b)

-- Whatever was taken and retired since a mark: undoing to it gives the book of the mark, but for
-- the count of takes that found no page.
abbrev pub UndoingLeadsBack : Type 0
UndoingLeadsBack = (b : Book) (calls : List Call)
    → undone (length b.turn) (after calls b)
    ≡ record b { failed_allocations = (after calls b).failed_allocations }
