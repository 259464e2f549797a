use Rattle.std.proofs.Common.{◌≡◌, ◌≤◌, ◌+◌, ◌-◌, ◌++◌, length, drop, vec_capacity}
use Rattle.freelist.specs.Book.{freed, kept, retired_in}
use Rattle.freelist.proofs.turns.settle.Given as goal

abbrev pub invariant-changes : goal.invariant-changes
invariant-changes l = record {
  pages : freed l.pins (retired_in (drop l.change-index l.turn)) l.pages ≡ freed l.pins (retired_in l.turn) l.initial.pages;
  waiting : l.waiting.items ++ kept l.pins (retired_in (drop l.change-index l.turn)) ≡ l.initial.waiting.items ++ kept l.pins (retired_in l.turn);
  room : length l.waiting.items + (length l.turn - l.change-index) ≤ vec_capacity l.waiting;
}
