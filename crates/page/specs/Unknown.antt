-- The history of a device of which nothing is known, as a file.
use Rattle.std.specs.Prelude.{false}
use Rattle.page.specs.History.{History}
use Rattle.page.specs.Replay.{blank}

-- a disk that doesn't keep its word
abbrev pub unknown_history : History
unknown_history = record {
  keeps_word = false;
  clock = 0;
  moment = λ _. blank;
  failures = 0;
  failed_writes = 0;
}
