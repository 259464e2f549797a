-- A message is as long with these doubles as integers as it is without, and so is a command alone.
use Rattle.std.specs.Prelude.{◌≡◌, ℕ, List, [], length}
use Rattle.driver_messages.specs.WithIntegers.{document_with, with_integers}

abbrev pub KeepsLength : Type 0
KeepsLength = (whole : List ℕ) → length (with_integers whole) ≡ length whole

abbrev pub CommandKeepsLength : Type 0
CommandKeepsLength = (bytes : List ℕ) → length (document_with [] bytes) ≡ length bytes
