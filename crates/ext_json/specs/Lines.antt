-- A document a line.
use Rattle.std.specs.Prelude.{◌≡◌, ℕ, ◌==◌, ◌||◌, Bool, false, true, Option, Some, None, List}
use Rattle.std.specs.Prelude.{Result, Ok, Err}
use Rattle.std.specs.List.{list_all}
use Rattle.bson.specs.Tree.{Pairs}
use Rattle.outcome.specs.Outcome.{Fails}
use Rattle.ext_json.specs.Parsing.{document_at}
use Rattle.ext_json.specs.declared.fault.FaultAt.{FaultAt}
use Rattle.ext_json.specs.declared.fault.ExtJsonFault.TheVariants as faults

-- nothing but the spaces of JSON (RFC 8259, section 2)
abbrev pub is_blank : List ℕ → Bool
is_blank line = list_all (λ b. (b == 32) || ((b == 9) || ((b == 10) || (b == 13)))) line

-- the document of a line, or nothing where it is blank
abbrev pub ReadsLine : Result (Option Pairs) FaultAt → List ℕ → Type 0
ReadsLine (Ok None) line = is_blank line ≡ true
ReadsLine (Ok (Some d)) line = (is_blank line ≡ false) × (document_at line ≡ Ok d)
ReadsLine (Err e) line = (is_blank line ≡ false) × Fails faults.Memory e.fault (document_at line)
