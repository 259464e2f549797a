-- What a disk, and its history with its word only where something is true, say of each other.
use Rattle.std.proofs.Common.{◌≡◌, ℕ, Bool, List, ap, rules}
use Rattle.std.specs.Prelude.{IsTrue, ◌&&◌}
use Rattle.trusted_disk.specs.Laws.{LeavesAlike, PassesOn, StaysTrusted, TakesBack, TellsWord, TrustsAll}

pub tells_word : TellsWord
tells_word b h = search rules

pub leaves_alike : LeavesAlike
leaves_alike b h t image = search rules

pub passes_on : (P : (ℕ → List ℕ) → Type 0) → PassesOn P
passes_on P b old new = search rules

and_true : (a b : Bool) → IsTrue b → (a && b) ≡ a
and_true a b holds = search rules

pub trusts_all : TrustsAll
trusts_all b h holds = ap (λ word. record h { keeps_word = word }) (and_true h.keeps_word b holds)

pub takes_back : (P : (ℕ → List ℕ) → Type 0) → TakesBack P
takes_back P a b old new first second = search rules

pub stays_trusted : StaysTrusted
stays_trusted a b old new continues kept holds time = search rules
