-- An image whose root sectors are zeros holds no collection.
use Rattle.std.proofs.Common.{◌≡◌, ℕ, List, []}
use Rattle.std.specs.Prelude.{replicate}
use Rattle.collections.proofs.LawLemmas as files
use Rattle.opening.specs.Holding.{HoldsCollections}
use Rattle.opening.proofs.TakingLemmas.{loaded_lawful, none_loaded}

pub zeros_hold_nothing : (image : ℕ → List ℕ) → image 0 ≡ replicate 512 0 → image 1 ≡ replicate 512 0 → HoldsCollections image []
zeros_hold_nothing image even odd = record { lawful = loaded_lawful [] none_loaded; file = files.zeros_hold_nothing image even odd }
