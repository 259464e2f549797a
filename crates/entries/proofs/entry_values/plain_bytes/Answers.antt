use Rattle.std.proofs.Common.{List, ℕ, [], ◌∷◌, ap, slice_index_or}
use Rattle.bson.specs.Spelling.{tree_bytes, pairs_bytes, items_bytes}
use Rattle.entries.proofs.entry_values.plain_bytes.Goals as goal

pub returns : goal.returns
unfolding tree_bytes pairs_bytes items_bytes
returns c = ap
    (λ (bs : List ℕ). 20 ∷ 0 ∷ 0 ∷ 0 ∷ 16 ∷ 110 ∷ 0 ∷ slice_index_or bs 0 0 ∷ slice_index_or bs 1 0 ∷ slice_index_or bs 2 0 ∷ slice_index_or bs 3 0
    ∷ 4 ∷ 120 ∷ 0 ∷ 5 ∷ 0 ∷ 0 ∷ 0 ∷ 0 ∷ 0 ∷ [])
    c.to_le_bytes-n.ensures
