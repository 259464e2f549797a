-- How much collections have together.
use Rattle.std.specs.Prelude.{ℕ, ◌+◌, List, [], ◌∷◌, length}
use Rattle.entry_model.specs.State.{Collection}

-- how many documents collections have
abbrev pub total_documents : List Collection → ℕ
total_documents [] = 0
total_documents (c ∷ cs) = length c.documents + total_documents cs

-- how many indexes, with the one on `_id` of each
abbrev pub total_indexes : List Collection → ℕ
total_indexes [] = 0
total_indexes (c ∷ cs) = 1 + length c.indexes + total_indexes cs
