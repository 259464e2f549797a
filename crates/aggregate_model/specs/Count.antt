-- `$count` gives one document that says how many there are, and none where there is none (MongoDB
-- manual, "$count").
use Rattle.std.specs.Prelude.{ℕ, pos, true, Result, Ok, List, [], ◌∷◌, length}
use Rattle.bson.specs.Tree.{Pairs, no_pairs}
use Rattle.outcome.specs.Outcome.{◌>>=◌}
use Rattle.path.specs.declared.refusal.Refusal.{Refusal}
use Rattle.aggregate_model.specs.Fields.{set_field}
use Rattle.aggregate_model.specs.Numbers.{total_value}

-- a document of one field that has this number
abbrev pub number_document : List ℕ → ℕ → Result Pairs Refusal
number_document name n = total_value true (pos n) >>= (λ t. set_field name t no_pairs)

abbrev pub counted : List ℕ → List Pairs → Result (List Pairs) Refusal
counted name [] = Ok []
counted name (ps ∷ documents) =
    number_document name (length (ps ∷ documents)) >>= (λ one. Ok (one ∷ []))
