-- How far a loop has come that reads the elements of a document, one after the other.
use Rattle.std.specs.Prelude.{◌≡◌, ℕ, ◌+◌, ◌≤◌, List, ◌++◌, length, Result, Ok}
use Rattle.bson.specs.Tree.{Pairs, append}
use Rattle.bson.specs.Lawful.{IsBytes, IsPairs, pairs_levels}
use Rattle.bson.specs.Spelling.{pairs_bytes}
use Rattle.outcome.specs.Outcome.{◌>>=◌}
use Rattle.bson_bytes.specs.Decoding.{pairs_by, pairs_in, value_at}
use Rattle.bson_bytes.specs.Raw.{tree_names}
use Rattle.bson_bytes.specs.declared.fault.BsonFault.{BsonFault}

-- what was read before, and what is still read
abbrev pub with_front : Pairs → Result Pairs BsonFault → Result Pairs BsonFault
with_front front read = read >>= λ ps. Ok (append front ps)

-- With these pairs and names read, the rest decides what reading all gives.
pub record PairsSoFar (more : ℕ) (front : Pairs) (earlier : List (List ℕ)) (rest : List ℕ)
    (total : Result Pairs BsonFault) : Type 0 where
  pub fits : IsBytes rest
  pub most : ℕ
  pub enough : length rest ≤ most
  pub same : with_front front (pairs_by (value_at more) most earlier rest) ≡ total

-- the elements up to the rest were checked
pub record CheckedPairs (more : ℕ) (content rest : List ℕ) : Type 0 where
  pub front : Pairs
  pub so_far : PairsSoFar more front (tree_names front) rest (pairs_in (value_at more) content)
  pub parts : content ≡ pairs_bytes front ++ rest
  pub lawful : IsPairs front
  pub depth : pairs_levels front ≤ more

-- and so many of them
pub record CountedPairs (more : ℕ) (content rest : List ℕ) (count : ℕ) : Type 0 where
  pub checked : CheckedPairs more content rest
  pub counted : count ≡ length (tree_names checked.front)
  pub within : count + length rest ≤ length content
