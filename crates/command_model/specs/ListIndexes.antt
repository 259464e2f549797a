-- `listIndexes` asks which indexes a collection has.
use Rattle.std.specs.Prelude.{ℕ, List, Result, Ok}
use Rattle.bson.specs.Tree.{Tree, Pairs}
use Rattle.outcome.specs.Outcome.{◌>>=◌}
use Rattle.path.specs.declared.refusal.Refusal.{Refusal}
use Rattle.command_model.specs.Alone.{read_alone}

pub record ListIndexes : Type 0 where
  pub namespace : List ℕ

abbrev pub read_list_indexes : Tree → Pairs → Result ListIndexes Refusal
read_list_indexes t ps = do
  namespace ← read_alone t ps
  Ok (record { namespace = namespace })
