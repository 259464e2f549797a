-- `drop` takes a collection away.
use Rattle.std.specs.Prelude.{ℕ, List, Result, Ok}
use Rattle.bson.specs.Tree.{Tree, Pairs}
use Rattle.outcome.specs.Outcome.{◌>>=◌}
use Rattle.path.specs.declared.refusal.Refusal.{Refusal}
use Rattle.command_model.specs.Alone.{read_alone}

pub record DropCollection : Type 0 where
  pub namespace : List ℕ

abbrev pub read_drop : Tree → Pairs → Result DropCollection Refusal
read_drop t ps = do
  namespace ← read_alone t ps
  Ok (record { namespace = namespace })
