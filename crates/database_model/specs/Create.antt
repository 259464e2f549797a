-- `create`: an empty collection, where there is none of its name and not 1,000 yet.
use Rattle.std.specs.Prelude.{ℕ, nat_le, List, [], length, Result, Ok, is_some}
use Rattle.bson.specs.Tree.{Pairs, no_pairs}
use Rattle.outcome.specs.Outcome.{◌>>=◌, unless}
use Rattle.path.specs.declared.refusal.Refusal.{Refusal}
use Rattle.path.specs.declared.refusal.Refusal.TheVariants as refusals
use Rattle.command_model.specs.Create.{Create}
use Rattle.database_model.specs.World.{World, with_documents}
use Rattle.entry_model.specs.State.{Collection, find_collection, put_collection}

-- the collections with an empty one more
abbrev pub created : List Collection → List ℕ → Result (List Collection) Refusal
created cs name =
    unless (is_some (find_collection cs name)) refusals.NamespaceExists
    (unless (nat_le 1000 (length cs)) refusals.TooMany
    (Ok (put_collection (with_documents cs name []) cs)))

unfoldable pub run_create : World → Create → Result (World × Pairs) Refusal
run_create world c = do
  collections ← created world.collections c.namespace
  Ok (record world { collections = collections }, no_pairs)
