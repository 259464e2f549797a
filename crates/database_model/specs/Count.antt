-- `count`: the number of documents that match, after what is skipped and up to the limit.
use Rattle.std.specs.Prelude.{length, codes, Result, Ok}
use Rattle.bson.specs.Tree.{Pairs, no_pairs, pair}
use Rattle.path.specs.declared.refusal.Refusal.{Refusal}
use Rattle.command_model.specs.Count.{Count}
use Rattle.database_model.specs.World.{World, documents_of}
use Rattle.database_model.specs.Find.{matching, window}
use Rattle.database_model.specs.Refusals.{total}

unfoldable pub run_count : World → Count → Result (World × Pairs) Refusal
run_count world c =
    let documents = documents_of world.collections c.namespace in
    Ok (
      world,
      pair (codes "n")
          (total (length (window c.skip c.limit (matching c.filter documents)))) no_pairs,
    )
