-- `aggregate`: what a pipeline makes of the documents of a collection, as far as it goes into the
-- first batch.
use Rattle.std.specs.Prelude.{◌≡◌, ℕ, None, List, Result, unwrap_or}
use Rattle.bson.specs.Tree.{Pairs}
use Rattle.aggregate_model.specs.Limits.{first_fault}
use Rattle.aggregate_model.specs.Pipeline.{run as after_pipeline}
use Rattle.aggregate_model.specs.Stage.{Stage}
use Rattle.outcome.specs.Outcome.{◌>>=◌}
use Rattle.path.specs.declared.refusal.Refusal.{Refusal}
use Rattle.command_model.specs.Aggregate.{Aggregate}
use Rattle.database_model.specs.World.{World, documents_of}
use Rattle.database_model.specs.Cursors.{batch_of, first_batch}

-- a document that a stage gives has at most as many bytes as a stored one
unfoldable pub run_aggregate : World → ℕ → Aggregate → Result (World × Pairs) Refusal
run_aggregate world connection c = do
  given ← after_pipeline c.pipeline 65535 (documents_of world.collections c.namespace)
  first_batch world connection c.namespace given
      (batch_of (unwrap_or c.batch_size 101) given)

-- These few are enough of documents within the limits: a pipeline makes the same of them as of all.
abbrev pub AreEnough : List Stage → List Pairs → List Pairs → Type 0
AreEnough stages few ds = first_fault 65535 ds ≡ None
    → after_pipeline stages 65535 few ≡ after_pipeline stages 65535 ds
