-- `find`: what a query gives of a list of documents, as far as it goes into the first batch.
-- Nothing here knows how the documents are kept or looked up.
use Rattle.std.specs.Prelude.{◌≡◌, ℕ, zero, suc, ◌<◌, ◌-◌, ◌^◌, List, length, map, take, drop}
use Rattle.std.specs.Prelude.{Result, unwrap_or}
use Rattle.std.specs.List.{filter}
use Rattle.bson.specs.Tree.{Pairs}
use Rattle.filter.specs.Condition.{Conditions}
use Rattle.filter.specs.Matches.{matches}
use Rattle.sort.specs.Sort.{order}
use Rattle.projection.specs.Projection.{project}
use Rattle.path.specs.declared.refusal.Refusal.{Refusal}
use Rattle.command_model.specs.Find.{Query, Find}
use Rattle.database_model.specs.World.{World, documents_of}
use Rattle.database_model.specs.Cursors.{batch_of, first_batch}

abbrev pub matching : Conditions → List Pairs → List Pairs
matching rules ds = filter (matches rules) ds

-- 0 is no limit
abbrev pub limited : {X : Type 0} → ℕ → List X → List X
limited zero xs = xs
limited (suc n) xs = take (suc n) xs

abbrev pub window : {X : Type 0} → ℕ → ℕ → List X → List X
window skip limit xs = limited limit (drop skip xs)

-- the documents that match, in their order, without those that are skipped and those past the limit
abbrev pub selection : Query → List Pairs → List Pairs
selection q ds = window q.skip q.limit (order q.sort (matching q.filter ds))

-- what a query gives
abbrev pub query_result : Query → List Pairs → List Pairs
query_result q ds = map (project q.projection) (selection q ds)

unfoldable pub run_find : World → ℕ → Find → Result (World × Pairs) Refusal
run_find world connection c =
    first_batch world connection c.namespace
    (query_result c.query (documents_of world.collections c.namespace))
    (batch_of (unwrap_or c.batch_size 101)
    (query_result c.query (documents_of world.collections c.namespace)))

-- What a query gives of the documents that match, in their order, or of so many first ones as are
-- enough.
abbrev pub given : Query → List Pairs → List Pairs
given q found = map (project q.projection) (window q.skip q.limit found)

-- Of the documents that match, in their order, the first ones up to this number are enough, unless
-- that is the greatest and they are as many.
abbrev pub FirstAreEnough : Query → ℕ → Type 0
FirstAreEnough q most = (ds : List Pairs) → length (take most ds) < 2 ^ 64 - 1
    → window q.skip q.limit (take most ds) ≡ window q.skip q.limit ds
