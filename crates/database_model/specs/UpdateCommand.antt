-- `update`: what its statements write enters the collection of a name.
use Rattle.std.specs.Prelude.{ℕ, List, [], ◌∷◌, Result, Ok}
use Rattle.bson.specs.Tree.{Pairs}
use Rattle.outcome.specs.Outcome.{◌>>=◌, unless}
use Rattle.path.specs.declared.refusal.Refusal.{Refusal}
use Rattle.path.specs.declared.refusal.Refusal.TheVariants as refusals
use Rattle.command_model.specs.Update.{UpdateStatement, Update}
use Rattle.entry_model.specs.Entering.{DocumentWrite, enter_each}
use Rattle.entry_model.specs.State.{Collection, put_collection}
use Rattle.database_model.specs.Insert.{is_full}
use Rattle.database_model.specs.Update.{run_all, update_reply}
use Rattle.database_model.specs.World.{World, collection_of, documents_of}
use Rattle.database_model.specs.Writes.{writes_of}

-- the collections with these in the one of a name; a missing one is made, where there are not 1,000
-- yet
abbrev pub written_in : List ℕ → List DocumentWrite → List Collection
    → Result (List Collection) Refusal
written_in name ws cs =
    unless (is_full cs name) refusals.TooMany (do
      next ← enter_each (collection_of cs name) ws
      Ok (put_collection next cs))

-- where nothing is written all stays as it was
abbrev pub entered_in : List ℕ → List DocumentWrite → List Collection
    → Result (List Collection) Refusal
entered_in name [] cs = Ok cs
entered_in name (w ∷ ws) cs = written_in name (w ∷ ws) cs

-- what the statements write of the documents of a name
abbrev pub writes_in : List ℕ → List UpdateStatement → List Collection → List DocumentWrite
writes_in name ss cs = writes_of ss (documents_of cs name)

-- The collections after an update of the one of a name, or the first refusal: of what is written up
-- to the first statement that is refused, and then of that statement.
abbrev pub updated : List ℕ → List UpdateStatement → List Collection
    → Result (List Collection) Refusal
updated name ss cs = do
  next ← entered_in name (writes_in name ss cs) cs
  u ← run_all name ss cs
  Ok next

unfoldable pub run_update : World → Update → Result (World × Pairs) Refusal
run_update world c = do
  next ← entered_in c.namespace
      (writes_in c.namespace c.statements world.collections) world.collections
  u ← run_all c.namespace c.statements world.collections
  Ok (record world { collections = next }, update_reply u)
