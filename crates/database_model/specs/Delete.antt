-- `delete`: what its statements leave of a list of documents, one after the other.
use Rattle.std.specs.Prelude.{ℕ, ◌-◌, Bool, not, if◌then◌else◌, List, [], ◌∷◌, length, remove}
use Rattle.std.specs.Prelude.{codes, Option, Some, None, Result, Ok}
use Rattle.std.specs.List.{filter, position}
use Rattle.bson.specs.Tree.{Pairs, no_pairs, pair}
use Rattle.filter.specs.Matches.{matches}
use Rattle.path.specs.declared.refusal.Refusal.{Refusal}
use Rattle.command_model.specs.Delete.{Deletion, Delete}
use Rattle.database_model.specs.World.{World, documents_of}
use Rattle.entry_model.specs.State.{Collection, find_collection, put_collection}
use Rattle.database_model.specs.Refusals.{total}

-- the list without the element of an index
abbrev pub without_at : {X : Type 0} → Option ℕ → List X → List X
without_at None xs = xs
without_at (Some i) xs = remove xs i

-- the list without the first element that passes
abbrev pub without_first : {X : Type 0} → (X → Bool) → List X → List X
without_first passes xs = without_at (position passes xs) xs

-- what a statement leaves
abbrev pub after_deletion : Deletion → List Pairs → List Pairs
after_deletion d ds =
    if d.only_first then without_first (matches d.filter) ds
    else filter (λ ps. not (matches d.filter ps)) ds

-- what the statements leave, one after the other
abbrev pub after_deletions : List Deletion → List Pairs → List Pairs
after_deletions [] ds = ds
after_deletions (d ∷ rest) ds = after_deletions rest (after_deletion d ds)

-- the collections after a delete from the one of a name; a missing one is not made
abbrev pub deleted_in : Option Collection → List Deletion → List Collection → List Collection
deleted_in None deletions cs = cs
deleted_in (Some c) deletions cs =
    put_collection (record c { documents = after_deletions deletions c.documents }) cs

unfoldable pub run_delete : World → Delete → Result (World × Pairs) Refusal
run_delete world c =
    let documents = documents_of world.collections c.namespace in
    Ok (
      record world {
        collections =
            deleted_in (find_collection world.collections c.namespace) c.deletions
            world.collections;
      },
      pair (codes "n")
          (total (length documents - length (after_deletions c.deletions documents))) no_pairs,
    )
