-- Documents that a delete takes away.
use Rattle.std.specs.Prelude.{ℕ, Bool, if◌then◌else◌, List, [], ◌∷◌, ◌++◌, slice_index_or, Option}
use Rattle.std.specs.Prelude.{Some, None}
use Rattle.std.specs.List.{filter, position}
use Rattle.bson.specs.Tree.{Pairs, no_pairs}
use Rattle.filter.specs.Matches.{matches}
use Rattle.command_model.specs.Delete.{Deletion}
use Rattle.entry_model.specs.Documents.{without_document}
use Rattle.database_model.specs.Delete.{after_deletion}
use Rattle.database_model.specs.Documents.{key_of}

-- the documents without those of the `_id`s of these, one after the other
abbrev pub without_each : List Pairs → List Pairs → List Pairs
without_each [] ds = ds
without_each (gone ∷ rest) ds = without_each rest (without_document (key_of gone) ds)

abbrev pub taken_at : Option ℕ → List Pairs → List Pairs
taken_at None ds = []
taken_at (Some i) ds = slice_index_or ds i no_pairs ∷ []

-- the first document that passes
abbrev pub first_taken : (Pairs → Bool) → List Pairs → List Pairs
first_taken passes ds = taken_at (position passes ds) ds

-- what a statement takes away
abbrev pub taken : Deletion → List Pairs → List Pairs
taken d ds =
    if d.only_first then first_taken (matches d.filter) ds else filter (matches d.filter) ds

-- what the statements take away, one after the other
abbrev pub all_taken : List Deletion → List Pairs → List Pairs
all_taken [] ds = []
all_taken (d ∷ rest) ds = taken d ds ++ all_taken rest (after_deletion d ds)
