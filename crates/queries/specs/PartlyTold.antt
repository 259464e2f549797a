-- Documents of which some are told by their `_id`s, and the others are those that filters match.
use Rattle.std.specs.Prelude.{Bool, List, map}
use Rattle.bson.specs.Tree.{Pairs}
use Rattle.entry_model.specs.State.{Collection}
use Rattle.entries.specs.declared.catalogue_reading.Catalogued.{Catalogued}
use Rattle.asked_documents.specs.Asking.{IsAsked}
use Rattle.asked_documents.specs.ById.{AreIdsOf, but_not}
use Rattle.candidate_ids.specs.declared.telling.Told.{Told}

-- The `_id`s tell the documents of the collection that pass and that none of the filters matches.
pub record IsToldOf (home : Catalogued) (passes : Pairs → Bool) (told : Told)
    (now : List Collection) (c : Collection) : Type 0 where
  pub asked : IsAsked home now c
  pub ids : let others = map (λ f. f.now) told.walked.items in
      AreIdsOf home.number (but_not passes others) told.ids now c
