-- A first batch of documents whose `_id`s lie side by side.
use Rattle.std.proofs.Common.{List, ℕ, Bool}
use Rattle.std.specs.Prelude.{Result}
use Rattle.bson.specs.Tree.{Pairs}
use Rattle.page.specs.History.{History}
use Rattle.path.specs.declared.refusal.Refusal.{Refusal}
use Rattle.collections.specs.Lookups.{ReadsOf}
use Rattle.collections.specs.State.{State}
use Rattle.entries.specs.declared.catalogue_reading.Catalogued.{Catalogued}
use Rattle.asked_documents.specs.ById.{AreIdsOf, AreIdsOfAsked}
use Rattle.asked_documents.proofs.ReadingLemmas.{reads_within}

-- what was found of these `_id`s, of the collection that is asked
pub found_asked : {D X : Type 0} (history : D → History) (home : Catalogued) (passes : Pairs → Bool) (texts : List (List ℕ)) (P : List Pairs → X → Type 0)
    (old new : State D) (r : Result X Refusal) → ReadsOf history (AreIdsOf home.number passes texts) (λ now c found. P c.documents found) r old new
    → ReadsOf history (AreIdsOfAsked home passes texts) (λ now c found. P c.documents found) r old new
found_asked history home passes texts P old new r reads =
    reads_within history (AreIdsOfAsked home passes texts) (AreIdsOf home.number passes texts) (λ now c found. P c.documents found)
    (λ now c found. P c.documents found) old new r reads (λ now c h. h.ids) (λ now c found h right. right)
