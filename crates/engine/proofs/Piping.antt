-- What a pipeline makes of stored documents is within the limits of documents that are given.
use Rattle.std.proofs.Common.{◌≡◌, ℕ, List, get_or, None, Ok}
use Rattle.std.specs.Prelude.{All}
use Rattle.bson.specs.Tree.{Pairs}
use Rattle.aggregate_model.specs.Stage.{Stage}
use Rattle.aggregate_model.specs.Limits.{first_fault}
use Rattle.aggregate_model.specs.Pipeline.{run as after_pipeline}
use Rattle.aggregate_model.specs.TakingLaws.{stays_within}
use Rattle.entry_model.specs.State.{Collection}
use Rattle.database_model.specs.World.{documents_of}
use Rattle.statements.proofs.KeptLemmas.{stored_at}
use Rattle.database_model.specs.Lawful.{IsLawfulState, IsStored, IsWithin}
use Rattle.engine.proofs.Finding.{stored_within}
use Rattle.queries.proofs.FaultlessLemmas.{faultless_within, none_at_fault}

pub piped_within : (stages : List Stage) (ds es : List Pairs) → All IsStored ds → after_pipeline stages 65535 ds ≡ Ok es → All IsWithin es
piped_within stages ds es h e =
    faultless_within es (stays_within stages 65535 ds es (none_at_fault ds (λ k d below. stored_within (get_or ds k d) (h k d below))) e)

-- the documents of lawful collections are within the limits
pub none_of_lawful : (cs : List Collection) (name : List ℕ) → IsLawfulState cs → first_fault 65535 (documents_of cs name) ≡ None
none_of_lawful cs name h =
    let ds = documents_of cs name in
    none_at_fault ds (λ k d below. stored_within (get_or ds k d) ((stored_at cs name h.kept).1 k d below))
