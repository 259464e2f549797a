-- What an image holds, by what may be stored (index) and by what commands store.
use Rattle.std.proofs.Common.{ℕ, List}
use Rattle.entry_model.specs.State.{Collection}
use Rattle.collections.specs.Holding as files
use Rattle.file_state.specs.Laws.{AreStored}
use Rattle.opening.specs.Holding.{HoldsCollections}
use Rattle.opening.proofs.TakingLemmas.{loaded_lawful}

pub stored_held : (image : ℕ → List ℕ) (cs : List Collection) → files.HoldsState image cs → AreStored cs → HoldsCollections image cs
stored_held image cs held stored =
    record { lawful = loaded_lawful cs (record { lawful = held.state; stored = stored }); file = held }

pub held_stored : (image : ℕ → List ℕ) (cs : List Collection) → HoldsCollections image cs → AreStored cs
held_stored image cs held = λ i c below. (held.lawful.kept i c below).lawful.stored
