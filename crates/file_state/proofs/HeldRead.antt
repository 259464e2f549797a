-- What is held is lawful on any image, and is what an image that holds collections holds.
use Rattle.std.proofs.Common.{◌≡◌, Bool, true, false, List, [], replicate, refl, ◌∙◌, ap}
use Rattle.std.specs.Prelude.{if◌then◌else◌}
use Rattle.entry_model.specs.LawfulState.{IsLawfulState}
use Rattle.entry_model.specs.State.{Collection}
use Rattle.collections.proofs.LawLemmas.{zeros_hold_nothing}
use Rattle.file_state.specs.Collections.{collections_in, held_in}
use Rattle.file_state.specs.Laws.{GivesHeld, HeldIsLawful}
use Rattle.file_state.specs.StateTests.{is_lawful}
use Rattle.file_state.proofs.CollectionsRead.{reads_held}
use Rattle.file_state.proofs.StateTested.{tests_lawful}

-- as an image of zeros holds none
pub none_lawful : IsLawfulState []
none_lawful = (zeros_hold_nothing (λ sector. replicate 512 0) refl refl).state

pub held_is_lawful : HeldIsLawful
unfolding held_in
held_is_lawful image = by (collections_in image) (is_lawful (collections_in image)) refl
  where
    by : (cs : List Collection) (b : Bool) → is_lawful cs ≡ b → IsLawfulState (if b then cs else [])
    by cs true passes = (tests_lawful cs).0 passes
    by cs false fails = none_lawful

pub gives_held : GivesHeld
unfolding held_in
gives_held image cs h =
    let read = reads_held image cs h in
    let passes : is_lawful (collections_in image) ≡ true = ap is_lawful read ∙ (tests_lawful cs).1 h.state in
    ap (λ (b : Bool). if b then collections_in image else []) passes ∙ read
