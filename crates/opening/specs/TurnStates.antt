-- What contracts know of the collections, whose documents are in the file alone.
use Rattle.std.specs.Prelude.{List, refl}
use Rattle.std.specs.Coded.{Coded, code_by, coded×, coded_list}
use Rattle.entry_model.specs.State.{Collection}
use Rattle.database_model.specs.Lawful.{collection_code}

-- the collections as the turn began, and as they are now
pub record TurnStates : Type 0 where
  pub start : List Collection
  pub now : List Collection

-- it is told apart by these
abbrev pub turn_states_code : Coded TurnStates
turn_states_code = code_by (List Collection × List Collection)
    (coded× (coded_list collection_code) (coded_list collection_code))
    (λ k. (k.start, k.now)) (λ p. record { start = p.0; now = p.1 }) (λ _. refl)
