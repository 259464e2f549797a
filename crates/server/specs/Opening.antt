-- What opening a disk gives: an engine that was opened so, and no connection.
use Rattle.std.specs.Prelude.{◌≡◌, Bool, []}
use Rattle.page.specs.History.{History}
use Rattle.database_model.specs.World.{new_world}
use Rattle.engine.specs.Opening as engines
use Rattle.server.specs.View.{state}
use Rattle.server.specs.Durable.{IsSound, collections_of}
use Rattle.server.specs.declared.turn.Core.{Core}

-- each moment of the disk itself so far, whether it is trusted or not
abbrev pub inner_history : {D : Type 0} → (D → History) → Core D → History
inner_history history core = engines.inner_history history core.engine

-- whether the disk held collections when it was opened
abbrev pub is_trusted : {D : Type 0} → Core D → Bool
is_trusted core = engines.is_trusted core.engine

pub record IsCoreOpened {D : Type 0} (history : D → History) (disk : D) (core : Core D) : Type 0
  where
    pub sound : IsSound history core
    pub engine : engines.IsEngineOpened history disk core.engine
    pub alone : state core
        ≡ record {
          world = record new_world { collections = collections_of core };
          connections =
              [];
        }
