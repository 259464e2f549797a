-- What the names are that a file was found to have, and how far it was read.
use Rattle.std.specs.Prelude.{List, [], string_bytes}
use Rattle.entry_model.specs.State.{Collection}
use Rattle.opening.specs.Judging.{Progress}
use Rattle.opening.specs.declared.judging.Named.{Named}
use Rattle.opening.specs.declared.loading.Loading.{Loading}

-- a collection as the catalogue tells it
abbrev pub named_as : Named → Collection
named_as n = record {
  name = string_bytes n.namespace;
  number = n.number;
  documents = [];
  indexes = n.indexes.items;
}

abbrev pub progress_of : Loading → List Collection → Progress
progress_of l now =
    record { now = now; documents = l.documents; keys = l.keys; seen = l.seen }
