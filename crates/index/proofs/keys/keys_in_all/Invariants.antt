use Rattle.std.proofs.Common.{◌≡◌, drop, map}
use Rattle.std.specs.Prelude.{All}
use Rattle.index.specs.Changes.{IsAscending}
use Rattle.index.specs.KeyTexts.{keys_in_all}
use Rattle.index.specs.View.{texts_of}
use Rattle.index.specs.Steps.{keys_behind}
use Rattle.index.proofs.keys.keys_in_all.Given as goal

abbrev pub invariant-indexes : goal.invariant-indexes
invariant-indexes l = record {
  ascending : All (λ keys. IsAscending (texts_of keys.items)) l.all.items;
  planned :
      keys_behind (map (λ keys. texts_of keys.items) l.all.items) l.is_parallel (drop l.index-index l.indexes) l.source
      ≡ keys_in_all l.indexes l.source;
}
