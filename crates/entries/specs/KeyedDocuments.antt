-- A document with its encoded keys in each index of its collection.
use Rattle.std.specs.Prelude.{◌≡◌, List, map, Ok}
use Rattle.index.specs.Definition.{Definition}
use Rattle.index.specs.KeyTexts.{keys_in_all}
use Rattle.index.specs.View.{texts_of}
use Rattle.entries.specs.declared.entering.Keyed.{Keyed}

-- the keys are those of the document in these indexes
abbrev pub AreKeyed : List Definition → Keyed → Type 0
AreKeyed indexes k =
    keys_in_all indexes k.document.now ≡ Ok (map (λ ks. texts_of ks.items) k.keys.items)
