-- That the text of the `_id` is found in each entry.
use Rattle.std.specs.Prelude.{◌≡◌, ℕ, Some, List, ◌++◌}
use Rattle.value_order.specs.Order.{Key}
use Rattle.index.specs.Definition.{Field}
use Rattle.index.specs.KeyTexts.{key_bytes}
use Rattle.index.specs.Laws.{IsIndexKey}
use Rattle.planner.specs.KeyScan.{id_text}

-- What stands behind a key in the text of an entry is found, whatever it is.
abbrev pub FindsIdText : Type 0
FindsIdText =
    (fs : List Field) (ks : List Key) (id : List ℕ) → IsIndexKey fs ks
    → id_text fs (key_bytes fs ks ++ id) ≡ Some id
