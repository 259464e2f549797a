use Rattle.std.proofs.Common.{◌≡◌, drop, map, []}
use Rattle.std.specs.List.{flat_map}
use Rattle.path.specs.View.{reached}
use Rattle.index.specs.IndexKeys.{keys_of}
use Rattle.index.specs.View.{texts_of}
use Rattle.index.specs.Steps.{with_texts}
use Rattle.index.proofs.texts.texts_at.Given as goal

abbrev pub invariant-all : goal.invariant-all
invariant-all l =
    with_texts l.field.direction (texts_of l.texts.items) (flat_map keys_of (map reached (drop l.reached-index l.reached-items)))
    ≡ with_texts l.field.direction [] (flat_map keys_of (map reached l.reached-items))
