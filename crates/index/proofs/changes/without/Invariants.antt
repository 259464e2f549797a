use Rattle.std.proofs.Common.{◌≡◌, drop, map, ◌++◌}
use Rattle.index.specs.Changes.{without}
use Rattle.index.specs.View.{texts_of}
use Rattle.index.proofs.changes.without.Given as goal

abbrev pub invariant-keys : goal.invariant-keys
invariant-keys l =
    map (λ key. key.now) l.left.items ++ without (texts_of (drop l.key-index l.keys)) (texts_of l.others)
    ≡ without (texts_of l.keys) (texts_of l.others)
