use Rattle.std.proofs.Common.{◌≡◌, drop, ◌++◌}
use Rattle.index.specs.View.{texts_of}
use Rattle.index.specs.Steps.{extended}
use Rattle.index.proofs.keys.extended.Given as goal

abbrev pub invariant-fronts : goal.invariant-fronts
invariant-fronts l =
    texts_of l.out.items ++ extended (texts_of (drop l.front-index l.fronts)) (texts_of l.texts)
    ≡ extended (texts_of l.fronts) (texts_of l.texts)
