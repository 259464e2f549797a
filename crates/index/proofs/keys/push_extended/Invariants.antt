use Rattle.std.proofs.Common.{◌≡◌, drop, ◌++◌, [], ◌∷◌}
use Rattle.index.specs.View.{texts_of}
use Rattle.index.specs.Steps.{extended}
use Rattle.index.proofs.keys.push_extended.Given as goal

abbrev pub invariant-texts : goal.invariant-texts
invariant-texts l =
    texts_of l.out.items ++ extended (l.front ∷ []) (texts_of (drop l.text-index l.texts))
    ≡ texts_of l.fn.out.items ++ extended (l.front ∷ []) (texts_of l.texts)
