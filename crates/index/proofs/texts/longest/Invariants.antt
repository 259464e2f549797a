use Rattle.std.proofs.Common.{◌≡◌, drop, max}
use Rattle.index.specs.View.{texts_of}
use Rattle.index.specs.Steps.{longest}
use Rattle.index.proofs.texts.longest.Given as goal

abbrev pub invariant-texts : goal.invariant-texts
invariant-texts l = max l.most (longest (texts_of (drop l.text-index l.texts))) ≡ longest (texts_of l.texts)
