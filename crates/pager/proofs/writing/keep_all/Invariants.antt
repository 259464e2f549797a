use Rattle.pager.specs.Writing.{KeepsAll}
use Rattle.pager.proofs.writing.keep_all.Given as goal

abbrev pub invariant-loop-shared : goal.invariant-loop-shared
invariant-loop-shared l = KeepsAll l.pages l.initial.cache l.cache
