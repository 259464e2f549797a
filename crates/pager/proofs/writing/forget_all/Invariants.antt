use Rattle.std.proofs.Common.{take}
use Rattle.pager.specs.Writing.{Forgets}
use Rattle.pager.proofs.writing.forget_all.Given as goal

-- those so far
abbrev pub invariant-loop-page : goal.invariant-loop-page
invariant-loop-page l = Forgets (take l.page-index l.pages) l.initial.cache l.cache
