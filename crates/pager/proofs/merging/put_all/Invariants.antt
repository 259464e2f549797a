use Rattle.std.proofs.Common.{◌≡◌, ◌++◌, drop}
use Rattle.pager.proofs.merging.put_all.Given as goal

-- those so far, and those that are left
abbrev pub invariant-loop-shared : goal.invariant-loop-shared
invariant-loop-shared l = l.pages.items ++ drop l.shared-index l.more ≡ l.initial.pages.items ++ l.more
