use Rattle.std.proofs.Common.{◌≡◌, take}
use Rattle.pager.specs.Writing.{retired_all}
use Rattle.pager.proofs.writing.retire_all.Given as goal

-- those so far
abbrev pub invariant-loop-page : goal.invariant-loop-page
invariant-loop-page l = l.book ≡ retired_all l.version (take l.page-index l.pages) l.initial.book
