use Rattle.std.proofs.Common.{◌≡◌, take}
use Rattle.freelist.specs.FreeList.{written}
use Rattle.roots.specs.Listed.{list_models}
use Rattle.roots.proofs.listing.list_models.Given as goal

-- those so far
abbrev pub invariant-loop-at : goal.invariant-loop-at
invariant-loop-at l = l.models.items ≡ take l.at (list_models l.generation (written l.list.pages.items l.list.named.items))
