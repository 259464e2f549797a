use Rattle.std.proofs.Common.{rules}
use Rattle.roots.specs.Root.{begins_right}
use Rattle.roots.proofs.root.begins_right.Goals as goal

pub returns : goal.returns
unfolding begins_right
returns c = search rules
