use Rattle.std.proofs.Common.{refl}
use Rattle.roots.proofs.root.Root.sector.Goals as goal

pub returns : goal.returns
returns c = rw (c.copy_from_slice.ensures.after, c.head.ensures) refl
