use Rattle.std.proofs.Common.{◌≡◌, take}
use Rattle.path.proofs.parsing.Path.copy.Given as goal

abbrev pub invariant-parts : goal.invariant-parts
invariant-parts l = l.parts.items ≡ take l.part-index l.part-items
