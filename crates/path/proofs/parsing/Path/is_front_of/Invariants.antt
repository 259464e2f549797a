use Rattle.std.proofs.Common.{◌≡◌, ◌≤◌, drop, length}
use Rattle.path.specs.Parts.{is_front}
use Rattle.path.proofs.parsing.Path.is_front_of.Given as goal

abbrev pub invariant-parts : goal.invariant-parts
invariant-parts l = record {
  within : l.i ≤ length l.other-inside.parts.items;
  same : is_front (drop l.i l.part-items) (drop l.i l.other-inside.parts.items) ≡ is_front l.part-items l.other-inside.parts.items;
}
