use Rattle.std.proofs.Common.{◌≡◌, drop}
use Rattle.bson.specs.View.{tree}
use Rattle.index.specs.IndexKeys.{meets_array}
use Rattle.index.proofs.arrays.meets_array.Given as goal

abbrev pub invariant-parts : goal.invariant-parts
invariant-parts l =
    meets_array (drop l.part-index l.parts) (tree l.value) ≡ meets_array l.parts (tree l.initial.value)
