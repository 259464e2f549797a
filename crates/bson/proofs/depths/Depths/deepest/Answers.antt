use Rattle.std.proofs.Common.{◌≡◌, ◌<◌, arith}
use Rattle.std.specs.Prelude.{slice_index}
use Rattle.bson.proofs.DepthLaws.{not_so_deep, is_deepest}
use Rattle.bson.proofs.depths.Depths.deepest.Goals as goal

pub depths-preserved : goal.depths-preserved
depths-preserved c = (
  omega (arith, c.depths.invariant.0),
  λ f depth counts deepest most.
      let none : slice_index c.args.self.now.counts c.depths.levels ≡ 0 = grind (arith, c.if-self-levels-eq0.true) in
      let positive : 0 < c.depths.levels = omega (arith, c.depths-test.true) in
      let less : depth < c.depths.levels =
      not_so_deep c.args.self.now.counts f depth c.depths.levels counts deepest c.depths.invariant.0 positive none
      (c.depths.invariant.1 f depth counts deepest most) in
      omega (arith, less),
)

pub returns-else-self-levels-eq0 : goal.returns-else-self-levels-eq0
returns-else-self-levels-eq0 c = λ f depth counts deepest most.
    is_deepest c.args.self.now.counts f depth c.depths.levels counts deepest c.depths.invariant.0 (λ none. grind (arith, none, c.if-self-levels-eq0.false))
    (c.depths.invariant.1 f depth counts deepest most)
