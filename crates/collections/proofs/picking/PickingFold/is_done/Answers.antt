use Rattle.std.proofs.lemmas.Bool.{leb-true}
use Rattle.collections.proofs.PickingLemmas.{passes_all}
use Rattle.collections.proofs.picking.PickingFold.is_done.Goals as goal

pub returns : goal.returns
returns g c = λ done start all more h.
    passes_all g.F.DocumentFold.makes start c.args.self.now all h (leb-true _ c.args.self.now.passed done) more
