use Rattle.std.proofs.Common.{ℕ, eqb, refl, ap, ◌∙◌}
use Rattle.bson.proofs.BuildLaws.{pairs_len-is}
use Rattle.bson.proofs.value.Document.is_empty.Goals as goal

pub returns : goal.returns
returns c = c.is_empty.ensures
    ∙ ap (λ (n : ℕ). eqb n 0)
    (pairs_len-is c.self.inside.pairs.items c.args.self.now c.self.inside.pairs.len c.self.inside.pairs.len c.self.view_is c.self.inside.pairs.ok.0 refl)
