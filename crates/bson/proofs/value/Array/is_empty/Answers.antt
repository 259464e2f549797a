use Rattle.std.proofs.Common.{ℕ, eqb, refl, ap, ◌∙◌}
use Rattle.bson.proofs.BuildLaws.{items_len-is}
use Rattle.bson.proofs.value.Array.is_empty.Goals as goal

pub returns : goal.returns
returns c = c.is_empty.ensures
    ∙ ap (λ (n : ℕ). eqb n 0)
    (items_len-is c.self.inside.items.items c.args.self.now c.self.inside.items.len c.self.inside.items.len c.self.view_is c.self.inside.items.ok.0 refl)
