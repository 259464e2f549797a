use Rattle.std.proofs.Common.{Ok, [], ◌∷◌, ◌++◌, ap}
use Rattle.btree.specs.Fold.{entry_at}
use Rattle.btree.proofs.folding.lend_chained.Goals as goal

pub returns-then-branch-clause-lent : goal.returns-then-branch-clause-lent
returns-then-branch-clause-lent g c =
    λ start h. record {
      entries = h.entries ++ entry_at c.args.key.now [] ∷ [];
      made = c.in_ok-take_key.ensures.taken start h.entries [] h.made (ap (λ b. Ok b) c.if-branch.true);
    }
