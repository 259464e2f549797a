use Rattle.std.proofs.Common.{◌∙◌, sym, arith}
use Rattle.tree_model.proofs.SearchLemmas.{in_leaf}
use Rattle.tree_model.proofs.search.leaf_between.Goals as goal

pub returns-then-not-is_between : goal.returns-then-not-is_between
returns-then-not-is_between c = λ h. sym c.if-not-is_between.true ∙ c.is_between.ensures.yes (in_leaf _ _ _ _ _ c.leaf_key.ensures (omega arith) h)

pub returns : goal.returns
returns c = λ h. c.is_between-2.ensures.yes (in_leaf _ _ _ _ _ c.leaf_key-2.ensures (omega arith) h)
