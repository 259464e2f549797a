use Rattle.std.proofs.Common.{lit<, rules}
use Rattle.std.proofs.lemmas.Iterator.Search.{any_from_yields_List}
use Rattle.std.proofs.lemmas.Iterator.Splits.{YieldsList-from_str_split}
use Rattle.path.specs.Parts.{has_zero}
use Rattle.path.proofs.parsing.any_has_zero.Goals as goal

pub returns : goal.returns
returns c =
    any_from_yields_List has_zero _ _ _ c.any.ensures.ran
    (YieldsList-from_str_split 46 c.args.text.now (lit< tt) c.split.ensures.text c.split.ensures.has_more c.split.ensures.pattern)
    (λ x b q k. search rules)
