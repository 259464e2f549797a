use Rattle.std.proofs.Common.{◌∷◌}
use Rattle.bson.specs.Tree.{document}
use Rattle.path.specs.EditLaws.{cuts}
use Rattle.path.proofs.laws.cuts_only_there.Goals as goal

pub returns : goal.returns
returns c = λ name rest ps h. cuts (name ∷ rest) (document ps) h
