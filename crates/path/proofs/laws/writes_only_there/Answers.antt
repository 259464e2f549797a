use Rattle.std.proofs.Common.{Some, Ok, ◌∷◌, ap}
use Rattle.bson.specs.Tree.{document}
use Rattle.path.specs.Edits.{if_ok}
use Rattle.path.specs.EditLaws.{writes}
use Rattle.path.proofs.laws.writes_only_there.Goals as goal

pub returns : goal.returns
returns c = λ made name rest ps qs is. writes made (name ∷ rest) (Some (document ps)) (document qs) (ap (λ r. if_ok r (λ qs. Ok (document qs))) is)
