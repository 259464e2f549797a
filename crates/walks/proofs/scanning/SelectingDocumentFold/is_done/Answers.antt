use Rattle.std.proofs.Common.{arith}
use Rattle.std.proofs.lemmas.Bool.Decides.{nat_tests}
use Rattle.walks.proofs.SelectLemmas.{done_selected}
use Rattle.walks.proofs.scanning.SelectingDocumentFold.is_done.Goals as goal

pub returns : goal.returns
returns g c = λ done start all more h. done_selected g.S.DocumentPredicate.selects start c.args.self.now all h more
    (grind (arith, nat_tests, done, c.len.ensures, c.args.self.now.found.ok.0))
