use Rattle.std.proofs.Common.{arith}
use Rattle.std.proofs.lemmas.Bool.Decides.{nat_tests}
use Rattle.pipelines.specs.View.{pipeline_of}
use Rattle.queries.proofs.NeededLemmas.{suffices_more}
use Rattle.queries.proofs.needed.are_enough.Goals as goal

pub returns-in-Some : goal.returns-in-Some
returns-in-Some c = λ is. suffices_more (pipeline_of c.args.pipeline.now) c.in-Some.most c.args.count (grind (arith, nat_tests, is)) c.in-Some.ensures
