use Rattle.std.proofs.Common.{Ok, ap}
use Rattle.btree.proofs.scanning.FillingFold.take.Goals as goal

pub returns-then-branch : goal.returns-then-branch
returns-then-branch c = λ start all h. c.in_ok-passes_over.ensures.over start all c.args.value.now h (ap (λ b. Ok b) c.if-branch.true)
