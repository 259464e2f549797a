use Rattle.std.proofs.Common.{rules}
use Rattle.bson.specs.View.{tree}
use Rattle.aggregate.proofs.PlaceLemmas.{unknown}
use Rattle.aggregate.proofs.groups.Groups.place.Goals as goal

pub returns-in_default-clause-place : goal.returns-in_default-clause-place
returns-in_default-clause-place c = λ indexed text. unknown c.args.self.now c.args.text.now (tree c.args.id.now) indexed text (search rules)
