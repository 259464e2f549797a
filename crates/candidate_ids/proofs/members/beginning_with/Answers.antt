use Rattle.bson.specs.View.{tree}
use Rattle.candidate_ids.proofs.MembersLemmas.{beginning_is_range}
use Rattle.candidate_ids.proofs.members.beginning_with.Goals as goal

pub returns : goal.returns
returns c = λ path begins plain. beginning_is_range path (tree c.args.value.now) plain c.args.index.now begins
