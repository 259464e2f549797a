use Rattle.std.proofs.Common.{rules}
use Rattle.std.proofs.lemmas.Fn.{filter_same}
use Rattle.filter.specs.Matches.{matches}
use Rattle.aggregate.proofs.matching.matching.Goals as goal

pub returns : goal.returns
returns c = filter_same _ (λ ps. matches c.args.filter.now ps) _ (λ x b f' k. search rules) _ _ c.retain.ensures.filtered
