use Rattle.std.proofs.Common.{lit<}
use Rattle.std.proofs.lemmas.Str.Pattern.{strip_prefix_char}
use Rattle.pipelines.proofs.ReadingLemmas.{dollar}
use Rattle.pipelines.proofs.operands.dollar_path.Goals as goal

pub returns : goal.returns
returns c = dollar c.args.text.now c.strip_prefix.result (strip_prefix_char 36 c.args.text.now c.strip_prefix.result c.strip_prefix.ensures.cases (lit< tt))
