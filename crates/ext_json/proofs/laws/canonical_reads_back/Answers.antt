use Rattle.ext_json.proofs.TreesBack.{canonical_back}
use Rattle.ext_json.proofs.laws.canonical_reads_back.Goals as goal

pub returns : goal.returns
returns c = λ ps d n s. canonical_back ps d n s
