use Rattle.planner.proofs.KeyScanLemmas.{finds_id_text}
use Rattle.planner.proofs.laws.finds_id_text.Goals as goal

pub returns : goal.returns
returns c = finds_id_text
