use Rattle.freelist.proofs.ListRowsLemmas.{list_rows}
use Rattle.freelist.proofs.laws.list_rows.Goals as goal

pub returns : goal.returns
returns c = list_rows
