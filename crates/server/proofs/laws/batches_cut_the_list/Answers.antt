use Rattle.server.proofs.BatchesGiven.{batches_cut_the_list}
use Rattle.server.proofs.laws.batches_cut_the_list.Goals as goal

pub returns : goal.returns
returns c = batches_cut_the_list
