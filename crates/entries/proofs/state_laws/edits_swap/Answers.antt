use Rattle.entries.proofs.EditOrderLaws.{edits_swap}
use Rattle.entries.proofs.state_laws.edits_swap.Goals as goal

pub returns : goal.returns
returns c = edits_swap
