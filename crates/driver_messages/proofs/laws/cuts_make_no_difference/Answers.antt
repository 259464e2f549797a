use Rattle.driver_messages.proofs.CuttingLaws.{cuts_make_no_difference, taken_in_order}
use Rattle.driver_messages.proofs.laws.cuts_make_no_difference.Goals as goal

pub returns-clause-in_order : goal.returns-clause-in_order
returns-clause-in_order c = taken_in_order

pub returns-clause-once : goal.returns-clause-once
returns-clause-once c = cuts_make_no_difference
