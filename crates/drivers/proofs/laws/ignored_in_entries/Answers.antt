use Rattle.drivers.proofs.AskingLaws.{ignored_in_entries}
use Rattle.drivers.proofs.laws.ignored_in_entries.Goals as goal

pub returns : goal.returns
returns c = ignored_in_entries
