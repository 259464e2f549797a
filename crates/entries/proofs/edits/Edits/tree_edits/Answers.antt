use Rattle.entries.specs.EditList.{edits_in}
use Rattle.entries.proofs.NotingLemmas.{room_of}
use Rattle.entries.proofs.edits.Edits.tree_edits.Goals as goal

pub returns-clause-room : goal.returns-clause-room
returns-clause-room c = room_of c.tree_edits.result (edits_in c.self.inside.noted.entries) c.self.invariant.short c.tree_edits.ensures
