use Rattle.std.proofs.Common.{◌≡◌, length, take}
use Rattle.bson.specs.Lookup.{stands_in}
use Rattle.op_msg.specs.Frame.{sections_in, names_of}
use Rattle.op_msg.proofs.sections.has_name.Given as goal

abbrev pub invariant-names : goal.invariant-names
invariant-names l = stands_in (take l.left (names_of (sections_in l.rest).0)) l.name ≡ stands_in (take l.most (names_of (sections_in l.bytes).0)) l.name

abbrev pub decreases-names : goal.decreases-names
decreases-names l = length l.rest
