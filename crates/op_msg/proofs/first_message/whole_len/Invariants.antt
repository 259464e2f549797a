use Rattle.std.proofs.Common.{◌≤◌, ◌-◌, length, take}
use Rattle.op_msg.specs.Whole.{AreWhole}
use Rattle.op_msg.proofs.first_message.whole_len.Given as goal

abbrev pub invariant-messages : goal.invariant-messages
invariant-messages l = (l.len ≤ length l.bytes) × AreWhole (take l.len l.bytes)

abbrev pub decreases-messages : goal.decreases-messages
decreases-messages l = length l.bytes - l.len
