use Rattle.std.proofs.Common.{arith}
use Rattle.op_msg.proofs.SectionWalks.{part_long}
use Rattle.op_msg.proofs.sections.read_section.Goals as goal

pub split_at-requires : goal.split_at-requires
split_at-requires c = omega (arith, part_long c.in-Some.after.now (c.in_ok-part.part.now, c.in_ok-part.rest.now) c.in_ok-part.ensures)
