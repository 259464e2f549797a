use Rattle.std.proofs.Common.{arith}
use Rattle.bson.proofs.WriteLoopLaws.{fill_is}
use Rattle.bson.proofs.writing.fill_length.Goals as goal

pub returns-then-len-gt-MESSAGE_LIMIT-clause-fills : goal.returns-then-len-gt-MESSAGE_LIMIT-clause-fills
returns-then-len-gt-MESSAGE_LIMIT-clause-fills c = omega (arith, c.args.out.now.ok.0)

pub returns-clause-fills : goal.returns-clause-fills
returns-clause-fills c = (
  fill_is c.args.out.now.items c.deref_mut.result.now c.write_number.new.bytes c.args.out.now.len c.args.start c.len.result c.deref_mut.ensures.value
      c.args.out.now.ok.0 c.len.ensures c.write_number.ensures c.requires,
  omega (arith, c.args.out.now.ok.0),
)
