use Rattle.std.proofs.Common.{refl}
use Rattle.std.specs.Int.{w32, to_le_bytes}
use Rattle.bson.proofs.WriteLoopLaws.{written_at}
use Rattle.bson.proofs.writing.write_number.Goals as goal

pub returns : goal.returns
returns c = written_at c.args.start c.args.bytes.now (to_le_bytes w32 c.args.number) c.write_u32.new.buf c.requires refl c.write_u32.ensures
