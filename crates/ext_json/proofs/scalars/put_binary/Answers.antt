use Rattle.std.proofs.Common.{IsAscii, sym, subst}
use Rattle.ext_json.proofs.WritingLemmas.{IsAscii-hex}
use Rattle.ext_json.proofs.scalars.put_binary.Goals as goal

pub ascii_text-requires : goal.ascii_text-requires
ascii_text-requires c = subst IsAscii (sym c.put_hex.ensures) (IsAscii-hex _)
