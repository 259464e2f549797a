use Rattle.bson_bytes.proofs.PlainNames.{name_text}
use Rattle.bson_bytes.proofs.frames.read_name.Goals as goal

pub from_utf8_unchecked-requires : goal.from_utf8_unchecked-requires
from_utf8_unchecked-requires c = name_text c.args.bytes.now c.in_ok-name.name.now c.in_ok-name.rest.now c.in_ok-name.ensures
