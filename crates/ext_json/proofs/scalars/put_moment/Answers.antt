use Rattle.std.proofs.Common.{IsAscii, sym, subst}
use Rattle.ext_json.proofs.CalendarLemmas.{IsAscii-moment}
use Rattle.ext_json.proofs.scalars.put_moment.Goals as goal

pub ascii_text-requires : goal.ascii_text-requires
ascii_text-requires c = subst IsAscii (sym c.text_of_second.ensures) (IsAscii-moment _)

pub ascii_text-requires-else-moment-eq0 : goal.ascii_text-requires-else-moment-eq0
ascii_text-requires-else-moment-eq0 c = subst IsAscii (sym c.text_of_milli.ensures) (IsAscii-moment _)
