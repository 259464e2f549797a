use Rattle.std.proofs.lemmas.Str.{IsUtf8-string_bytes}
use Rattle.bson.proofs.text.Text.from_string.Goals as goal

pub invariant_of-result : goal.invariant_of-result
invariant_of-result c = (tt, IsUtf8-string_bytes c.args.text)
