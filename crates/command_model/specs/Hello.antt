-- `hello` has no fields of its own, as `ping`. Its value is read over.
use Rattle.std.specs.Prelude.{Result}
use Rattle.bson.specs.Tree.{Tree, Pairs}
use Rattle.path.specs.declared.refusal.Refusal.{Refusal}
use Rattle.command_model.specs.Ping.{check_common}

abbrev pub read_hello : Tree → Pairs → Result (Unit {0}) Refusal
read_hello t ps = check_common ps
