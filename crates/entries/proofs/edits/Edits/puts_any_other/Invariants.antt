use Rattle.std.proofs.Common.{◌≡◌, drop}
use Rattle.entries.specs.OtherKeys.{puts_any}
use Rattle.index.specs.View.{texts_of}
use Rattle.entries.proofs.edits.Edits.puts_any_other.Given as goal

abbrev pub invariant-keys : goal.invariant-keys
invariant-keys l = puts_any l.number l.index l.id (texts_of (drop l.key-index l.keys)) l.self ≡ puts_any l.number l.index l.id (texts_of l.keys) l.self
