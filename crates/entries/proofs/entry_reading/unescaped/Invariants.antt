use Rattle.std.proofs.Common.{◌≡◌, ◌++◌, drop, false}
use Rattle.entries.specs.Escaping.{unescaped}
use Rattle.entries.proofs.entry_reading.unescaped.Given as goal

abbrev pub invariant-text : goal.invariant-text
invariant-text l = l.name.items ++ unescaped l.zero (drop l.byte-index l.text) ≡ unescaped false l.text
