use Rattle.std.proofs.Common.{◌≡◌, ◌≤◌, min, drop}
use Rattle.path.specs.Parts.{number}
use Rattle.path.proofs.part.number.Given as goal

abbrev pub invariant-digits : goal.invariant-digits
invariant-digits l = record {
  fits : l.number ≤ 18446744073709551615;
  same : min 18446744073709551615 (number l.number (drop l.digit-index l.digits)) ≡ min 18446744073709551615 (number 0 l.digits);
}
