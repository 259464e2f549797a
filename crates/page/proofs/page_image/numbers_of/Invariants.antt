use Rattle.std.proofs.Common.{◌≡◌, ◌-◌, ◌*◌, ◌++◌, drop, vec_len}
use Rattle.page.specs.Format.{numbers_in}
use Rattle.page.proofs.page_image.numbers_of.Given as goal

abbrev pub invariant-loop-i : goal.invariant-loop-i
invariant-loop-i l = record {
  numbers : numbers_in l.count l.bytes ≡ l.numbers.items ++ numbers_in (l.count - l.i) (drop (4 * l.i) l.bytes);
  len : vec_len l.numbers ≡ l.i;
}
