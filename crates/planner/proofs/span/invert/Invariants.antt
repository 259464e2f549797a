use Rattle.std.proofs.Common.{◌≡◌, take, drop}
use Rattle.value_order.specs.KeyText.{complement}
use Rattle.planner.proofs.span.invert.Given as goal

abbrev pub invariant-bytes : goal.invariant-bytes
invariant-bytes l = record {
  done : take l.byte-index l.text ≡ complement (take l.byte-index l.initial.text);
  rest : drop l.byte-index l.text ≡ drop l.byte-index l.initial.text;
}
