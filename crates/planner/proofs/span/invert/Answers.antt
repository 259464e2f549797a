use Rattle.std.proofs.Common.{◌-◌, ◌<◌, length, arith, add-one}
use Rattle.value_order.proofs.PutLaws.{one_mapped}
use Rattle.planner.proofs.span.invert.Goals as goal

pub bytes-preserved : goal.bytes-preserved
bytes-preserved c =
    let lt : c.bytes.byte-index < length c.bytes.text = omega arith in
    let step = one_mapped (λ b. 255 - b) c.bytes.text c.args.text.now c.bytes.byte-index lt c.bytes.invariant.done c.bytes.invariant.rest in
    rw add-one (record { done = step.0; rest = step.1 })
