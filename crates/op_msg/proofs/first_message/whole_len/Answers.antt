use Rattle.std.proofs.Common.{List, ℕ, take, drop, sym, subst, arith, length-drop}
use Rattle.std.specs.Prelude.{Some}
use Rattle.std.proofs.lemmas.List.{take_rest}
use Rattle.op_msg.specs.Whole.{AreWhole, EndsAt}
use Rattle.op_msg.proofs.WholeLemmas.{take_both, both_whole}
use Rattle.op_msg.proofs.first_message.whole_len.Goals as goal

pub messages-preserved : goal.messages-preserved
messages-preserved c =
    let bytes = c.args.bytes.now in
    let end = c.in-Some.end in
    let ends = subst (λ (xs : List ℕ). EndsAt (Some end) xs) (take_rest bytes c.messages.len) c.in-Some.ensures in
    let held = c.messages.invariant in (
      omega (arith, ends.1, held.0, length-drop c.messages.len bytes),
      subst AreWhole (sym (take_both bytes c.messages.len end held.0 ends.1))
          (both_whole (take c.messages.len bytes) (take end (drop c.messages.len bytes)) held.1 ends.2),
    )
