use Rattle.std.proofs.Common.{◌≡◌, ◌+◌, ◌≤◌, List, ℕ, [], ◌++◌, length, take, drop, sym, ap, ◌∙◌, subst, arith}
use Rattle.std.proofs.lemmas.List.{append_assoc, take-append-drop, drop-drop}
use Rattle.op_msg.specs.Whole.{AreWhole, IsBegun}
use Rattle.op_msg.proofs.WholeLemmas.{take_both, both_whole}
use Rattle.op_msg.proofs.frames.join.Goals as goal

pub returns-clause-ok : goal.returns-clause-ok
returns-clause-ok c =
    let chunk = c.args.chunk.now in
    let begun = c.args.begun.now in
    let m = c.whole_len.result in
    let n = c.args.len + m in
    let back = c.split_at.ensures.back in
    let fits = subst (λ (xs : List ℕ). m ≤ length xs) back c.whole_len.ensures.within in
    let parts = take_both chunk c.args.len m c.requires.within fits in
    let ended = c.split_at-2.ensures.front in
    let left : c.push.new.self ≡ drop n chunk = c.in_ok-push.ensures.ok ∙ ap (λ (xs : List ℕ). xs ++ c.split_at-2.result.1.now) c.new-rest.ensures
    ∙ c.split_at-2.ensures.back in
    let whole = both_whole (begun ++ take c.args.len chunk) (take m (drop c.args.len chunk)) c.requires.ended
    (subst (λ (xs : List ℕ). AreWhole (take m xs)) back c.whole_len.ensures.whole) in
    let joined : (begun ++ take c.args.len chunk) ++ take m (drop c.args.len chunk) ≡ begun ++ take n chunk =
    append_assoc begun (take c.args.len chunk) (take m (drop c.args.len chunk)) ∙ ap (λ (xs : List ℕ). begun ++ xs) (sym parts) in (
      begun ++ take n chunk,
      subst AreWhole joined whole,
      c.in-Ok.ensures.ok ∙ append_assoc c.args.whole.now.items begun c.split_at-2.result.0.now
          ∙ ap (λ (xs : List ℕ). c.args.whole.now.items ++ (begun ++ xs)) ended,
      ap (λ (xs : List ℕ). (begun ++ take n chunk) ++ xs) left ∙ append_assoc begun (take n chunk) (drop n chunk)
          ∙ ap (λ (xs : List ℕ). begun ++ xs) (take-append-drop n chunk),
      subst IsBegun (sym (left ∙ sym (drop-drop m c.args.len chunk)))
          (subst (λ (xs : List ℕ). IsBegun (drop m xs)) back c.whole_len.ensures.rest),
    )
