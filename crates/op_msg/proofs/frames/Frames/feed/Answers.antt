use Rattle.std.proofs.Common.{◌≡◌, List, ℕ, ◌++◌, length, drop, sym, ap, ◌∙◌, subst, arith, length-append}
use Rattle.std.proofs.lemmas.List.{drop-append-le}
use Rattle.op_msg.specs.Whole.{AreWhole}
use Rattle.op_msg.proofs.WholeLemmas.{both_whole}
use Rattle.op_msg.proofs.frames.Frames.feed.Goals as goal

pub invariant_of-self-2 : goal.invariant_of-self-2
invariant_of-self-2 c =
    let taken = c.take_back-self-inside.result in
    let before = c.take_back-self-inside.new.bytes.items in
    let joins = c.in_ok-join.ensures.ok in
    let within = c.take_back-self-inside.ensures.within in
    let all = ap (λ (xs : List ℕ). length xs) joins.2 in
    let parts = ap (λ (xs : List ℕ). drop taken xs) joins.2 ∙ drop-append-le taken before joins.0 within
    ∙ ap (λ (xs : List ℕ). xs ++ joins.0) c.take_back-self-inside.ensures.rest in (
      omega (arith, within, all, length-append before joins.0),
      subst AreWhole (sym parts) (both_whole (drop c.self.inside.taken c.self.inside.whole.items) joins.0 c.self.invariant.1 joins.1),
      joins.4,
    )
