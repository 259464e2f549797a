use Rattle.std.proofs.Common.{◌∙◌, ap, sym, subst, drop, ◌++◌, length, List, ℕ, rules, arith, length-drop}
use Rattle.std.proofs.lemmas.List.{drop-drop}
use Rattle.op_msg.specs.Frame.{front}
use Rattle.op_msg.specs.View.{frame_in}
use Rattle.op_msg.specs.Whole.{AreWhole}
use Rattle.op_msg.proofs.WholeLemmas.{told, left_whole, some_of, within_of}
use Rattle.op_msg.proofs.frames.Frames.next.Goals as goal

pub returns-in_err-front : goal.returns-in_err-front
returns-in_err-front c =
    let whole = c.split_at.ensures.back ∙ ap (λ (xs : List ℕ). drop c.self.inside.taken xs) c.deref.ensures.value in
    let is = told c.split_at.result.1.now c.self.inside.rest c.args.self.now _ whole c.self.invariant.1 c.self.invariant.2 c.self.view_is in
    rw (is, c.in_err-front.ensures.front) (search rules)

pub returns-in_default : goal.returns-in_default
returns-in_default c =
    let whole = c.split_at.ensures.back ∙ ap (λ (xs : List ℕ). drop c.self.inside.taken xs) c.deref.ensures.value in
    let is = told c.split_at.result.1.now c.self.inside.rest c.args.self.now _ whole c.self.invariant.1 c.self.invariant.2 c.self.view_is in
    rw (is, c.in_ok-front.ensures.front, c.in_default.is) (search rules)

pub invariant_of-self : goal.invariant_of-self
invariant_of-self c =
    let whole = c.split_at.ensures.back ∙ ap (λ (xs : List ℕ). drop c.self.inside.taken xs) c.deref.ensures.value in
    let w = c.split_at.result.1.now in
    let len = c.in-Some.front.len in
    let left = left_whole w (drop len w) (frame_in c.in-Some.front.message) (subst AreWhole (sym whole) c.self.invariant.1)
    (some_of _ c.in_ok-front.field-0 c.in-Some.front (front w) c.in_ok-front.ensures.front c.in-Some.is) in (
      omega (
        arith,
        within_of _ c.in_ok-front.field-0 c.in-Some.front c.in_ok-front.ensures.within c.in-Some.is,
        ap (λ (xs : List ℕ). length xs) whole,
        length-drop c.self.inside.taken c.self.inside.whole.items,
        c.self.invariant.0,
      ),
      subst AreWhole (ap (λ (xs : List ℕ). drop len xs) whole ∙ drop-drop len c.self.inside.taken c.self.inside.whole.items) left,
      c.self.invariant.2,
    )

pub returns : goal.returns
returns c =
    let whole = c.split_at.ensures.back ∙ ap (λ (xs : List ℕ). drop c.self.inside.taken xs) c.deref.ensures.value in
    let w = c.split_at.result.1.now in
    let len = c.in-Some.front.len in
    let is = told w c.self.inside.rest c.args.self.now _ whole c.self.invariant.1 c.self.invariant.2 c.self.view_is in
    rw (is, some_of _ c.in_ok-front.field-0 c.in-Some.front (front w) c.in_ok-front.ensures.front c.in-Some.is) (
      search rules,
      ap (λ (xs : List ℕ). xs ++ c.self.inside.rest)
          (sym (ap (λ (xs : List ℕ). drop len xs) whole ∙ drop-drop len c.self.inside.taken c.self.inside.whole.items)),
    )
