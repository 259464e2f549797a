use Rattle.std.proofs.Common.{◌∙◌, ap, drop, List, ℕ, rules}
use Rattle.op_msg.proofs.WholeLemmas.{told, head_on}
use Rattle.op_msg.specs.Frame.{front}
use Rattle.op_msg.proofs.frames.Frames.head.Goals as goal

pub returns-in_err-read_front : goal.returns-in_err-read_front
returns-in_err-read_front c =
    let whole = c.split_at.ensures.back ∙ ap (λ (xs : List ℕ). drop c.self.inside.taken xs) c.deref.ensures.value in
    let is = told c.split_at.result.1.now c.self.inside.rest c.args.self.now _ whole c.self.invariant.1 c.self.invariant.2 c.self.view_is in
    rw (is, head_on (front c.split_at.result.1.now) c.self.inside.rest) (search rules)

pub returns-in-None : goal.returns-in-None
returns-in-None c =
    let whole = c.split_at.ensures.back ∙ ap (λ (xs : List ℕ). drop c.self.inside.taken xs) c.deref.ensures.value in
    let is = told c.split_at.result.1.now c.self.inside.rest c.args.self.now _ whole c.self.invariant.1 c.self.invariant.2 c.self.view_is in
    rw (is, head_on (front c.split_at.result.1.now) c.self.inside.rest) (search rules)

pub returns-in-Some : goal.returns-in-Some
returns-in-Some c =
    let whole = c.split_at.ensures.back ∙ ap (λ (xs : List ℕ). drop c.self.inside.taken xs) c.deref.ensures.value in
    let is = told c.split_at.result.1.now c.self.inside.rest c.args.self.now _ whole c.self.invariant.1 c.self.invariant.2 c.self.view_is in
    rw (is, head_on (front c.split_at.result.1.now) c.self.inside.rest) (search rules)
