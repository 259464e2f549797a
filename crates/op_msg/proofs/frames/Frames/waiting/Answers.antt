use Rattle.std.proofs.Common.{◌∙◌, ap, drop, List, ℕ, rules}
use Rattle.op_msg.proofs.WholeLemmas.{told, waiting_on}
use Rattle.op_msg.specs.Frame.{front}
use Rattle.op_msg.proofs.frames.Frames.waiting.Goals as goal

pub returns-in-Ok-None : goal.returns-in-Ok-None
returns-in-Ok-None c =
    let whole = c.split_at.ensures.back ∙ ap (λ (xs : List ℕ). drop c.self.inside.taken xs) c.deref.ensures.value in
    let is = told c.split_at.result.1.now c.self.inside.rest c.args.self.now _ whole c.self.invariant.1 c.self.invariant.2 c.self.view_is in
    rw (is, waiting_on (front c.split_at.result.1.now) c.self.inside.rest) (search rules)

pub returns-in-Ok-Some : goal.returns-in-Ok-Some
returns-in-Ok-Some c =
    let whole = c.split_at.ensures.back ∙ ap (λ (xs : List ℕ). drop c.self.inside.taken xs) c.deref.ensures.value in
    let is = told c.split_at.result.1.now c.self.inside.rest c.args.self.now _ whole c.self.invariant.1 c.self.invariant.2 c.self.view_is in
    rw (is, waiting_on (front c.split_at.result.1.now) c.self.inside.rest) (search rules)

pub returns-in-Err : goal.returns-in-Err
returns-in-Err c =
    let whole = c.split_at.ensures.back ∙ ap (λ (xs : List ℕ). drop c.self.inside.taken xs) c.deref.ensures.value in
    let is = told c.split_at.result.1.now c.self.inside.rest c.args.self.now _ whole c.self.invariant.1 c.self.invariant.2 c.self.view_is in
    rw (is, waiting_on (front c.split_at.result.1.now) c.self.inside.rest) (search rules)
