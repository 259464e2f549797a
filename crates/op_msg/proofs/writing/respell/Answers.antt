use Rattle.std.proofs.Common.{◌≡◌, ◌+◌, ℕ, List, length, take, arith, rules, ◌∙◌, ap}
use Rattle.op_msg.specs.Request.{respelled}
use Rattle.op_msg.proofs.Respelling.{respelled_front}
use Rattle.op_msg.proofs.writing.respell.Goals as goal

pub returns : goal.returns
returns c =
    let body = c.args.body.now in
    let frame = c.args.frame.now.items in
    let n = c.truncate.new.self.len in
    let len : n ≡ length body + 21 = search rules in
    let front : c.deref_mut.result.now ≡ take n frame = search rules in
    let same : length c.put_body.new.frame ≡ n = search rules in
    respelled_front frame body c.put_body.new.frame _ n (omega (arith, c.requires.room)) len same
    (c.put_body.ensures.body ∙ ap (λ (f : List ℕ). respelled f body) front)
