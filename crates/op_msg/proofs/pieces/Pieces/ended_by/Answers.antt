use Rattle.std.proofs.Common.{◌≡◌, ◌+◌, ◌-◌, ◌≤◌, List, ℕ, ◌++◌, length, take, sym, ap, ◌∙◌, subst, arith, length-append}
use Rattle.std.specs.Prelude.{Some}
use Rattle.op_msg.specs.Whole.{EndsAt, EndsIn}
use Rattle.op_msg.proofs.WholeLemmas.{begun_is_short, too_few, ends_in, ends_behind, front_number}
use Rattle.op_msg.proofs.pieces.Pieces.ended_by.Goals as goal

pub overflow_add-len : goal.overflow_add-len
overflow_add-len c =
    let short = begun_is_short c.args.self.now c.requires in
    let len = ap (λ (xs : List ℕ). length xs) c.self.view_is in
    omega (arith, short, c.self.invariant.0, len, c.type_inv.chunk)

pub returns-then-len-lt4 : goal.returns-then-len-lt4
returns-then-len-lt4 c =
    let len = ap (λ (xs : List ℕ). length xs) c.self.view_is in
    too_few (c.args.self.now ++ c.args.chunk.now)
    (omega (arith, c.if-len-lt4.true, c.self.invariant.0, len, length-append c.args.self.now c.args.chunk.now))

pub returns-in_default : goal.returns-in_default
returns-in_default c =
    let bytes = c.args.self.now ++ c.args.chunk.now in
    let len = c.self.invariant.0 ∙ ap (λ (xs : List ℕ). length xs) c.self.view_is in
    let known = subst (λ (xs : List ℕ). take 4 xs ≡ take c.self.inside.len c.self.inside.front) c.self.view_is c.self.invariant.1 in
    let count = length-append c.args.self.now c.args.chunk.now in
    let four = c.front_with-front.ensures.front c.args.self.now (sym len) known in
    let number =
    front_number bytes c.front_with-front.result (c.self.inside.len + length c.args.chunk.now) c.from_le_bytes.result four c.front_with-front.ensures.four
    (omega (arith, c.if-len-lt4.false))
    c.from_le_bytes.ensures in
    c.in_default.ensures bytes (omega (arith, c.if-len-lt4.false, len, count)) number (omega (arith, len, count))

pub overflow_sub-result : goal.overflow_sub-result
overflow_sub-result c =
    let bytes = c.args.self.now ++ c.args.chunk.now in
    let len = c.self.invariant.0 ∙ ap (λ (xs : List ℕ). length xs) c.self.view_is in
    let known = subst (λ (xs : List ℕ). take 4 xs ≡ take c.self.inside.len c.self.inside.front) c.self.view_is c.self.invariant.1 in
    let count = length-append c.args.self.now c.args.chunk.now in
    let four = c.front_with-front.ensures.front c.args.self.now (sym len) known in
    let number =
    front_number bytes c.front_with-front.result (c.self.inside.len + length c.args.chunk.now) c.from_le_bytes.result four c.front_with-front.ensures.four
    (omega (arith, c.if-len-lt4.false))
    c.from_le_bytes.ensures in
    let ends = c.in-Some.ensures bytes (omega (arith, c.if-len-lt4.false, len, count)) number (omega (arith, len, count)) in
    omega (arith, len, ends_behind c.args.self.now c.args.chunk.now c.in-Some.end c.requires ends)

pub returns : goal.returns
returns c =
    let bytes = c.args.self.now ++ c.args.chunk.now in
    let len = c.self.invariant.0 ∙ ap (λ (xs : List ℕ). length xs) c.self.view_is in
    let known = subst (λ (xs : List ℕ). take 4 xs ≡ take c.self.inside.len c.self.inside.front) c.self.view_is c.self.invariant.1 in
    let count = length-append c.args.self.now c.args.chunk.now in
    let four = c.front_with-front.ensures.front c.args.self.now (sym len) known in
    let number =
    front_number bytes c.front_with-front.result (c.self.inside.len + length c.args.chunk.now) c.from_le_bytes.result four c.front_with-front.ensures.four
    (omega (arith, c.if-len-lt4.false))
    c.from_le_bytes.ensures in
    let ends = c.in-Some.ensures bytes (omega (arith, c.if-len-lt4.false, len, count)) number (omega (arith, len, count)) in
    subst (λ (n : ℕ). EndsIn c.args.self.now (Some (c.in-Some.end - n)) c.args.chunk.now) (sym len)
    (ends_in c.args.self.now c.args.chunk.now c.in-Some.end c.requires ends)
