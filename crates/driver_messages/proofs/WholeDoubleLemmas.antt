-- How great a normal number is whose exponent is below 1086.
use Rattle.std.proofs.Common.{ℕ, ◌+◌, ◌-◌, ◌*◌, ◌/◌, ◌^◌, ◌<◌, ◌≤◌, lit≤, arith}
use Rattle.std.proofs.Math.Nat.{pow-le-pow_right}
use Rattle.std.proofs.lemmas.Nat.{mul-le, div_below}

pub parts_below : (significand exponent : ℕ) → significand < 2 ^ 52 → exponent < 1086
    → (2 ^ 52 + significand) * 2 ^ (exponent - 1023) < 2 ^ 115
parts_below significand exponent s e =
    let most : exponent - 1023 ≤ 62 = omega arith in
    let power : 2 ^ (exponent - 1023) ≤ 2 ^ 62 = pow-le-pow_right (lit≤ tt) most in
    omega (arith, mul-le (2 ^ 52 + significand) (2 ^ (exponent - 1023)) (2 ^ 53 - 1) (2 ^ 62) (omega arith) power)

pub size_below : (significand exponent : ℕ) → significand < 2 ^ 52 → exponent < 1086
    → (2 ^ 52 + significand) * 2 ^ (exponent - 1023) / 2 ^ 52 < 2 ^ 63
size_below significand exponent s e =
    div_below _ (2 ^ 52) (2 ^ 63) (omega arith) (parts_below significand exponent s e)
