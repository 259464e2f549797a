use Rattle.std.proofs.Common.{◌≡◌, ◌<◌, [], List, ℕ, drop, ap, arith}
use Rattle.std.proofs.lemmas.Bool.Decides.{nat_tests}
use Rattle.std.proofs.lemmas.List.{drop_all}
use Rattle.walks.proofs.DepthLemmas.{has_room, inner, nests_no_deeper}
use Rattle.walks.proofs.within.is_shallow.Goals as goal

pub returns : goal.returns
returns c = λ few d spelled.
    let bytes : List ℕ = c.args.bytes.now in
    let none : drop c.bytes.byte-index bytes ≡ [] = drop_all c.bytes.byte-index bytes (omega (arith, c.bytes-test.false)) in
    let all : c.bytes.count ≡ inner bytes = omega (arith, c.bytes.invariant.counted, ap inner none) in
    let below : c.bytes.count < 90 = grind (arith, nat_tests, few) in
    omega (arith, below, all, nests_no_deeper bytes d spelled)

pub returns-then-bytes-lt-SHALLOW : goal.returns-then-bytes-lt-SHALLOW
returns-then-bytes-lt-SHALLOW c = λ few d spelled.
    omega (arith, has_room c.args.bytes.now d spelled, c.if-bytes-lt-SHALLOW.true)
