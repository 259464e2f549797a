use Rattle.std.proofs.Common.{rules, arith, ◌≡◌, ◌<◌, ◌≤◌, ◌^◌, length}
use Rattle.freelist.proofs.Searching.{search_begins}
use Rattle.freelist.proofs.states.PageStates.filled.Goals as goal

pub invariant_of-result : goal.invariant_of-result
invariant_of-result c =
    let count = c.max-count.result in
    let many : length c.resize.new.self.items ≡ count = search rules in
    let some : 1 ≤ count = omega (arith, c.max-count.ensures) in
    let few : count < 2 ^ 32 = omega (arith, c.max-count.ensures, c.max.ensures, c.ranges.in_use.fits, c.ranges.limit.fits) in
    search_begins count c.in_ok-vec.field-0.items c.in_ok-vec-2.field-0.items c.resize.new.self.items many some few (search rules) (search rules)
