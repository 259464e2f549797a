use Rattle.std.proofs.Common.{◌+◌, ◌<◌, arith}
use Rattle.std.proofs.lemmas.Bool.Decides.{nat_tests}
use Rattle.freelist.proofs.UnusedPages.{grows_with, unused_grows}
use Rattle.freelist.proofs.states.PageStates.has_unused.Goals as goal

pub returns-clause-some : goal.returns-clause-some
returns-clause-some c =
    λ is.
    let less : c.next_unused.result < c.args.end = grind (arith, nat_tests, is) in
    omega (
      arith,
      unused_grows c.next_unused.result c.args.self.now (c.next_unused.ensures.next.unused less),
      grows_with (c.next_unused.result + 1) c.args.end c.args.self.now (omega (arith, less)),
    )
