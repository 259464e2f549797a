use Rattle.std.proofs.Common.{arith, ap, length, subst, List, ◌∙◌, ◌+◌}
use Rattle.freelist.specs.Search.{IsNextUnused}
use Rattle.freelist.specs.declared.states.PageState.{PageState}
use Rattle.freelist.proofs.UnusedPages.{at_most, unused_grows}
use Rattle.freelist.proofs.states.PageStates.count_unused.Goals as goal

pub overflow_add-count : goal.overflow_add-count
overflow_add-count c =
    omega (
      arith,
      at_most c.loop-page.page c.args.self.now,
      c.loop-page.invariant.counts (omega (arith, c.loop-page.invariant.rises c.loop-page-test.true, c.loop-page-test.true)),
      c.loop-page-test.true,
      c.ranges.to.fits,
    )

pub loop-page-preserved : goal.loop-page-preserved
loop-page-preserved c =
    let next : IsNextUnused (c.loop-page.page + 1) c.args.to c.next_unused-page-in-loop-page.result c.args.self.now =
    subst (λ (ps : List PageState). IsNextUnused (c.loop-page.page + 1) c.args.to c.next_unused-page-in-loop-page.result ps) c.loop-page.invariant.same
    c.next_unused-page-in-loop-page.ensures.next in
    record {
      same = c.next_unused-page-in-loop-page.ensures.same ∙ c.loop-page.invariant.same;
      within = next.within;
      rises = λ less. omega (arith, next.rises less, c.loop-page.invariant.rises c.loop-page-test.true);
      unused = next.unused;
      counts = λ in_order. omega (
        arith,
        c.loop-page.invariant.counts in_order,
        unused_grows c.loop-page.page c.args.self.now (c.loop-page.invariant.unused c.loop-page-test.true),
        ap length (next.passed (omega (arith, c.loop-page-test.true))),
      );
    }
