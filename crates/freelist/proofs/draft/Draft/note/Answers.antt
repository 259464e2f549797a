use Rattle.std.proofs.Common.{arith, ap, length}
use Rattle.freelist.proofs.UnusedPages.{at_most, one_fewer_unused, unused_past, unused_stays, used_not_unused}
use Rattle.freelist.specs.declared.states.PageState.TheVariants as states
use Rattle.freelist.proofs.draft.Draft.note.Goals as goal

pub overflow_sub-self : goal.overflow_sub-self
overflow_sub-self c =
    omega (
      arith,
      c.requires.counts,
      one_fewer_unused c.args.self.now.page_count c.args.page c.args.pages.now c.requires.some c.requires.taken c.if-page-self.true,
    )

pub overflow_add-self : goal.overflow_add-self
overflow_add-self c =
    omega (
      arith,
      c.requires.counts,
      ap length (unused_past c.args.self.now.page_count c.args.page c.args.pages.now states.Free c.if-page-self.false),
      at_most c.args.page c.args.pages.now,
      c.count_unused.ensures.count c.if-page-self.false,
    )

pub returns-then-page-self-clause-counts : goal.returns-then-page-self-clause-counts
returns-then-page-self-clause-counts c =
    omega (
      arith,
      c.requires.counts,
      one_fewer_unused c.args.self.now.page_count c.args.page c.args.pages.now c.requires.some c.requires.taken c.if-page-self.true,
    )

pub returns-else-page-self-clause-counts : goal.returns-else-page-self-clause-counts
returns-else-page-self-clause-counts c =
    omega (
      arith,
      c.requires.counts,
      ap length (unused_past c.args.self.now.page_count c.args.page c.args.pages.now states.Free c.if-page-self.false),
      c.count_unused.ensures.count c.if-page-self.false,
      unused_stays c.args.page c.args.pages.now (used_not_unused c.args.pages.now c.args.page c.requires.taken),
    )
