use Rattle.std.proofs.Common.{rules, ◌∙◌}
use Rattle.freelist.proofs.ReadingLists.{goes_on, stops, ends_whole, ends_damaged}
use Rattle.freelist.proofs.list.read_list.Goals as goal

pub returns-in_err-page-clause-list : goal.returns-in_err-page-clause-list
returns-in_err-page-clause-list g c =
    λ w. let before = c.read_next.ensures.same w in
    let same = c.loop-page.invariant.same before.0 in
    stops _ _ _ _ _ _ c.loop-page.reading c.read_next.new.self _ _ same.1 (c.loop-page.invariant.so before.0) c.loop-page-test.true
    (c.in_err-page.ensures.steps w)
    c.from_residual-in_err-page.ensures.1

pub loop-page-preserved : goal.loop-page-preserved
loop-page-preserved g c = record {
  reads = g.met.P.ListPages.goes_on _ _ _ c.loop-page.invariant.reads c.read_next.ensures.reads;
  same = λ w. let before = c.read_next.ensures.same w in
      let same = c.loop-page.invariant.same before.0 in
      (same.0, before.1 ∙ same.1);
  clear = g.met.P.ListPages.clear_on _ _ _ c.loop-page.invariant.clear (c.in_ok-page.ensures.clear (λ is. absurd cc));
  so = λ w. let before = c.read_next.ensures.same w in
      let same = c.loop-page.invariant.same before.0 in
      goes_on _ _ _ _ _ _ c.loop-page.reading c.read_next.new.self same.1 (c.loop-page.invariant.so before.0) c.loop-page-test.true
      (c.in_ok-page.ensures.steps w);
}

pub returns-then-len-count-clause-list : goal.returns-then-len-count-clause-list
returns-then-len-count-clause-list g c =
    λ w. let same = c.loop-page.invariant.same w in
    λ _. ends_damaged _ _ _ _ _ _ _ _ (c.loop-page.invariant.so w) c.loop-page-test.false
    (λ counted. c.if-len-count.true (c.len.ensures ∙ c.loop-page.reading.list.named.ok.0 ∙ counted))

pub returns-clause-list : goal.returns-clause-list
returns-clause-list g c =
    λ w. ends_whole _ _ _ _ _ _ _ _ (c.loop-page.invariant.so w) c.loop-page-test.false (search rules)
