use Rattle.std.proofs.Common.{◌*◌, ◌-◌, arith, drop}
use Rattle.std.proofs.lemmas.List.{length-drop}
use Rattle.btree.specs.Few.{chain_pages}
use Rattle.btree.proofs.FewLemmas.{chain_few, same_few}
use Rattle.tree_model.proofs.StoreLemmas.{grows_made, grows_trans, grows_failed, grows_itself}
use Rattle.btree.proofs.ChainLemmas.{chained_on, drop_on, first_of, some_left}
use Rattle.btree.proofs.chain.write_chain.Goals as goal

pub loop-left-preserved : goal.loop-left-preserved
loop-left-preserved g c =
    record {
      grows = grows_trans _ _ _ c.loop-left.invariant.grows
          (grows_made (g.P.Pages.store c.loop-left.pages) (g.P.Pages.store c.allocate.new.self) _ _ c.in_ok-next.ensures.stays c.in_ok-next.ensures.makes);
      room = omega arith;
      written = λ k.
          let made = c.in_ok-next.ensures.makes k in
          chained_on (g.P.Pages.store c.args.pages.now) (g.P.Pages.store c.loop-left.pages) (g.P.Pages.store c.allocate.new.self)
          (drop (4076 * (c.loop-left.left - 1)) c.args.value.now)
          (drop (4076 * c.loop-left.left) c.args.value.now) c.in_ok-bytes.bytes.items _ _ (c.loop-left.invariant.written made.frame.word) made
          (some_left c.args.value.now c.loop-left.left c.loop-left.invariant.room c.loop-left-test.true)
          (first_of c.args.value.now c.in_ok-bytes.bytes.items c.loop-left.left c.min-end.result c.loop-left.invariant.room c.loop-left-test.true
          c.min-end.ensures c.in_ok-bytes.ensures.items)
          (drop_on c.args.value.now c.loop-left.left c.loop-left-test.true);
    }

pub returns-in_err-bytes-clause-few : goal.returns-in_err-bytes-clause-few
returns-in_err-bytes-clause-few g c =
    λ long k. chain_few (g.P.Pages.store c.args.pages.now) (g.P.Pages.store c.loop-left.pages) c.args.value.now
    (drop (4076 * c.loop-left.left) c.args.value.now) _ long (omega (arith, length-drop (4076 * c.loop-left.left) c.args.value.now))
    (c.loop-left.invariant.written k)

pub returns-in_err-next-clause-few : goal.returns-in_err-next-clause-few
returns-in_err-next-clause-few g c =
    λ long k.
    let f = c.in_err-next.ensures.makes k in
    same_few (g.P.Pages.store c.args.pages.now) (g.P.Pages.store c.loop-left.pages) (g.P.Pages.store c.allocate.new.self) (chain_pages c.args.value.now)
    (chain_few (g.P.Pages.store c.args.pages.now) (g.P.Pages.store c.loop-left.pages) c.args.value.now
    (drop (4076 * c.loop-left.left) c.args.value.now) _ long (omega (arith, length-drop (4076 * c.loop-left.left) c.args.value.now))
    (c.loop-left.invariant.written f.same.word)) f.same

pub returns-clause-few : goal.returns-clause-few
returns-clause-few g c =
    λ long k. chain_few (g.P.Pages.store c.args.pages.now) (g.P.Pages.store c.loop-left.pages) c.args.value.now
    (drop (4076 * c.loop-left.left) c.args.value.now) _ long (omega (arith, length-drop (4076 * c.loop-left.left) c.args.value.now))
    (c.loop-left.invariant.written k)

pub returns-in_err-next-clause-grows : goal.returns-in_err-next-clause-grows
returns-in_err-next-clause-grows g c =
    grows_trans _ _ _ c.loop-left.invariant.grows
    (grows_failed (g.P.Pages.store c.loop-left.pages) (g.P.Pages.store c.allocate.new.self) _ c.in_err-next.ensures.stays c.in_err-next.ensures.makes)
