use Rattle.std.proofs.Common.{◌∙◌, sym, ap, arith, length, refl}
use Rattle.page.specs.Format.{PageModel}
use Rattle.tree_model.specs.View.{content_in}
use Rattle.tree_model.proofs.StoreLemmas.{answer_failed, cause_later, grows_failed, grows_itself, grows_retired, grows_same, grows_trans}
use Rattle.btree.proofs.ChainLemmas.{next_retired, retiring, retired_on, not_chain, other_kind}
use Rattle.btree.proofs.chain.retire_chain.Goals as goal

pub loop-left-init : goal.loop-left-init
loop-left-init g c = record {
  grows = grows_itself (g.P.Pages.store c.args.pages.now);
  few = λ k. refl;
  chained = λ links value has next long k. retiring (g.P.Pages.store c.args.pages.now) links value _ _ has next long;
}

pub returns-in_err-shared-clause-retires : goal.returns-in_err-shared-clause-retires
returns-in_err-shared-clause-retires g c =
    λ links value has next long k.
    let word = (c.in_err-shared.ensures.same k).word in
    let n = next_retired (g.P.Pages.store c.args.pages.now) (g.P.Pages.store c.loop-left.pages) links _ _ c.loop-left-test.true
    (c.loop-left.invariant.chained links value has next long word) in
    answer_failed (g.P.Pages.store c.args.pages.now) (g.P.Pages.store c.read.new.self) _ _ _ c.from_residual.ensures.1
    (cause_later (g.P.Pages.store c.args.pages.now) (g.P.Pages.store c.loop-left.pages) (g.P.Pages.store c.read.new.self) _
    (c.loop-left.invariant.grows.frame word) (c.in_err-shared.ensures.cause k n.content n.at))

pub returns-in_default : goal.returns-in_default
returns-in_default g c =
    record {
      few = λ k.
          let same = c.in_ok-shared.ensures.same k in omega (arith, ap length same.made, ap length (c.loop-left.invariant.few same.word));
      grows = grows_trans _ _ _ c.loop-left.invariant.grows
          (grows_same (g.P.Pages.store c.loop-left.pages) (g.P.Pages.store c.read.new.self) c.in_ok-shared.ensures.stays c.in_ok-shared.ensures.same);
      retires = λ links value has next long k.
          not_chain (g.P.Pages.store c.args.pages.now) (g.P.Pages.store c.loop-left.pages) links _ _ _ c.loop-left-test.true
          (c.loop-left.invariant.chained links value has next long (c.in_ok-shared.ensures.same k).word)
          (c.in_ok-shared.ensures.value k ∙ ap (λ (s : PageModel). s.content) (sym c.image.ensures)) (other_kind _ c.in_default.not-Chain);
    }

pub returns-in_err-retire-clause-grows : goal.returns-in_err-retire-clause-grows
returns-in_err-retire-clause-grows g c =
    grows_trans (g.P.Pages.store c.args.pages.now) (g.P.Pages.store c.read.new.self) (g.P.Pages.store c.retire.new.self)
    (grows_trans (g.P.Pages.store c.args.pages.now) (g.P.Pages.store c.loop-left.pages) (g.P.Pages.store c.read.new.self) c.loop-left.invariant.grows
    (grows_same (g.P.Pages.store c.loop-left.pages) (g.P.Pages.store c.read.new.self) c.in_ok-shared.ensures.stays c.in_ok-shared.ensures.same))
    (grows_failed _ (g.P.Pages.store c.retire.new.self) _ c.in_err-retire.ensures.stays c.in_err-retire.ensures.retires)

pub returns-in_err-retire-clause-retires : goal.returns-in_err-retire-clause-retires
returns-in_err-retire-clause-retires g c =
    λ links value has next long k.
    let f = c.in_err-retire.ensures.retires k in
    let before =
    grows_trans (g.P.Pages.store c.args.pages.now) (g.P.Pages.store c.loop-left.pages) (g.P.Pages.store c.read.new.self) c.loop-left.invariant.grows
    (grows_same (g.P.Pages.store c.loop-left.pages) (g.P.Pages.store c.read.new.self) c.in_ok-shared.ensures.stays c.in_ok-shared.ensures.same) in
    answer_failed (g.P.Pages.store c.args.pages.now) (g.P.Pages.store c.retire.new.self) _ _ _ c.from_residual-in_err-retire.ensures.1
    (cause_later (g.P.Pages.store c.args.pages.now) (g.P.Pages.store c.read.new.self) (g.P.Pages.store c.retire.new.self) _ (before.frame f.same.word) f.cause)

pub loop-left-preserved : goal.loop-left-preserved
loop-left-preserved g c =
    let step = grows_same (g.P.Pages.store c.loop-left.pages) (g.P.Pages.store c.read.new.self) c.in_ok-shared.ensures.stays c.in_ok-shared.ensures.same in
    record {
      grows = grows_trans (g.P.Pages.store c.args.pages.now) (g.P.Pages.store c.loop-left.pages) (g.P.Pages.store c.retire.new.self) c.loop-left.invariant.grows
          (grows_trans _ _ _ step
          (grows_retired (g.P.Pages.store c.read.new.self) (g.P.Pages.store c.retire.new.self) _ c.in_ok-retire.ensures.stays c.in_ok-retire.ensures.retires));
      few = λ k.
          let gone = c.in_ok-retire.ensures.retires k in
          let same = c.in_ok-shared.ensures.same gone.frame.word in
          gone.made ∙ same.made ∙ c.loop-left.invariant.few same.word;
      chained = λ links value has next long k.
          let gone = c.in_ok-retire.ensures.retires k in
          retired_on (g.P.Pages.store c.args.pages.now) (g.P.Pages.store c.loop-left.pages) (g.P.Pages.store c.read.new.self)
          (g.P.Pages.store c.retire.new.self) links _ _ _ _ c.in-Chain.bytes.items (step.frame gone.frame.word)
          (c.in_ok-shared.ensures.same gone.frame.word) gone c.loop-left-test.true
          (c.loop-left.invariant.chained links value has next long (step.frame gone.frame.word).word)
          (c.in_ok-shared.ensures.value gone.frame.word ∙ ap (λ (s : PageModel). s.content) (sym c.image.ensures)
          ∙ ap content_in c.in-Chain.is) c.saturating_sub-left.ensures;
    }

pub returns-clause-few : goal.returns-clause-few
returns-clause-few g c = λ k. omega (arith, ap length (c.loop-left.invariant.few k))

pub returns-in_err-shared-clause-few : goal.returns-in_err-shared-clause-few
returns-in_err-shared-clause-few g c =
    λ k. let same = c.in_err-shared.ensures.same k in omega (arith, ap length same.made, ap length (c.loop-left.invariant.few same.word))

pub returns-in_err-retire-clause-few : goal.returns-in_err-retire-clause-few
returns-in_err-retire-clause-few g c =
    λ k.
    let f = c.in_err-retire.ensures.retires k in
    let same = c.in_ok-shared.ensures.same f.same.word in
    omega (arith, ap length f.same.made, ap length same.made, ap length (c.loop-left.invariant.few same.word))
