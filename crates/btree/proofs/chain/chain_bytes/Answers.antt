use Rattle.std.proofs.Common.{vec_len, rules, ◌≡◌, ◌∙◌, sym, ap, subst, arith, length, ◌-◌, ◌++◌}
use Rattle.page.specs.Format.{PageModel}
use Rattle.tree_model.specs.View.{content_in}
use Rattle.tree_model.proofs.StoreLemmas.{answer_failed, cause_later, grows_same, grows_trans, same_trans}
use Rattle.btree.proofs.ChainLemmas.{IsRead, next_page, part_long, read_on, ends}
use Rattle.btree.proofs.chain.chain_bytes.Goals as goal

pub returns-in_err-shared-clause-reads : goal.returns-in_err-shared-clause-reads
returns-in_err-shared-clause-reads g c =
    λ links value has next long k.
    let word = (c.in_err-shared.ensures.same k).word in
    let n = next_page (g.P.Pages.store c.loop-left.pages) value _ _ _ c.loop-left-test.true (c.loop-left.invariant.chained links value has next long word) in
    answer_failed (g.P.Pages.store c.args.pages.now) (g.P.Pages.store c.read.new.self) _ _ _ c.from_residual.ensures.1
    (cause_later (g.P.Pages.store c.args.pages.now) (g.P.Pages.store c.loop-left.pages) (g.P.Pages.store c.read.new.self) _
    (c.loop-left.invariant.grows.frame word) (c.in_err-shared.ensures.cause k _ n.at))

pub returns-then-len-min-clause-reads : goal.returns-then-len-min-clause-reads
returns-then-len-min-clause-reads g c =
    λ links value has next long k.
    let long_is : vec_len c.in-Chain.part ≡ length c.in-Chain.part.items = search rules in
    let word = (c.in_ok-shared.ensures.same k).word in
    c.if-len-min.true (c.len.ensures ∙ long_is
    ∙ part_long (g.P.Pages.store c.loop-left.pages) value _ _ _ _ c.in-Chain.part.items c.loop-left-test.true
    (c.loop-left.invariant.chained links value has next long word)
    (c.in_ok-shared.ensures.value k ∙ ap (λ (s : PageModel). s.content) (sym c.image.ensures) ∙ ap content_in c.in-Chain.is) ∙ sym c.min.ensures)

pub loop-left-preserved : goal.loop-left-preserved
loop-left-preserved g c =
    let long_is : vec_len c.in-Chain.part ≡ length c.in-Chain.part.items = search rules in
    let step = grows_same (g.P.Pages.store c.loop-left.pages) (g.P.Pages.store c.read.new.self) c.in_ok-shared.ensures.stays c.in_ok-shared.ensures.same in
    record {
      grows = grows_trans _ _ _ c.loop-left.invariant.grows step;
      same = λ k. let now = c.in_ok-shared.ensures.same k in same_trans _ _ _ (c.loop-left.invariant.same now.word) now;
      takes = c.in_ok-shared.ensures.takes ∙ c.loop-left.invariant.takes;
      chained = λ links value has next long k.
          subst (λ bs. IsRead (g.P.Pages.store c.read.new.self) value bs (c.loop-left.left - c.len-left.result) c.in-Chain.next)
          (ap (λ zs. c.loop-left.bytes.items ++ zs) (sym c.deref.ensures.value) ∙ sym c.in_ok-extend_from_slice.ensures.items)
          (read_on (g.P.Pages.store c.loop-left.pages) (g.P.Pages.store c.read.new.self) value _ _ _ _ _ c.in-Chain.part.items
          (step.frame k) c.loop-left-test.true (c.loop-left.invariant.chained links value has next long (step.frame k).word)
          (c.in_ok-shared.ensures.value k ∙ ap (λ (s : PageModel). s.content) (sym c.image.ensures) ∙ ap content_in c.in-Chain.is)
          (ap (λ n. c.loop-left.left - n) (c.len-left.ensures ∙ long_is)));
    }

pub returns-then-page-ne0-clause-reads : goal.returns-then-page-ne0-clause-reads
returns-then-page-ne0-clause-reads g c =
    λ links value has next long k.
    c.if-page-ne0.true (ends (g.P.Pages.store c.loop-left.pages) value _ _ _ (omega arith) (c.loop-left.invariant.chained links value has next long k))

pub returns-in_err-shared-clause-grows : goal.returns-in_err-shared-clause-grows
returns-in_err-shared-clause-grows g c =
    grows_trans _ _ _ c.loop-left.invariant.grows
    (grows_same (g.P.Pages.store c.loop-left.pages) (g.P.Pages.store c.read.new.self) c.in_err-shared.ensures.stays c.in_err-shared.ensures.same)

pub returns-in_err-shared-clause-same : goal.returns-in_err-shared-clause-same
returns-in_err-shared-clause-same g c = λ k. let now = c.in_err-shared.ensures.same k in same_trans _ _ _ (c.loop-left.invariant.same now.word) now

pub returns-then-len-min-clause-grows : goal.returns-then-len-min-clause-grows
returns-then-len-min-clause-grows g c =
    grows_trans _ _ _ c.loop-left.invariant.grows (grows_same (g.P.Pages.store c.loop-left.pages) (g.P.Pages.store c.read.new.self)
    c.in_ok-shared.ensures.stays c.in_ok-shared.ensures.same)

pub returns-then-len-min-clause-same : goal.returns-then-len-min-clause-same
returns-then-len-min-clause-same g c = λ k. let now = c.in_ok-shared.ensures.same k in same_trans _ _ _ (c.loop-left.invariant.same now.word) now

pub returns-in_err-extend_from_slice-clause-grows : goal.returns-in_err-extend_from_slice-clause-grows
returns-in_err-extend_from_slice-clause-grows g c =
    grows_trans _ _ _ c.loop-left.invariant.grows (grows_same (g.P.Pages.store c.loop-left.pages) (g.P.Pages.store c.read.new.self)
    c.in_ok-shared.ensures.stays c.in_ok-shared.ensures.same)

pub returns-in_err-extend_from_slice-clause-same : goal.returns-in_err-extend_from_slice-clause-same
returns-in_err-extend_from_slice-clause-same g c = λ k. let now = c.in_ok-shared.ensures.same k in same_trans _ _ _ (c.loop-left.invariant.same now.word) now
