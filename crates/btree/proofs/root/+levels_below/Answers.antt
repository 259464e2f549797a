use Rattle.std.proofs.Common.{◌∙◌, ◌+◌, sym, ap, arith}
use Rattle.page.specs.Content.{Pivot}
use Rattle.page.specs.Format.{PageModel}
use Rattle.tree_model.specs.View.{content_in}
use Rattle.btree.proofs.RootLemmas.{first_part}
use Rattle.tree_model.proofs.StoreLemmas.{answer_failed, cause_later, frame_same, grows_same, grows_trans, part_kept, same_trans}
use Rattle.btree.proofs.root.+levels_below.Goals as goal

pub returns-in_err-below-clause-levels : goal.returns-in_err-below-clause-levels
returns-in_err-below-clause-levels g t c =
    λ d low high body part k.
    let word = (c.levels_below.ensures.grows.frame k).word in
    let before = g.P.Pages.store c.args.pages.now in
    let mid = g.P.Pages.store c.read.new.self in
    let frame = frame_same before mid (c.in_ok-shared.ensures.same word) in
    let n = first_part before c.args.page c.args.level c.branch_child.result.page d low high body c.in-Branch.branch
    (sym (c.in_ok-shared.ensures.value word ∙ ap (λ (s : PageModel). s.content) (sym c.image.ensures) ∙ ap content_in c.in-Branch.is) ∙ part.at.holds)
    (λ e. sym (ap (λ (a : Pivot). a.child) (c.branch_child.ensures e))) part in
    answer_failed before (g.P.Pages.store c.levels_below.new.pages) _ _ _ c.from_residual-in_err-below.ensures.1
    (cause_later before mid (g.P.Pages.store c.levels_below.new.pages) _ frame
    (c.in_err-below.ensures.levels n.below n.low n.high n.body
    (part_kept before mid frame c.branch_child.result.page (c.args.level + 1) n.below n.low n.high n.body n.part) k))

pub returns-then-below-clause-levels : goal.returns-then-below-clause-levels
returns-then-below-clause-levels g t c =
    λ d low high body part k.
    let word = (c.levels_below.ensures.grows.frame k).word in
    let before = g.P.Pages.store c.args.pages.now in
    let mid = g.P.Pages.store c.read.new.self in
    let frame = frame_same before mid (c.in_ok-shared.ensures.same word) in
    let n = first_part before c.args.page c.args.level c.branch_child.result.page d low high body c.in-Branch.branch
    (sym (c.in_ok-shared.ensures.value word ∙ ap (λ (s : PageModel). s.content) (sym c.image.ensures) ∙ ap content_in c.in-Branch.is) ∙ part.at.holds)
    (λ e. sym (ap (λ (a : Pivot). a.child) (c.branch_child.ensures e))) part in
    let is = c.in_ok-below.ensures.levels n.below n.low n.high n.body
    (part_kept before mid frame c.branch_child.result.page (c.args.level + 1) n.below n.low n.high n.body n.part) k in
    absurd (omega (arith, is, n.part.depth))

pub returns-clause-levels : goal.returns-clause-levels
returns-clause-levels g t c =
    λ d low high body part k.
    let word = (c.levels_below.ensures.grows.frame k).word in
    let before = g.P.Pages.store c.args.pages.now in
    let mid = g.P.Pages.store c.read.new.self in
    let frame = frame_same before mid (c.in_ok-shared.ensures.same word) in
    let n = first_part before c.args.page c.args.level c.branch_child.result.page d low high body c.in-Branch.branch
    (sym (c.in_ok-shared.ensures.value word ∙ ap (λ (s : PageModel). s.content) (sym c.image.ensures) ∙ ap content_in c.in-Branch.is) ∙ part.at.holds)
    (λ e. sym (ap (λ (a : Pivot). a.child) (c.branch_child.ensures e))) part in
    let is = c.in_ok-below.ensures.levels n.below n.low n.high n.body
    (part_kept before mid frame c.branch_child.result.page (c.args.level + 1) n.below n.low n.high n.body n.part) k in
    omega (arith, is, n.one_less)

pub returns-in_err-shared-clause-grows : goal.returns-in_err-shared-clause-grows
returns-in_err-shared-clause-grows g t c =
    grows_same (g.P.Pages.store c.args.pages.now) (g.P.Pages.store c.read.new.self) c.in_err-shared.ensures.stays c.in_err-shared.ensures.same

pub returns-in_err-below-clause-grows : goal.returns-in_err-below-clause-grows
returns-in_err-below-clause-grows g t c =
    grows_trans _ _ _ (grows_same (g.P.Pages.store c.args.pages.now) (g.P.Pages.store c.read.new.self) c.in_ok-shared.ensures.stays
    c.in_ok-shared.ensures.same) c.in_err-below.ensures.grows

pub returns-in_err-below-clause-same : goal.returns-in_err-below-clause-same
returns-in_err-below-clause-same g t c = λ k. let now = c.in_err-below.ensures.same k in same_trans _ _ _ (c.in_ok-shared.ensures.same now.word) now

pub returns-then-below-clause-grows : goal.returns-then-below-clause-grows
returns-then-below-clause-grows g t c =
    grows_trans _ _ _ (grows_same (g.P.Pages.store c.args.pages.now) (g.P.Pages.store c.read.new.self) c.in_ok-shared.ensures.stays
    c.in_ok-shared.ensures.same) c.in_ok-below.ensures.grows

pub returns-then-below-clause-same : goal.returns-then-below-clause-same
returns-then-below-clause-same g t c = λ k. let now = c.in_ok-below.ensures.same k in same_trans _ _ _ (c.in_ok-shared.ensures.same now.word) now

pub returns-clause-grows : goal.returns-clause-grows
returns-clause-grows g t c =
    grows_trans _ _ _ (grows_same (g.P.Pages.store c.args.pages.now) (g.P.Pages.store c.read.new.self) c.in_ok-shared.ensures.stays
    c.in_ok-shared.ensures.same) c.in_ok-below.ensures.grows

pub returns-clause-same : goal.returns-clause-same
returns-clause-same g t c = λ k. let now = c.in_ok-below.ensures.same k in same_trans _ _ _ (c.in_ok-shared.ensures.same now.word) now
