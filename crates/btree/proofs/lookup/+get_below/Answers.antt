use Rattle.std.proofs.Common.{◌≡◌, ◌∙◌, ap, sym, length, inr, rules}
use Rattle.tree_model.specs.View.{content_in}
use Rattle.page.specs.Content.{Pivot}
use Rattle.page.specs.Format.{PageModel}
use Rattle.tree_model.proofs.StoreLemmas.{answer_failed, frame_same, grows_same, grows_trans, same_trans}
use Rattle.tree_model.proofs.GetLemmas.{not_between, in_leaf, too_deep, in_child, bounds_are}
use Rattle.btree.proofs.lookup.+get_below.Goals as goal

pub returns-in_err-shared-clause-looks : goal.returns-in_err-shared-clause-looks
returns-in_err-shared-clause-looks g t c =
    λ d body part within k.
    answer_failed (g.P.Pages.store c.args.pages.now) (g.P.Pages.store c.read.new.self) _ _ _ c.from_residual.ensures.1
    (c.in_err-shared.ensures.cause k _ part.at)

pub returns-then-not-lies_between-clause-looks : goal.returns-then-not-lies_between-clause-looks
returns-then-not-lies_between-clause-looks g t c =
    λ d body part within k.
    not_between (g.P.Pages.store c.args.pages.now) _ _ _ _ _ _
    (c.in_ok-shared.ensures.value k ∙ ap (λ (s : PageModel). s.content) (sym c.image.ensures)) c.lies_between.ensures c.if-not-lies_between.true d body part

pub returns-in-Leaf-clause-looks : goal.returns-in-Leaf-clause-looks
returns-in-Leaf-clause-looks g t c =
    λ d body part within k.
    let w = (c.value_in_leaf.ensures.grows.frame k).word in
    in_leaf (g.P.Pages.store c.args.pages.now) c.args.page c.args.level _ _ (λ v. v.items) (g.P.Pages.store c.read.new.self)
    (g.P.Pages.store c.value_in_leaf.new.pages) _ _ _
    (frame_same (g.P.Pages.store c.args.pages.now) (g.P.Pages.store c.read.new.self) (c.in_ok-shared.ensures.same w))
    (c.in_ok-shared.ensures.value w ∙ ap (λ (s : PageModel). s.content) (sym c.image-2.ensures) ∙ ap content_in c.in-Leaf.is)
    (λ pairs e rise shown. c.value_in_leaf.ensures.looks pairs e rise shown k) d body part

pub returns-then-len-eq0-clause-looks : goal.returns-then-len-eq0-clause-looks
returns-then-len-eq0-clause-looks g t c =
    λ d body part within k.
    let none : length c.in-Branch.branch ≡ 0 = search rules in
    too_deep (g.P.Pages.store c.args.pages.now) _ _ _ _ _
    (c.in_ok-shared.ensures.value k ∙ ap (λ (s : PageModel). s.content) (sym c.image-2.ensures) ∙ ap content_in c.in-Branch.is) (inr none) d body part

pub returns-clause-looks : goal.returns-clause-looks
returns-clause-looks g t c =
    λ d body part within k.
    let w = (c.get_below.ensures.grows.frame k).word in
    in_child (g.P.Pages.store c.args.pages.now) c.args.page c.args.level _ _ (λ v. v.items) (g.P.Pages.store c.read.new.self)
    (g.P.Pages.store c.get_below.new.pages) _ _ _ _ _ _ _
    (c.in_ok-shared.ensures.value w ∙ ap (λ (s : PageModel). s.content) (sym c.image-2.ensures) ∙ ap content_in c.in-Branch.is)
    (frame_same (g.P.Pages.store c.args.pages.now) (g.P.Pages.store c.read.new.self) (c.in_ok-shared.ensures.same w)) c.child_of_key-at.ensures
    (bounds_are _ _ _ _ _ _ c.low_bound-from.ensures.first c.low_bound-from.ensures.later c.high_bound-to.ensures.last c.high_bound-to.ensures.inner)
    (λ e. sym (ap (λ (a : Pivot). a.child) (c.branch_child.ensures e))) (λ d body part within. c.get_below.ensures.looks d body part within k) d body part
    within

pub returns-in_err-shared-clause-grows : goal.returns-in_err-shared-clause-grows
returns-in_err-shared-clause-grows g t c =
    grows_same (g.P.Pages.store c.args.pages.now) (g.P.Pages.store c.read.new.self) c.in_err-shared.ensures.stays c.in_err-shared.ensures.same

pub returns-then-not-lies_between-clause-grows : goal.returns-then-not-lies_between-clause-grows
returns-then-not-lies_between-clause-grows g t c =
    grows_same (g.P.Pages.store c.args.pages.now) (g.P.Pages.store c.read.new.self) c.in_ok-shared.ensures.stays c.in_ok-shared.ensures.same

pub returns-in-Leaf-clause-grows : goal.returns-in-Leaf-clause-grows
returns-in-Leaf-clause-grows g t c =
    grows_trans _ _ _ (grows_same (g.P.Pages.store c.args.pages.now) (g.P.Pages.store c.read.new.self) c.in_ok-shared.ensures.stays
    c.in_ok-shared.ensures.same) c.value_in_leaf.ensures.grows

pub returns-in-Leaf-clause-same : goal.returns-in-Leaf-clause-same
returns-in-Leaf-clause-same g t c = λ k. let now = c.value_in_leaf.ensures.same k in same_trans _ _ _ (c.in_ok-shared.ensures.same now.word) now

pub returns-then-len-eq0-clause-grows : goal.returns-then-len-eq0-clause-grows
returns-then-len-eq0-clause-grows g t c =
    grows_same (g.P.Pages.store c.args.pages.now) (g.P.Pages.store c.read.new.self) c.in_ok-shared.ensures.stays c.in_ok-shared.ensures.same

pub returns-clause-grows : goal.returns-clause-grows
returns-clause-grows g t c =
    grows_trans _ _ _ (grows_same (g.P.Pages.store c.args.pages.now) (g.P.Pages.store c.read.new.self) c.in_ok-shared.ensures.stays
    c.in_ok-shared.ensures.same) c.get_below.ensures.grows

pub returns-clause-same : goal.returns-clause-same
returns-clause-same g t c = λ k. let now = c.get_below.ensures.same k in same_trans _ _ _ (c.in_ok-shared.ensures.same now.word) now
