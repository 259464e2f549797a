use Rattle.std.proofs.Common.{◌≡◌, ◌∙◌, ◌++◌, take, suc, ap, refl, sym, subst, arith, rules, append-nil, length, inr}
use Rattle.std.specs.Option.{option_map}
use Rattle.page.specs.Content.{Pivot}
use Rattle.page.specs.Format.{PageModel}
use Rattle.tree_model.specs.Search.{IsChildPlace}
use Rattle.tree_model.specs.Tree.{Body, pivot_of, entries_of}
use Rattle.tree_model.specs.View.{content_in}
use Rattle.tree_model.specs.Calls.{IsAnswer}
use Rattle.btree.specs.Fold.{between}
use Rattle.tree_model.proofs.StoreLemmas.{answer_failed, frame_same, frame_trans, grows_itself, grows_same, grows_trans, part_kept, same_itself, same_trans}
use Rattle.tree_model.proofs.ListLemmas.{long_map}
use Rattle.tree_model.proofs.GetLemmas.{not_between, too_deep, bounds_are}
use Rattle.btree.proofs.PassedLemmas.{children_passed, children_rest, passed_over}
use Rattle.btree.proofs.ScanLemmas.{at_branch, scan_leaf_below, none_before, child_here, child_on, child_past, scan_failed, take_all}
use Rattle.btree.proofs.folding.+fold_below.Goals as goal

pub returns-in_err-shared-clause-folds : goal.returns-in_err-shared-clause-folds
returns-in_err-shared-clause-folds g t c =
    λ start all d body part made k.
    answer_failed (g.P.Pages.store c.args.pages.now) (g.P.Pages.store c.read.new.self) _ _ _ c.from_residual.ensures.1
    (c.in_err-shared.ensures.cause k _ part.at)

pub returns-then-not-lies_between-clause-folds : goal.returns-then-not-lies_between-clause-folds
returns-then-not-lies_between-clause-folds g t c =
    λ start all d body part made k.
    not_between (g.P.Pages.store c.args.pages.now) _ _ _ _ _ _
    (c.in_ok-shared.ensures.value k ∙ ap (λ (s : PageModel). s.content) (sym c.image.ensures)) c.lies_between.ensures c.if-not-lies_between.true d body part

pub returns-in-Leaf-clause-folds : goal.returns-in-Leaf-clause-folds
returns-in-Leaf-clause-folds g t c =
    λ start all d body part made k.
    let w = (c.fold_leaf.ensures.grows.frame k).word in
    scan_leaf_below (g.P.Pages.store c.args.pages.now) (g.P.Pages.store c.read.new.self) (g.P.Pages.store c.fold_leaf.new.pages) c.args.page c.args.level _ _ _
    (λ es. g.F.Fold.makes start (all ++ between c.args.bounds es) c.fold_leaf.new.fold) _
    (frame_same (g.P.Pages.store c.args.pages.now) (g.P.Pages.store c.read.new.self) (c.in_ok-shared.ensures.same w))
    (c.in_ok-shared.ensures.value w ∙ ap (λ (s : PageModel). s.content) (sym c.image-2.ensures) ∙ ap content_in c.in-Leaf.is)
    (λ pairs e rise shown. c.fold_leaf.ensures.folds start all pairs e rise shown made k) d body part

pub returns-then-len-eq0-clause-folds : goal.returns-then-len-eq0-clause-folds
returns-then-len-eq0-clause-folds g t c =
    λ start all d body part made k.
    let none : length c.in-Branch.branch ≡ 0 = search rules in
    too_deep (g.P.Pages.store c.args.pages.now) _ _ _ _ _
    (c.in_ok-shared.ensures.value k ∙ ap (λ (s : PageModel). s.content) (sym c.image-2.ensures) ∙ ap content_in c.in-Branch.is) (inr none) d body part

pub children-init : goal.children-init
children-init g t c =
    record {
      grows = grows_itself (g.P.Pages.store c.read.new.self);
      same = same_itself (g.P.Pages.store c.read.new.self);
      takes = refl;
      made = λ start all d subtrees e part made k. subst (λ es. g.F.Fold.makes start es c.args.fold.now)
          (sym (append-nil all)
          ∙ ap (λ es. all ++ es)
          (sym (none_before (g.P.Pages.store c.read.new.self) c.args.page c.args.level d c.args.low.now (option_map (λ b. b.now) c.args.high) subtrees _ e part
          c.args.bounds.from.now (option_map (λ b. b.now) c.args.bounds.to) c.first_child-i.result c.first_child-i.ensures))) made;
      lent = λ start h. h;
    }

pub returns-then-is_done-clause-folds : goal.returns-then-is_done-clause-folds
returns-then-is_done-clause-folds g t c =
    λ start all d body part made k.
    let w = (c.children.invariant.grows.frame k).word in
    at_branch (g.P.Pages.store c.args.pages.now) (g.P.Pages.store c.read.new.self) c.args.page c.args.level _ _ c.in-Branch.branch
    (c.in_ok-shared.ensures.value w ∙ ap (λ (s : PageModel). s.content) (sym c.image-2.ensures) ∙ ap content_in c.in-Branch.is)
    (frame_same (g.P.Pages.store c.args.pages.now) (g.P.Pages.store c.read.new.self) (c.in_ok-shared.ensures.same w))
    (λ d body. g.F.Fold.makes start (all ++ between c.args.bounds (entries_of d body)) c.children.fold)
    (λ d subtrees e p.
    subst (λ es. g.F.Fold.makes start es c.children.fold)
    (children_rest c.args.bounds.from.now (option_map (λ b. b.now) c.args.bounds.to) all d subtrees c.children.i)
    (c.is_done.ensures c.if-is_done.true start _ _ (c.children.invariant.made start all d subtrees e p made k)))
    d body part

pub returns-then-not-is_within-clause-folds : goal.returns-then-not-is_within-clause-folds
returns-then-not-is_within-clause-folds g t c =
    λ start all d body part made k.
    let w = (c.children.invariant.grows.frame k).word in
    at_branch (g.P.Pages.store c.args.pages.now) (g.P.Pages.store c.read.new.self) c.args.page c.args.level _ _ c.in-Branch.branch
    (c.in_ok-shared.ensures.value w ∙ ap (λ (s : PageModel). s.content) (sym c.image-2.ensures) ∙ ap content_in c.in-Branch.is)
    (frame_same (g.P.Pages.store c.args.pages.now) (g.P.Pages.store c.read.new.self) (c.in_ok-shared.ensures.same w))
    (λ d body. g.F.Fold.makes start (all ++ between c.args.bounds (entries_of d body)) c.children.fold)
    (λ d subtrees e p.
    let here = child_here (g.P.Pages.store c.read.new.self) c.args.page c.args.level d c.args.low.now
    (option_map (λ b. b.now) c.args.high) subtrees _ e p c.wanted_child-at.result _ _ _ c.wanted_child-at.ensures.within
    (bounds_are _ _ _ _ _ _ c.low_bound-from.ensures.first c.low_bound-from.ensures.later c.high_bound-to.ensures.last c.high_bound-to.ensures.inner)
    (λ a. sym (ap (λ (x : Pivot). x.child) (c.branch_child-child.ensures a))) in
    subst (λ es. g.F.Fold.makes start es c.children.fold)
    (child_past (g.P.Pages.store c.read.new.self) c.args.level d subtrees c.wanted_child-at.result _ _ c.args.bounds.from.now _
    (option_map (λ b. b.now) c.args.bounds.to) here all c.if-not-is_within.ensures)
    (passed_over (λ k. k.now) g.F.Fold.makes start c.children.fold c.args.bounds.from.now (option_map (λ b. b.now) c.args.bounds.to) all
    (λ n. entries_of (suc d) (take n subtrees)) c.children.i c.wanted_child-at.result (λ key. IsChildPlace c.in-Branch.branch key c.wanted_child-at.result)
    (λ key place. children_passed key c.args.bounds.from.now (option_map (λ b. b.now) c.args.bounds.to) all (g.P.Pages.store c.read.new.self) c.args.page
    c.args.level d c.args.low.now (option_map (λ b. b.now) c.args.high) subtrees c.in-Branch.branch e p c.children.i
    c.wanted_child-at.result c.wanted_child-at.ensures.behind place)
    c.next_key.result c.next_key.ensures c.wanted_child-at.ensures.passed (c.children.invariant.made start all d subtrees e p made k)))
    d body part

pub returns-in_err-fold_below-clause-folds : goal.returns-in_err-fold_below-clause-folds
returns-in_err-fold_below-clause-folds g t c =
    λ start all d body part made k.
    let v = (c.in_err-fold_below.ensures.grows.frame k).word in
    let w = (c.children.invariant.grows.frame v).word in
    at_branch (g.P.Pages.store c.args.pages.now) (g.P.Pages.store c.read.new.self) c.args.page c.args.level _ _ c.in-Branch.branch
    (c.in_ok-shared.ensures.value w ∙ ap (λ (s : PageModel). s.content) (sym c.image-2.ensures) ∙ ap content_in c.in-Branch.is)
    (frame_same (g.P.Pages.store c.args.pages.now) (g.P.Pages.store c.read.new.self) (c.in_ok-shared.ensures.same w))
    (λ d body. IsAnswer (g.P.Pages.store c.args.pages.now) (g.P.Pages.store c.fold_below.new.pages)
    (λ done. g.F.Fold.makes start (all ++ between c.args.bounds (entries_of d body)) c.fold_below.new.fold) c.from_residual-in_err-fold_below.result)
    (λ d subtrees e p.
    let here = child_here (g.P.Pages.store c.read.new.self) c.args.page c.args.level d c.args.low.now
    (option_map (λ b. b.now) c.args.high) subtrees _ e p c.wanted_child-at.result _ _ _ c.wanted_child-at.ensures.within
    (bounds_are _ _ _ _ _ _ c.low_bound-from.ensures.first c.low_bound-from.ensures.later c.high_bound-to.ensures.last c.high_bound-to.ensures.inner)
    (λ a. sym (ap (λ (x : Pivot). x.child) (c.branch_child-child.ensures a))) in
    let grows = frame_trans (g.P.Pages.store c.args.pages.now) (g.P.Pages.store c.read.new.self) (g.P.Pages.store c.children.pages)
    (frame_same (g.P.Pages.store c.args.pages.now) (g.P.Pages.store c.read.new.self) (c.in_ok-shared.ensures.same w)) (c.children.invariant.grows.frame v) in
    scan_failed (g.P.Pages.store c.args.pages.now) (g.P.Pages.store c.children.pages)
    (g.P.Pages.store c.fold_below.new.pages) _ _ _ grows c.from_residual-in_err-fold_below.ensures.1
    (c.in_err-fold_below.ensures.folds start _ d here.body (part_kept _ _ (c.children.invariant.grows.frame v) _ _ d _ _ here.body here.part)
    (passed_over (λ k. k.now) g.F.Fold.makes start c.children.fold c.args.bounds.from.now (option_map (λ b. b.now) c.args.bounds.to) all
    (λ n. entries_of (suc d) (take n subtrees)) c.children.i c.wanted_child-at.result (λ key. IsChildPlace c.in-Branch.branch key c.wanted_child-at.result)
    (λ key place. children_passed key c.args.bounds.from.now (option_map (λ b. b.now) c.args.bounds.to) all (g.P.Pages.store c.read.new.self) c.args.page
    c.args.level d c.args.low.now (option_map (λ b. b.now) c.args.high) subtrees c.in-Branch.branch e p c.children.i
    c.wanted_child-at.result c.wanted_child-at.ensures.behind place)
    c.next_key.result c.next_key.ensures c.wanted_child-at.ensures.passed (c.children.invariant.made start all d subtrees e p made v)) k))
    d body part

pub children-preserved : goal.children-preserved
children-preserved g t c =
    record {
      grows = grows_trans (g.P.Pages.store c.read.new.self) (g.P.Pages.store c.children.pages)
          (g.P.Pages.store c.fold_below.new.pages) c.children.invariant.grows c.in_ok-fold_below.ensures.grows;
      same = λ k. let now = c.in_ok-fold_below.ensures.same k in same_trans _ _ _ (c.children.invariant.same now.word) now;
      takes = c.in_ok-fold_below.ensures.takes ∙ c.children.invariant.takes;
      made = λ start all d subtrees e p made k.
          let v = (c.in_ok-fold_below.ensures.grows.frame k).word in
          let here = child_here (g.P.Pages.store c.read.new.self) c.args.page c.args.level d c.args.low.now
          (option_map (λ b. b.now) c.args.high) subtrees _ e p c.wanted_child-at.result _ _ _ c.wanted_child-at.ensures.within
          (bounds_are _ _ _ _ _ _ c.low_bound-from.ensures.first c.low_bound-from.ensures.later c.high_bound-to.ensures.last c.high_bound-to.ensures.inner)
          (λ a. sym (ap (λ (x : Pivot). x.child) (c.branch_child-child.ensures a))) in
          subst (λ es. g.F.Fold.makes start es c.fold_below.new.fold)
          (child_on (g.P.Pages.store c.read.new.self) c.args.level d subtrees c.wanted_child-at.result _ _ c.args.bounds.from.now _
          (option_map (λ b. b.now) c.args.bounds.to) here all)
          (c.in_ok-fold_below.ensures.folds start _ d here.body (part_kept _ _ (c.children.invariant.grows.frame v) _ _ d _ _ here.body here.part)
          (passed_over (λ k. k.now) g.F.Fold.makes start c.children.fold c.args.bounds.from.now (option_map (λ b. b.now) c.args.bounds.to) all
          (λ n. entries_of (suc d) (take n subtrees)) c.children.i c.wanted_child-at.result
          (λ key. IsChildPlace c.in-Branch.branch key c.wanted_child-at.result)
          (λ key place. children_passed key c.args.bounds.from.now (option_map (λ b. b.now) c.args.bounds.to) all (g.P.Pages.store c.read.new.self) c.args.page
          c.args.level d c.args.low.now (option_map (λ b. b.now) c.args.high) subtrees c.in-Branch.branch e p c.children.i
          c.wanted_child-at.result c.wanted_child-at.ensures.behind place)
          c.next_key.result c.next_key.ensures c.wanted_child-at.ensures.passed (c.children.invariant.made start all d subtrees e p made v)) k);
      lent = λ start h. c.in_ok-fold_below.ensures.lent start (c.children.invariant.lent start h);
    }

pub returns-clause-folds : goal.returns-clause-folds
returns-clause-folds g t c =
    λ start all d body part made k.
    let w = (c.children.invariant.grows.frame k).word in
    at_branch (g.P.Pages.store c.args.pages.now) (g.P.Pages.store c.read.new.self) c.args.page c.args.level _ _ c.in-Branch.branch
    (c.in_ok-shared.ensures.value w ∙ ap (λ (s : PageModel). s.content) (sym c.image-2.ensures) ∙ ap content_in c.in-Branch.is)
    (frame_same (g.P.Pages.store c.args.pages.now) (g.P.Pages.store c.read.new.self) (c.in_ok-shared.ensures.same w))
    (λ d body. g.F.Fold.makes start (all ++ between c.args.bounds (entries_of d body)) c.children.fold)
    (λ d subtrees e p.
    subst (λ ts. g.F.Fold.makes start (all ++ between c.args.bounds (entries_of (suc d) ts)) c.children.fold)
    (take_all subtrees c.children.i (omega (arith, ap length e, long_map (pivot_of {B = Body d}) subtrees, c.children-test.false)))
    (c.children.invariant.made start all d subtrees e p made k))
    d body part

pub returns-in_err-shared-clause-grows : goal.returns-in_err-shared-clause-grows
returns-in_err-shared-clause-grows g t c =
    grows_same (g.P.Pages.store c.args.pages.now) (g.P.Pages.store c.read.new.self) c.in_err-shared.ensures.stays c.in_err-shared.ensures.same

pub returns-then-not-lies_between-clause-grows : goal.returns-then-not-lies_between-clause-grows
returns-then-not-lies_between-clause-grows g t c =
    grows_same (g.P.Pages.store c.args.pages.now) (g.P.Pages.store c.read.new.self) c.in_ok-shared.ensures.stays c.in_ok-shared.ensures.same

pub returns-in-Leaf-clause-grows : goal.returns-in-Leaf-clause-grows
returns-in-Leaf-clause-grows g t c =
    grows_trans _ _ _ (grows_same (g.P.Pages.store c.args.pages.now) (g.P.Pages.store c.read.new.self) c.in_ok-shared.ensures.stays
    c.in_ok-shared.ensures.same) c.fold_leaf.ensures.grows

pub returns-in-Leaf-clause-same : goal.returns-in-Leaf-clause-same
returns-in-Leaf-clause-same g t c = λ k. let now = c.fold_leaf.ensures.same k in same_trans _ _ _ (c.in_ok-shared.ensures.same now.word) now

pub returns-then-len-eq0-clause-grows : goal.returns-then-len-eq0-clause-grows
returns-then-len-eq0-clause-grows g t c =
    grows_same (g.P.Pages.store c.args.pages.now) (g.P.Pages.store c.read.new.self) c.in_ok-shared.ensures.stays c.in_ok-shared.ensures.same

pub returns-then-is_done-clause-grows : goal.returns-then-is_done-clause-grows
returns-then-is_done-clause-grows g t c =
    grows_trans _ _ _ (grows_same (g.P.Pages.store c.args.pages.now) (g.P.Pages.store c.read.new.self) c.in_ok-shared.ensures.stays
    c.in_ok-shared.ensures.same) c.children.invariant.grows

pub returns-then-is_done-clause-same : goal.returns-then-is_done-clause-same
returns-then-is_done-clause-same g t c = λ k. let now = c.children.invariant.same k in same_trans _ _ _ (c.in_ok-shared.ensures.same now.word) now

pub returns-then-not-is_within-clause-grows : goal.returns-then-not-is_within-clause-grows
returns-then-not-is_within-clause-grows g t c =
    grows_trans _ _ _ (grows_same (g.P.Pages.store c.args.pages.now) (g.P.Pages.store c.read.new.self) c.in_ok-shared.ensures.stays
    c.in_ok-shared.ensures.same) c.children.invariant.grows

pub returns-then-not-is_within-clause-same : goal.returns-then-not-is_within-clause-same
returns-then-not-is_within-clause-same g t c = λ k. let now = c.children.invariant.same k in same_trans _ _ _ (c.in_ok-shared.ensures.same now.word) now

pub returns-in_err-fold_below-clause-grows : goal.returns-in_err-fold_below-clause-grows
returns-in_err-fold_below-clause-grows g t c =
    grows_trans _ _ _ (grows_trans _ _ _ (grows_same (g.P.Pages.store c.args.pages.now) (g.P.Pages.store c.read.new.self) c.in_ok-shared.ensures.stays
    c.in_ok-shared.ensures.same)
    c.children.invariant.grows) c.in_err-fold_below.ensures.grows

pub returns-in_err-fold_below-clause-same : goal.returns-in_err-fold_below-clause-same
returns-in_err-fold_below-clause-same g t c =
    λ k. let last = c.in_err-fold_below.ensures.same k in
    let now = c.children.invariant.same last.word in
    same_trans _ _ _ (same_trans _ _ _ (c.in_ok-shared.ensures.same now.word) now) last

pub returns-clause-grows : goal.returns-clause-grows
returns-clause-grows g t c =
    grows_trans _ _ _ (grows_same (g.P.Pages.store c.args.pages.now) (g.P.Pages.store c.read.new.self) c.in_ok-shared.ensures.stays
    c.in_ok-shared.ensures.same) c.children.invariant.grows

pub returns-clause-same : goal.returns-clause-same
returns-clause-same g t c = λ k. let now = c.children.invariant.same k in same_trans _ _ _ (c.in_ok-shared.ensures.same now.word) now
