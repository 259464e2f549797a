use Rattle.std.proofs.Common.{◌∙◌, ◌++◌, ℕ, List, Option, take, zero, ap, refl, sym, subst, arith, append-nil, length, map}
use Rattle.std.specs.Option.{option_map}
use Rattle.page.specs.Content.{Item}
use Rattle.tree_model.specs.Keys.{Pair, IsWithin, entry_of}
use Rattle.tree_model.specs.Search.{IsPlace}
use Rattle.tree_model.specs.Tree.{item_of}
use Rattle.btree.specs.Fold.{between}
use Rattle.tree_model.proofs.ListLemmas.{long_map}
use Rattle.tree_model.proofs.StoreLemmas.{grows_itself, grows_trans, same_itself, same_trans, shows_kept}
use Rattle.btree.proofs.PassedLemmas.{cells_passed, passed_over}
use Rattle.btree.proofs.ScanLemmas.{all_taken, before_end, first_none, here, goes_on, rest_behind, scan_failed}
use Rattle.btree.proofs.folding.fold_leaf.Goals as goal

pub cells-init : goal.cells-init
cells-init g c =
    record {
      behind = omega arith;
      grows = grows_itself (g.P.Pages.store c.args.pages.now);
      same = same_itself (g.P.Pages.store c.args.pages.now);
      takes = refl;
      made = λ start all pairs e rise shown made k. subst (λ es. g.F.Fold.makes start es c.args.fold.now)
          (sym (append-nil all)
          ∙ ap (λ es. all ++ es)
          (sym
          (first_none c.args.bounds.from.now (option_map (λ b. b.now) c.args.bounds.to) _ pairs c.first_cell-i.result e rise c.first_cell-i.ensures)))
          made;
      lent = λ start h. h;
    }

pub returns-then-is_done-clause-folds : goal.returns-then-is_done-clause-folds
returns-then-is_done-clause-folds g c =
    λ start all pairs e rise shown made k.
    subst (λ es. g.F.Fold.makes start es c.cells.fold)
    (rest_behind c.args.bounds.from.now (option_map (λ b. b.now) c.args.bounds.to) all pairs c.cells.i)
    (c.is_done.ensures c.if-is_done.true start _ _ (c.cells.invariant.made start all pairs e rise shown made k))

pub returns-then-end-at-clause-folds : goal.returns-then-end-at-clause-folds
returns-then-end-at-clause-folds g c =
    λ start all pairs e rise shown made k.
    subst (λ es. g.F.Fold.makes start es c.cells.fold)
    (all_taken c.args.bounds.from.now (option_map (λ b. b.now) c.args.bounds.to) _ pairs c.first_cell-i.result e rise c.first_cell-i.ensures
    c.place_of_end-end.result c.place_of_end-end.ensures c.wanted_cell-at.result (omega (arith, c.cells.invariant.behind, c.wanted_cell-at.ensures.behind))
    (omega arith) all)
    (passed_over (λ k. k.now) g.F.Fold.makes start c.cells.fold c.args.bounds.from.now (option_map (λ b. b.now) c.args.bounds.to) all
    (λ n. map entry_of (take n pairs)) c.cells.i c.wanted_cell-at.result (λ key. IsPlace c.args.leaf.now key c.wanted_cell-at.result)
    (λ key place. cells_passed key c.args.bounds.from.now (option_map (λ b. b.now) c.args.bounds.to) all c.args.leaf.now pairs c.cells.i
    c.wanted_cell-at.result e rise c.wanted_cell-at.ensures.behind place)
    c.next_key.result c.next_key.ensures c.wanted_cell-at.ensures.passed (c.cells.invariant.made start all pairs e rise shown made k))

pub returns-in_err-lend-clause-folds : goal.returns-in_err-lend-clause-folds
returns-in_err-lend-clause-folds g c =
    λ start all pairs e rise shown made k.
    let from : List ℕ = c.args.bounds.from.now in
    let to : Option (List ℕ) = option_map (λ b. b.now) c.args.bounds.to in
    let at : ℕ = c.wanted_cell-at.result in
    let w = (c.in_err-lend.ensures.grows.frame k).word in
    let h = here from to _ pairs c.first_cell-i.result e rise c.first_cell-i.ensures
    at (omega (arith, c.cells.invariant.behind, c.wanted_cell-at.ensures.behind)) (omega (arith, c.place_of_end-end.ensures.within)) _ c.leaf_cell.ensures in
    let now = shows_kept _ (g.P.Pages.store c.cells.pages) (c.cells.invariant.grows.frame w) zero pairs shown in
    let made_at = passed_over (λ k. k.now) g.F.Fold.makes start c.cells.fold from to all
    (λ n. map entry_of (take n pairs)) c.cells.i at (λ key. IsPlace c.args.leaf.now key at)
    (λ key place. cells_passed key from to all c.args.leaf.now pairs c.cells.i at e rise c.wanted_cell-at.ensures.behind place)
    c.next_key.result c.next_key.ensures c.wanted_cell-at.ensures.passed (c.cells.invariant.made start all pairs e rise shown made w) in
    scan_failed (g.P.Pages.store c.args.pages.now) (g.P.Pages.store c.cells.pages) (g.P.Pages.store c.lend.new.pages) _ _ _
    (c.cells.invariant.grows.frame w) c.from_residual.ensures.1
    (c.in_err-lend.ensures.folds start _ h.pair h.is (h.chained _ now) made_at k)

pub cells-preserved : goal.cells-preserved
cells-preserved g c =
    record {
      behind = omega (arith, c.cells.invariant.behind, c.wanted_cell-at.ensures.behind);
      grows = grows_trans _ _ _ c.cells.invariant.grows c.in_ok-lend.ensures.grows;
      same = λ k. let now = c.in_ok-lend.ensures.same k in same_trans _ _ _ (c.cells.invariant.same now.word) now;
      takes = c.in_ok-lend.ensures.takes ∙ c.cells.invariant.takes;
      made = λ start all pairs e rise shown made k.
          let from : List ℕ = c.args.bounds.from.now in
          let to : Option (List ℕ) = option_map (λ b. b.now) c.args.bounds.to in
          let at : ℕ = c.wanted_cell-at.result in
          let w = (c.in_ok-lend.ensures.grows.frame k).word in
          let h = here from to _ pairs c.first_cell-i.result e rise c.first_cell-i.ensures at
          (omega (arith, c.cells.invariant.behind, c.wanted_cell-at.ensures.behind)) (omega (arith, c.place_of_end-end.ensures.within)) _ c.leaf_cell.ensures in
          let now = shows_kept _ (g.P.Pages.store c.cells.pages) (c.cells.invariant.grows.frame w) zero pairs shown in
          let made_at = passed_over (λ k. k.now) g.F.Fold.makes start c.cells.fold from to all
          (λ n. map entry_of (take n pairs)) c.cells.i at (λ key. IsPlace c.args.leaf.now key at)
          (λ key place. cells_passed key from to all c.args.leaf.now pairs c.cells.i at e rise c.wanted_cell-at.ensures.behind place)
          c.next_key.result c.next_key.ensures c.wanted_cell-at.ensures.passed (c.cells.invariant.made start all pairs e rise shown made w) in
          subst (λ es. g.F.Fold.makes start es c.lend.new.fold)
          (goes_on _ _ _ pairs c.first_cell-i.result e rise c.first_cell-i.ensures at _ h all
          (subst (λ (x : Pair). IsWithin to x.key) (h.stands h.pair)
          (before_end _ _ pairs _ e rise c.place_of_end-end.ensures at h.pair (omega arith))))
          (c.in_ok-lend.ensures.folds start _ h.pair h.is (h.chained _ now) made_at k);
      lent = λ start h. c.in_ok-lend.ensures.lent start (c.cells.invariant.lent start h);
    }

pub returns-clause-folds : goal.returns-clause-folds
returns-clause-folds g c =
    λ start all pairs e rise shown made k.
    subst (λ es. g.F.Fold.makes start es c.cells.fold)
    (all_taken c.args.bounds.from.now (option_map (λ b. b.now) c.args.bounds.to) _ pairs c.first_cell-i.result e rise c.first_cell-i.ensures
    c.place_of_end-end.result c.place_of_end-end.ensures c.cells.i (omega (arith, c.cells.invariant.behind)) (omega arith) all)
    (c.cells.invariant.made start all pairs e rise shown made k)
