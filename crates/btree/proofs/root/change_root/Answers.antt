use Rattle.std.proofs.Common.{◌+◌, ◌*◌, [], None, ap, length, map, arith, inl, inr}
use Rattle.tree_model.specs.EditView.{edit_in}
use Rattle.btree.specs.Few.{MakesUpTo, edit_pages, levels_of}
use Rattle.tree_model.specs.Keys.{sum_of}
use Rattle.btree.proofs.FewLemmas.{few_or_one_on, first_few, levels_few, stopped}
use Rattle.tree_model.proofs.GetLemmas.{root_part}
use Rattle.btree.proofs.RootLemmas.{all_between, turned_behind}
use Rattle.tree_model.proofs.StoreLemmas.{part_kept}
use Rattle.btree.proofs.root.change_root.Goals as goal

pub returns-clause-turns : goal.returns-clause-turns
returns-clause-turns g c =
    λ before entries there rise k. elim there [
      | inl none ↦ absurd (c.if-root-eq0.false none.0)
      | inr t ↦
          let word = (c.change_below.ensures.grows.frame k).word in
          let old = g.P.Pages.store c.args.pages.now in
          let mid = g.P.Pages.store c.levels_below.new.pages in
          let part = root_part old c.args.root t.d t.body t.tree in
          let kept = part_kept old mid (c.in_ok-below.ensures.grows.frame word) c.args.root 0 t.d [] None t.body part in
          turned_behind old mid (g.P.Pages.store c.change_below.new.pages) (map edit_in c.args.edits.now) entries _ before _ c.change_below.result
          (c.in_ok-below.ensures.same word) t.entries_are t.pages_are
          (c.change_below.ensures.turns 0 t.d None t.body
          (omega (arith, c.in_ok-below.ensures.levels t.d [] None t.body part word)) kept.at kept.shown kept.whole kept.sound (omega arith) rise
          (all_between _) k)
    ]

pub returns-then-root-eq0-clause-few : goal.returns-then-root-eq0-clause-few
returns-then-root-eq0-clause-few g c =
    λ before entries tree one k. first_few (g.P.Pages.store c.args.pages.now) (g.P.Pages.store c.first_cells.new.pages) (levels_of tree) _ c.first_cells.result
    (c.first_cells.ensures.few one k)

pub returns-clause-few : goal.returns-clause-few
returns-clause-few g c =
    λ before entries tree one k.
    let word = (c.change_below.ensures.grows.frame k).word in
    let old = g.P.Pages.store c.args.pages.now in
    let mid = g.P.Pages.store c.levels_below.new.pages in
    let same = c.in_ok-below.ensures.same word in
    levels_few old (g.P.Pages.store c.change_below.new.pages) c.args.root before entries tree c.in_ok-below.below
    (sum_of edit_pages (map edit_in c.args.edits.now)) c.change_below.result c.if-root-eq0.false
    (λ t. c.in_ok-below.ensures.levels t.d [] None t.body (root_part old c.args.root t.d t.body t.tree) word)
    (few_or_one_on old mid (g.P.Pages.store c.change_below.new.pages) _ _ _ _ _ 0 c.change_below.result (omega (arith, ap (λ zs. length zs) same.made))
    (c.change_below.ensures.few (omega (arith, one)) (omega arith) k) (omega arith) (omega arith))

pub returns-in_err-below-clause-few : goal.returns-in_err-below-clause-few
returns-in_err-below-clause-few g c =
    λ before entries tree one k.
    let same = c.in_err-below.ensures.same k in
    let m : MakesUpTo (g.P.Pages.store c.args.pages.now) (g.P.Pages.store c.levels_below.new.pages)
    (4 * levels_of tree + 3 + sum_of edit_pages (map edit_in c.args.edits.now)) = omega (arith, ap length same.made) in
    stopped _ _ _ c.from_residual.result c.from_residual.ensures.1 m
