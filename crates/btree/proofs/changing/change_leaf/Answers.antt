use Rattle.std.proofs.Common.{◌+◌, arith, map}
use Rattle.tree_model.specs.EditView.{edit_in}
use Rattle.btree.specs.Few.{MakesUpTo, edit_pages}
use Rattle.tree_model.specs.Keys.{sum_of}
use Rattle.btree.proofs.FewLemmas.{few_alone, few_or_one_on, stopped}
use Rattle.btree.proofs.InPageLemmas.{edited_turns}
use Rattle.tree_model.proofs.StoreLemmas.{grows_trans}
use Rattle.btree.proofs.changing.change_leaf.Goals as goal

pub returns-clause-grows : goal.returns-clause-grows
returns-clause-grows g c = grows_trans _ _ _ c.in_ok-edited.ensures.grows c.write_leaf.ensures.grows

pub returns-clause-turns : goal.returns-clause-turns
returns-clause-turns g c =
    λ base low high pairs rank e sound shown between k.
    let word = (c.write_leaf.ensures.grows.frame k).word in
    let h = c.in_ok-edited.ensures.edits pairs e sound.0 shown word in
    edited_turns (g.P.Pages.store c.args.pages.now) (g.P.Pages.store c.edit_page.new.pages) (g.P.Pages.store c.write_leaf.new.pages) base low high
    (map edit_in c.args.edits.now) pairs _ c.write_leaf.result (c.in_ok-edited.ensures.grows.frame word) h
    (c.write_leaf.ensures.turns base low high h.pairs rank h.items_are (h.rise, h.between low high sound.1 between) h.shown k)

pub returns-then-not-has_room-clause-few : goal.returns-then-not-has_room-clause-few
returns-then-not-has_room-clause-few g c =
    λ one k. few_alone (g.P.Pages.store c.args.pages.now) (g.P.Pages.store c.change_cells.new.pages) c.args.rank _ _ c.change_cells.result
    (c.change_cells.ensures.few one k)

pub returns-in_err-edited-clause-few : goal.returns-in_err-edited-clause-few
returns-in_err-edited-clause-few g c =
    λ one k.
    let m : MakesUpTo (g.P.Pages.store c.args.pages.now) (g.P.Pages.store c.edit_page.new.pages) (sum_of edit_pages (map edit_in c.args.edits.now) + 1) =
    omega (arith, c.in_err-edited.ensures.few k) in
    stopped _ _ _ c.from_residual.result c.from_residual.ensures.1 m

pub returns-clause-few : goal.returns-clause-few
returns-clause-few g c =
    λ one k.
    few_or_one_on (g.P.Pages.store c.args.pages.now) (g.P.Pages.store c.edit_page.new.pages) (g.P.Pages.store c.write_leaf.new.pages) c.args.rank _ _ _ _
    (sum_of edit_pages (map edit_in c.args.edits.now)) c.write_leaf.result (c.in_ok-edited.ensures.few (c.write_leaf.ensures.grows.frame k).word)
    (c.write_leaf.ensures.few k) (omega arith) (omega arith)
