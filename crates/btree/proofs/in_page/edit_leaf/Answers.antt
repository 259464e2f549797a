use Rattle.std.proofs.Common.{◌∷◌, [], ap, arith, length, subst, sym}
use Rattle.std.specs.Option.{option_map, unwrap_or}
use Rattle.std.proofs.lemmas.Result.{IfOk-weaker}
use Rattle.page.specs.Content.{IsLeaf}
use Rattle.tree_model.specs.EditView.{edit_in}
use Rattle.tree_model.specs.Calls.{IsEdited, IsTakenOut}
use Rattle.tree_model.specs.Search.{IsGap}
use Rattle.tree_model.proofs.StoreLemmas.{grows_trans}
use Rattle.btree.proofs.EditLemmas.{removed_key}
use Rattle.btree.proofs.InPageLemmas.{leaf_edited}
use Rattle.btree.proofs.in_page.edit_leaf.Goals as goal

pub returns-in_ok-made-in-None-clause-edits : goal.returns-in_ok-made-in-None-clause-edits
returns-in_ok-made-in-None-clause-edits g c =
    λ pairs e rise shown k.
    let left = unwrap_or c.in_ok-left.left c.args.leaf.now in
    subst (λ zs. IsEdited (g.P.Pages.store c.args.pages.now) (g.P.Pages.store c.cut_key.new.pages) (edit_in c.args.edit ∷ []) pairs zs)
    (sym c.in_ok-made-in-None.ensures)
    (subst (λ (v : _). IsEdited (g.P.Pages.store c.args.pages.now) (g.P.Pages.store c.cut_key.new.pages)
    (record { key = c.args.edit.key.now; value = v } ∷ []) pairs left) (ap (option_map (λ b. b.now)) (sym c.in-None.is))
    (removed_key (g.P.Pages.store c.args.pages.now) (g.P.Pages.store c.cut_key.new.pages) c.args.edit.key.now pairs left _
    (c.in_ok-left.ensures.grows.frame k) (c.in_ok-left.ensures.takes pairs e rise shown k) rise shown))

pub put_cell-requires-clause-sound : goal.put_cell-requires-clause-sound
put_cell-requires-clause-sound g c = subst IsLeaf (sym c.made_of.ensures) c.in_ok-left.ensures.sound

pub put_cell-requires-clause-gap : goal.put_cell-requires-clause-gap
put_cell-requires-clause-gap g c = subst (λ zs. IsGap zs c.args.edit.key.now c.in_ok-left.at) (sym c.made_of.ensures) c.in_ok-left.ensures.gap

pub returns-in-Some-clause-grows : goal.returns-in-Some-clause-grows
returns-in-Some-clause-grows g c = grows_trans _ _ _ c.in_ok-left.ensures.grows c.put_cell.ensures.grows

pub returns-in-Some-clause-len : goal.returns-in-Some-clause-len
returns-in-Some-clause-len g c =
    IfOk-weaker c.put_cell.result _ _ (λ made le. omega (arith, le, ap length c.made_of.ensures, c.in_ok-left.ensures.len)) c.put_cell.ensures.len

pub returns-in-Some-clause-edits : goal.returns-in-Some-clause-edits
returns-in-Some-clause-edits g c =
    λ pairs e rise shown k.
    let g2 = c.put_cell.ensures.grows.frame k in
    leaf_edited (g.P.Pages.store c.args.pages.now) (g.P.Pages.store c.cut_key.new.pages) (g.P.Pages.store c.put_cell.new.pages)
    (edit_in c.args.edit) c.in-Some.value.now pairs _ _ c.put_cell.result (ap (option_map (λ b. b.now)) c.in-Some.is)
    (c.in_ok-left.ensures.grows.frame g2.word) g2
    (subst (λ zs. IsTakenOut (g.P.Pages.store c.args.pages.now) (g.P.Pages.store c.cut_key.new.pages) c.args.edit.key.now pairs zs c.in_ok-left.at)
    (sym c.made_of.ensures) (c.in_ok-left.ensures.takes pairs e rise shown g2.word)) (c.put_cell.ensures.puts k) rise shown

pub returns-in_err-left-clause-few : goal.returns-in_err-left-clause-few
returns-in_err-left-clause-few g c = λ k. omega (arith, c.in_err-left.ensures.few k)
