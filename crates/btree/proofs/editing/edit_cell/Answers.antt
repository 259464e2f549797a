use Rattle.std.proofs.Common.{◌∷◌, [], ap, arith, sym, subst, map}
use Rattle.std.specs.Option.{option_map}
use Rattle.tree_model.specs.EditView.{edit_in}
use Rattle.tree_model.specs.Calls.{IsEdited}
use Rattle.btree.specs.Few.{chain_pages, put_pages}
use Rattle.tree_model.specs.View.{item_in}
use Rattle.tree_model.proofs.StoreLemmas.{grows_trans}
use Rattle.btree.proofs.FewLemmas.{costs_on, grown_on}
use Rattle.btree.proofs.EditLemmas.{edits_done, removed_key}
use Rattle.btree.proofs.editing.edit_cell.Goals as goal

pub returns-in-None-clause-edits : goal.returns-in-None-clause-edits
returns-in-None-clause-edits g c =
    λ pairs e rise shown k.
    subst (λ (v : _). IsEdited (g.P.Pages.store c.args.pages.now) (g.P.Pages.store c.take_out.new.pages)
    (record { key = c.args.edit.key.now; value = v } ∷ []) pairs (map item_in c.take_out.new.cells.items)) (ap (option_map (λ b. b.now)) (sym c.in-None.is))
    (removed_key (g.P.Pages.store c.args.pages.now) (g.P.Pages.store c.take_out.new.pages) c.args.edit.key.now pairs _ _ (c.in_ok-at.ensures.grows.frame k)
    (c.in_ok-at.ensures.takes pairs e rise shown k) rise shown)

pub returns-in-Some-clause-grows : goal.returns-in-Some-clause-grows
returns-in-Some-clause-grows g c = grows_trans _ _ _ c.in_ok-at.ensures.grows c.put_in.ensures.grows

pub returns-in-Some-clause-edits : goal.returns-in-Some-clause-edits
returns-in-Some-clause-edits g c =
    λ pairs e rise shown k.
    let g2 = c.put_in.ensures.grows.frame k in
    edits_done (g.P.Pages.store c.args.pages.now) (g.P.Pages.store c.take_out.new.pages) (g.P.Pages.store c.put_in.new.pages)
    (edit_in c.args.edit) c.in-Some.value.now pairs _ _ _ c.put_in.result (ap (option_map (λ b. b.now)) c.in-Some.is)
    (c.in_ok-at.ensures.grows.frame g2.word) g2 (c.in_ok-at.ensures.takes pairs e rise shown g2.word) (c.put_in.ensures.puts k) rise shown

pub returns-in-None-clause-few : goal.returns-in-None-clause-few
returns-in-None-clause-few g c = λ k. omega (arith, c.in_ok-at.ensures.few k)

pub returns-in-Some-clause-few : goal.returns-in-Some-clause-few
returns-in-Some-clause-few g c =
    λ k.
    let same = ap (λ (v : _). put_pages (option_map (λ b. b.now) v)) c.in-Some.is in
    costs_on (g.P.Pages.store c.args.pages.now) (g.P.Pages.store c.take_out.new.pages) (g.P.Pages.store c.put_in.new.pages) 0
    (chain_pages c.in-Some.value.now) _ (c.in_ok-at.ensures.few (c.put_in.ensures.grows.frame k).word) (c.put_in.ensures.few k)
    (omega (arith, same))

pub returns-in-Some-clause-size : goal.returns-in-Some-clause-size
returns-in-Some-clause-size g c = grown_on _ _ _ c.put_in.result c.in_ok-at.ensures.size c.put_in.ensures.size

pub returns-in_err-at-clause-few : goal.returns-in_err-at-clause-few
returns-in_err-at-clause-few g c = λ k. omega (arith, c.in_err-at.ensures.few k)
