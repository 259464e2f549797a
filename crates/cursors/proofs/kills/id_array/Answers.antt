use Rattle.std.proofs.Common.{◌≡◌, ℤ, suc, ◌+◌, ◌∷◌, List, drop, get_or, sym, ap, ◌∙◌, arith, drop-cons}
use Rattle.std.specs.Prelude.{pos}
use Rattle.std.proofs.lemmas.List.{drop_all}
use Rattle.bson.specs.Tree.{Items, scalar, int64, append_items}
use Rattle.bson.specs.EditPlaces.{append_items-none, append_items-one}
use Rattle.database_model.specs.KillCursors.{id_items}
use Rattle.cursors.proofs.kills.id_array.Goals as goal

pub ids-preserved : goal.ids-preserved
ids-preserved c =
    let ids = c.args.ids.now in
    let i = c.ids.id-index in
    let next : suc i ≡ i + 1 = omega arith in
    let step : drop i ids ≡ get_or ids i (pos 0) ∷ drop (i + 1) ids =
    drop-cons ids i (pos 0) c.ids-test.true ∙ ap (λ k. get_or ids i (pos 0) ∷ drop k ids) next in
    ap (λ (a : Items). append_items a (id_items (drop (i + 1) ids))) c.in_ok-add_id.ensures
    ∙ append_items-one c.ids.array (scalar (int64 (get_or ids i (pos 0)))) (id_items (drop (i + 1) ids))
    ∙ ap (λ (xs : List ℤ). append_items c.ids.array (id_items xs)) (sym step) ∙ c.ids.invariant

pub returns : goal.returns
returns c =
    sym (append_items-none c.ids.array)
    ∙ ap (λ (xs : List ℤ). append_items c.ids.array (id_items xs)) (sym (drop_all c.ids.id-index c.args.ids.now c.ids-test.false)) ∙ c.ids.invariant
