use Rattle.std.proofs.Common.{refl, sym, ap, ◌∙◌, arith}
use Rattle.std.specs.Ordering.{is_eq}
use Rattle.tree_model.proofs.GetLemmas.{look_found, look_other, look_past}
use Rattle.btree.proofs.lookup.stored_at.Goals as goal

pub returns-then-at-len : goal.returns-then-at-len
returns-then-at-len c = λ pairs e rise. look_past _ pairs c.args.key.now c.place_of_key-at.result e rise c.place_of_key-at.ensures (omega arith)

pub returns-then-not-is_eq : goal.returns-then-not-is_eq
returns-then-not-is_eq c =
    λ pairs e rise. look_other _ pairs c.args.key.now c.place_of_key-at.result _ e rise c.place_of_key-at.ensures (omega arith) c.leaf_cell-cell.ensures
    (ap is_eq (sym c.compare_keys.ensures) ∙ sym c.is_eq.ensures ∙ c.if-not-is_eq.true)

pub returns : goal.returns
returns c =
    λ pairs e rise. look_found _ pairs c.args.key.now c.place_of_key-at.result _ c.leaf_cell-cell.result.stored e rise c.place_of_key-at.ensures
    (omega arith) c.leaf_cell-cell.ensures refl
    (ap is_eq (sym c.compare_keys.ensures) ∙ sym c.is_eq.ensures ∙ c.if-not-is_eq.false)
