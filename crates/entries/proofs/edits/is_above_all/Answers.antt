use Rattle.std.proofs.Common.{◌∙◌, ap, sym, List, ℕ}
use Rattle.tree_model.specs.Keys.{key_cmp}
use Rattle.entries.proofs.EditPlaceLemmas.{none_above, less_of}
use Rattle.entries.proofs.edits.is_above_all.Goals as goal

pub returns-in-Some : goal.returns-in-Some
returns-in-Some c above =
    none_above c.args.key.now c.in-Some.last.now c.args.noted.now.entries c.in-Some.ensures.all_up_to
    (ap (λ (xs : List ℕ). key_cmp xs c.args.key.now) (sym c.as_slice.ensures.value) ∙ sym c.compare_keys.ensures
    ∙ less_of c.is_lt.result _ c.is_lt.ensures above)
