use Rattle.std.proofs.Common.{◌≡◌, false}
use Rattle.std.specs.Ordering.{is_lt}
use Rattle.tree_model.specs.Keys.{edit_keys}
use Rattle.tree_model.specs.Keys.{Each, Rises, key_cmp}
use Rattle.entries.specs.EditList.{edits_in}
use Rattle.entries.specs.OtherKeys.{puts_another}
use Rattle.entries.proofs.other_keys.puts_from.Given as goal

abbrev pub invariant-edits : goal.invariant-edits
invariant-edits l = record {
  can : goal.iterator-edits.can_next l.edit-iterator;
  finite : goal.iterator-edits.is_finite l.edit-iterator;
  rises : Rises (edit_keys (edits_in l.edit-iterator));
  above : Each (λ e. is_lt (key_cmp e.0.items l.front) ≡ false) l.edit-iterator;
  same : puts_another l.front l.id (edits_in l.edit-iterator) ≡ puts_another l.front l.id (edits_in l.fn.edits);
}
