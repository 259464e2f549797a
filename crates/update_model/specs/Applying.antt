-- What an update makes of a document: its edits in the order written, or the replacement; then the
-- whole is judged.
use Rattle.std.specs.Prelude.{ℕ, Result, Ok, List, [], ◌∷◌}
use Rattle.bson.specs.Tree.{Pairs}
use Rattle.path.specs.declared.refusal.Refusal.{Refusal}
use Rattle.path.specs.Edits.{if_ok}
use Rattle.update_model.specs.Update.{Edit, Update, replacement, edits}
use Rattle.update_model.specs.Operators.{apply_action}
use Rattle.update_model.specs.Replacements.{replace}
use Rattle.update_model.specs.Stored.{judged}

abbrev pub apply_edit : Edit → Pairs → Result Pairs Refusal
apply_edit e ps = apply_action e.path e.action ps

abbrev pub apply_edits : List Edit → Pairs → Result Pairs Refusal
apply_edits [] ps = Ok ps
apply_edits (e ∷ es) ps = if_ok (apply_edit e ps) (apply_edits es)

abbrev pub changed : Update → Pairs → Result Pairs Refusal
changed (edits es) ps = apply_edits es ps
changed (replacement new) ps = replace new ps

abbrev pub apply : Update → ℕ → Pairs → Result Pairs Refusal
apply u limit ps = if_ok (changed u ps) (judged limit)
