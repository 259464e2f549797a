-- What the types of the crate stand for.
use Rattle.std.specs.Prelude.{map}
use Rattle.bson.specs.View.{tree, items_of}
use Rattle.filter.specs.View.{condition_of}
use Rattle.update_model.specs.Update.{Number, int32, int64, Action, set, unset, increment, at_most}
use Rattle.update_model.specs.Update.{at_least, push, pull, rename, Edit, Update, replacement}
use Rattle.update_model.specs.Update.{edits}
use Rattle.update.specs.declared.numbers.Number.{Number as Counted}
use Rattle.update.specs.declared.numbers.Number.TheVariants as numbers
use Rattle.update.specs.declared.edit.Action.{Action as Does}
use Rattle.update.specs.declared.edit.Action.TheVariants as actions
use Rattle.update.specs.declared.edit.Edit.{Edit as Change}
use Rattle.update.specs.declared.edit.Form.{Form}
use Rattle.update.specs.declared.edit.Form.TheVariants as forms
use Rattle.update.specs.declared.edit.Update.{Update as Held}

abbrev pub number_of : Counted → Number
number_of (numbers.Int32 z) = int32 z
number_of (numbers.Int64 z) = int64 z

abbrev pub action_of : Does → Action
action_of (actions.Set v) = set (tree v)
action_of actions.Unset = unset
action_of (actions.Increment n) = increment (number_of n)
action_of (actions.AtMost v) = at_most (tree v)
action_of (actions.AtLeast v) = at_least (tree v)
action_of (actions.Push vs) = push (items_of vs.items)
action_of (actions.Pull c) = pull (condition_of c)
action_of (actions.Rename p) = rename p

abbrev pub edit_of : Change → Edit
edit_of e = record { path = e.path; action = action_of e.action }

abbrev pub form_of : Form → Update
form_of (forms.Edits es) = edits (map edit_of es.items)
form_of (forms.Replacement new) = replacement new

abbrev pub update_of : Held → Update
update_of u = form_of u.form
