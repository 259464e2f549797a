-- Fields that a stage makes in a document: in their name's place, or at the end where the name is
-- new. As in an update, no document nests more than 100 levels.
use Rattle.std.specs.Prelude.{ℕ, nat_lt, Result, Ok, List}
use Rattle.bson.specs.Tree.{Tree, Pairs}
use Rattle.bson.specs.Edits.{put}
use Rattle.bson.specs.Lawful.{levels}
use Rattle.outcome.specs.Outcome.{unless}
use Rattle.path.specs.declared.refusal.Refusal.{Refusal}
use Rattle.path.specs.declared.refusal.Refusal.TheVariants as refusals

abbrev pub set_field : List ℕ → Tree → Pairs → Result Pairs Refusal
set_field name t ps = unless (nat_lt 99 (levels t)) refusals.BadValue (Ok (put ps name t))
