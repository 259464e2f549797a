-- The documents or statements of one command: at least one, and at most 1,000, which is judged
-- before any of them is read. Of the indexes of one there is at least one.
use Rattle.std.specs.Prelude.{◌==◌, nat_lt, List, [], ◌∷◌, Result, Ok}
use Rattle.bson.specs.Tree.{Tree, Items, no_items, item}
use Rattle.bson.specs.Edits.{items_len}
use Rattle.outcome.specs.Outcome.{◌>>=◌, unless, or_refused}
use Rattle.path.specs.declared.refusal.Refusal.{Refusal}
use Rattle.path.specs.declared.refusal.Refusal.TheVariants as refusals
use Rattle.command_model.specs.Values.{items_of}

abbrev pub statements_in : Tree → Result Items Refusal
statements_in t = do
  ts ← or_refused (items_of t) refusals.TypeMismatch
  unless (nat_lt 1000 (items_len ts)) refusals.TooMany
      (unless (items_len ts == 0) refusals.BadValue (Ok ts))

abbrev pub some_in : Tree → Result Items Refusal
some_in t = do
  ts ← or_refused (items_of t) refusals.TypeMismatch
  unless (items_len ts == 0) refusals.BadValue (Ok ts)

-- what the items spell, up to the first that is refused
abbrev pub each_of : {X : Type 0} → (Tree → Result X Refusal) → Items → Result (List X) Refusal
each_of read no_items = Ok []
each_of read (item t ts) = do
  x ← read t
  others ← each_of read ts
  Ok (x ∷ others)
