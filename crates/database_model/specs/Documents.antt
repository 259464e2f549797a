-- Documents that are stored: what is asked of them, and their order.
use Rattle.std.specs.Prelude.{nat_lt, true, List, [], ◌∷◌, length, Result, Ok, Err, Option, Some}
use Rattle.std.specs.Prelude.{None, unwrap_or, option_map}
use Rattle.value_order.specs.Order.{compare}
use Rattle.value_order.specs.KeyText.{tree_text}
use Rattle.bson.specs.Tree.{Tree, scalar, null, Pairs}
use Rattle.bson.specs.Lookup.{lookup}
use Rattle.update_model.specs.Stored.{limits_fault, pairs_fault, id_name, id_of, id_first}
use Rattle.entry_model.specs.Entering.{entered}
use Rattle.entry_model.specs.State.{Collection, by_order}
use Rattle.outcome.specs.Outcome.{◌>>=◌, unless, or_refused}
use Rattle.path.specs.declared.refusal.Refusal.{Refusal}
use Rattle.path.specs.declared.refusal.Refusal.TheVariants as refusals

abbrev pub refused_if : {X : Type 0} → Option Refusal → Result X Refusal → Result X Refusal
refused_if (Some r) go = Err r
refused_if None go = go

-- an `_id` whose key text is not too long
abbrev pub key_checked : Tree → Result Tree Refusal
key_checked id = unless (nat_lt 500 (length (tree_text id))) refusals.KeyTooLong (Ok id)

-- the `_id` of a document that may be stored, or the first refusal
unfoldable pub checked : Pairs → Result Tree Refusal
checked ps =
    refused_if (limits_fault 65535 ps)
    (refused_if (pairs_fault (id_first ps)) (do
      id ← or_refused (id_of ps) refusals.BadValue
      key_checked id))

-- by what a stored document is found
abbrev pub key_of : Pairs → Tree
key_of ps = unwrap_or (lookup ps id_name) (scalar null)

-- the documents with one more in its order, or nothing where its `_id` is there
abbrev pub place : Tree → Pairs → List Pairs → Option (List Pairs)
place id new [] = Some (new ∷ [])
place id new (d ∷ ds) = by_order (compare id (key_of d)) (Some (new ∷ d ∷ ds)) None
    (option_map (λ later. d ∷ later) (place id new ds))

-- a collection with one document more, as it is stored, or the first refusal of it
unfoldable pub insert_one : Collection → Pairs → Result Collection Refusal
insert_one c ps = do
  id ← checked ps
  entered c (record { is_new = true; document = id_first ps })

-- the collection with these, or the first refusal
abbrev pub insert_all : Collection → List Pairs → Result Collection Refusal
insert_all c [] = Ok c
insert_all c (ps ∷ rest) = do
  next ← insert_one c ps
  insert_all next rest
