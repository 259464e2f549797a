-- What is done where the statements of a write are asked one after the other and nobody else asks
-- the database between them. What a database replies is here any function of the commands that it
-- was asked so far, the last one in front.
use Rattle.std.specs.Prelude.{◌≡◌, ℕ, zero, suc, ℤ, pos, ◌+ℤ◌, Bool, false, ◌&&◌, is_some}
use Rattle.std.specs.Prelude.{if◌then◌else◌, List, ◌∷◌}
use Rattle.std.specs.Option.{option_map_or}
use Rattle.std.specs.Int.{w32, saturate_signed}
use Rattle.bson.specs.Tree.{Tree, array, Pairs, Items, no_items, item}
use Rattle.bson.specs.Edits.{put, items_len}
use Rattle.driver_replies.specs.Tallies.{refused, with_reply}
use Rattle.driver_replies.specs.Writes.{field_of, needs_id, next_command, after_reply}
use Rattle.driver_replies.specs.declared.batch.Batch.{Batch}
use Rattle.driver_replies.specs.declared.tally.Tally.{Tally}
use Rattle.driver_replies.specs.declared.writes.Write.{Write}

abbrev pub Replies : Type 0
Replies = List Pairs → Pairs → Pairs

-- ---- what is asked

-- At most so many commands, each with what the ones before were answered: what was asked then, and
-- what is known of the write.
abbrev pub asked_all : Replies → ℕ → List Pairs → Batch → List Pairs × Batch
asked_all reply zero asked batch = (asked, batch)
asked_all reply (suc n) asked batch =
    option_map_or
    (λ command. asked_all reply n (command ∷ asked) (after_reply batch (reply asked command)))
    (next_command batch.left batch) (asked, batch)

-- ---- what is to be done

-- the command for one statement
abbrev pub single : Write → Pairs → Tree → Pairs
single write body t = put body (field_of write) (array (item t no_items))

-- Each statement by itself, from this index on, up to the first that is refused where they are in
-- order: what was asked then, and what they did.
abbrev pub each_by_itself : Replies → Write → Bool → Pairs → ℤ → Tally → List Pairs → Items
    → List Pairs × Tally
each_by_itself reply write ordered body index tally asked no_items = (asked, tally)
each_by_itself reply write ordered body index tally asked (item t ts) =
    if ordered && is_some (refused (reply asked (single write body t)))
    then (single write body t ∷ asked, with_reply index (reply asked (single write body t)) tally)
    else each_by_itself reply write ordered body (saturate_signed w32 (index +ℤ pos 1))
    (with_reply index (reply asked (single write body t)) tally)
    (single write body t ∷ asked) ts

-- none of these needs an `_id`
abbrev pub NeedNoId : Write → Items → Type 0
NeedNoId write no_items = Unit {0}
NeedNoId write (item t ts) = (needs_id write t ≡ false) × NeedNoId write ts

-- None is left, and what was asked and done is that of the statements by themselves.
pub record IsEachByItself (reply : Replies) (asked : List Pairs) (batch : Batch)
    (end : List Pairs × Batch) : Type 0 where
  pub none_left : end.1.left ≡ no_items
  pub done : (end.0, end.1.tally)
      ≡ each_by_itself reply batch.write batch.is_ordered batch.body batch.index batch.tally asked
      batch.left

abbrev pub AsksEachStatement : Type 0
AsksEachStatement = (reply : Replies) (asked : List Pairs) (batch : Batch)
    → batch.is_new ≡ false → NeedNoId batch.write batch.left
    → IsEachByItself reply asked batch (asked_all reply (items_len batch.left) asked batch)
