-- What an update of several statements comes to, against its statements one by one.
use Rattle.std.specs.Prelude.{◌≡◌, ◌≤◌, ◌+◌, ℕ, suc, List, [], ◌∷◌, map, sum_by, Option, Some}
use Rattle.std.specs.Prelude.{None, Ok, Err, All}
use Rattle.bson.specs.Tree.{Tree, document, Pairs, Items, no_items, item, append_items}
use Rattle.bson.specs.Lawful.{IsDocument}
use Rattle.command_model.specs.Command.{command_of, update}
use Rattle.command_model.specs.Update.{Update}
use Rattle.database_model.specs.Lawful.{IsHeld}
use Rattle.database_model.specs.Step.{run}
use Rattle.database_model.specs.Update.{counts_reply, upserted_entry}
use Rattle.database_model.specs.World.{World}
use Rattle.path.specs.declared.refusal.Refusal.{Refusal}
use Rattle.statements.specs.Room.{fields_size}
use Rattle.bulk_writes.specs.InTurn.{run_in_turn, singles}

-- ---- what the replies say

-- What one statement counts: the documents that it matched or made, those of other bytes than
-- before, and the `_id` of the document that it made, if it made one.
pub record Counts : Type 0 where
  pub matched : ℕ
  pub modified : ℕ
  pub made : Option Tree

abbrev pub entry_of : ℕ → Option Tree → Items
entry_of index None = no_items
entry_of index (Some id) = item (document (upserted_entry index id)) no_items

-- the documents that statements made, each with the index of its statement, which are these from
-- this one on
abbrev pub entries_from : ℕ → List Counts → Items
entries_from index [] = no_items
entries_from index (c ∷ cs) = append_items (entry_of index c.made) (entries_from (suc index) cs)

-- what a reply says of several statements, or of one
abbrev pub told : List Counts → Pairs
told cs =
    counts_reply (sum_by (λ c. c.matched) cs) (sum_by (λ c. c.modified) cs) (entries_from 0 cs)

-- ---- the law

-- The updates of the statements are done, one after the other, and leave this world. Put together
-- what they count is what this reply says.
pub record UpdatesInTurn (world : World) (connection : ℕ) (c : Update) (new : World) (reply : Pairs)
    : Type 0 where
  pub counts : List Counts
  pub same : run_in_turn world connection (singles (update c))
      ≡ Ok (new, map (λ x. told (x ∷ [])) counts)
  pub counted : reply ≡ told counts

-- An update that a document spells, over collections such as bytes hold, comes to what the updates
-- of its statements come to, one after the other, where it isn't refused.
abbrev pub UpdateInTurn : Type 0
UpdateInTurn = (world new : World) (connection : ℕ) (body : Pairs) (c : Update) (reply : Pairs)
    → IsDocument body → command_of body ≡ Ok (update c) → All IsHeld world.collections
    → run world connection (update c) ≡ Ok (new, reply)
    → UpdatesInTurn world connection c new reply

-- One that is refused, and whose message is within its limit, is refused for the reason for which
-- the first of them is that is refused.
abbrev pub UpdateRefused : Type 0
UpdateRefused = (world : World) (connection : ℕ) (body : Pairs) (c : Update) (r : Refusal)
    → IsDocument body → command_of body ≡ Ok (update c) → fields_size body + 5 ≤ 1048555
    → All IsHeld world.collections → run world connection (update c) ≡ Err r
    → run_in_turn world connection (singles (update c)) ≡ Err r
