-- The reply of an update has room in a message: it is no longer than the message that asks for it.
use Rattle.std.specs.Prelude.{◌≡◌, ℕ, ◌+◌, ◌≤◌, List, length, Ok}
use Rattle.bson.specs.Tree.{Tree, array, Pairs, no_pairs, pair, Items, no_items, item}
use Rattle.bson.specs.Spelling.{tree_bytes}
use Rattle.command_model.specs.Command.{command_of, update}
use Rattle.command_model.specs.Update.{Update}
use Rattle.database_model.specs.Refusals.{ok_reply}
use Rattle.database_model.specs.Update.{Updated, not_updated, run_all, run_statements, spelled}
use Rattle.database_model.specs.Update.{update_reply}
use Rattle.entry_model.specs.State.{Collection}

-- ---- how few bytes of a message spell a field

abbrev pub values_size : Items → ℕ
values_size no_items = 0
values_size (item t ts) = length (tree_bytes t) + values_size ts

-- An array may stand beside the body: a kind, a size of four bytes, a name with its zero, and the
-- values without names. Any other field has a type and a name with its zero.
abbrev pub field_size : List ℕ → Tree → ℕ
field_size name (array ts) = length name + values_size ts + 6
field_size name t = length name + length (tree_bytes t) + 2

abbrev pub fields_size : Pairs → ℕ
fields_size no_pairs = 0
fields_size (pair name t ps) = field_size name t + fields_size ps

-- ---- the reply of an update

-- What the statements of a body come to, whatever there was before, is told in no more bytes than
-- the body takes.
abbrev pub RepliesAreShort : Type 0
RepliesAreShort =
    (body : Pairs) (c : Update) (cs : List Collection) (u : Updated)
    → command_of body ≡ Ok (update c)
    → run_statements c.namespace 0 c.statements (not_updated cs) ≡ Ok u
    → length (spelled (ok_reply (update_reply u))) ≤ fields_size body + 5

-- So no reply is refused for its length where the body's message is no longer than it may be.
abbrev pub RepliesHaveRoom : Type 0
RepliesHaveRoom =
    (body : Pairs) (c : Update) (cs : List Collection)
    → command_of body ≡ Ok (update c) → fields_size body + 5 ≤ 1048555
    → run_all c.namespace c.statements cs
    ≡ run_statements c.namespace 0 c.statements (not_updated cs)
