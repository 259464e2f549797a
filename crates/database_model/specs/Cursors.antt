-- Batches of documents, the replies that hold them, and cursors on what a batch leaves.
use Rattle.std.specs.Prelude.{ℕ, ℤ, pos, zero, suc, ◌+◌, ◌-◌, ◌^◌, Bool, true, false, ◌||◌, ◌&&◌}
use Rattle.std.specs.Prelude.{◌==◌, nat_le, if◌then◌else◌, List, [], ◌∷◌, ◌++◌, length, take, drop}
use Rattle.std.specs.Prelude.{remove, slice_set, slice_index_or, codes, Result, Ok}
use Rattle.std.specs.Fmt.{decimal}
use Rattle.std.specs.Ordering.{int_eq}
use Rattle.std.specs.Str.{bytes_eq}
use Rattle.bson.specs.Tree.{document, array, Pairs, no_pairs, pair, Items, no_items, item}
use Rattle.bson.specs.Spelling.{frame_of, pairs_bytes, element}
use Rattle.outcome.specs.Outcome.{◌>>=◌, unless}
use Rattle.path.specs.declared.refusal.Refusal.{Refusal}
use Rattle.path.specs.declared.refusal.Refusal.TheVariants as refusals
use Rattle.database_model.specs.World.{World, Cursor, count_of}
use Rattle.database_model.specs.Refusals.{long, words}

abbrev pub item_size : ℕ → Pairs → ℕ
item_size i ps = length (element 3 (decimal i) (frame_of (pairs_bytes ps)))

-- How many documents go into a batch, from the one of this index on: the longest front within so
-- many documents and so many bytes, but at least one document where any may go.
abbrev pub batch_len : ℕ → ℕ → ℕ → List Pairs → ℕ
batch_len i most room [] = 0
batch_len i zero room (ps ∷ rest) = 0
batch_len i (suc most) room (ps ∷ rest) =
    if i == 0 || nat_le (item_size i ps) room
    then suc (batch_len (i + 1) most (room - item_size i ps) rest) else 0

-- an array of a batch has at most 900,000 bytes, five of which are its own
abbrev pub batch_of : ℕ → List Pairs → ℕ
batch_of most documents = batch_len 0 most (900000 - 5) documents

abbrev pub items_of_documents : List Pairs → Items
items_of_documents [] = no_items
items_of_documents (ps ∷ rest) = item (document ps) (items_of_documents rest)

-- what a reply says of a cursor: a batch, the cursor's number (0 for none), and the namespace
abbrev pub cursor_pairs : List ℕ → List Pairs → ℕ → List ℕ → Pairs
cursor_pairs batch_name batch number namespace =
    pair batch_name (array (items_of_documents batch))
    (pair (codes "id") (long number)
    (pair (codes "ns") (words namespace) no_pairs))

abbrev pub cursor_reply : List ℕ → List Pairs → ℕ → List ℕ → Pairs
cursor_reply batch_name batch number namespace =
    pair (codes "cursor") (document (cursor_pairs batch_name batch number namespace)) no_pairs

-- the cursor's number in a reply, or 0 where the batch has all that was left
abbrev pub number_after : ℕ → List Pairs → ℕ → ℕ
number_after n documents number = if nat_le (length documents) n then 0 else number

-- the reply with a batch of n documents
abbrev pub batch_reply : List ℕ → ℕ → List Pairs → ℕ → List ℕ → Pairs
batch_reply batch_name n documents number namespace =
    cursor_reply batch_name (take n documents) (number_after n documents number) namespace

-- A cursor is one too many past 16 of a connection, or past the last number.
abbrev pub is_refused : ℕ → List Cursor → ℕ → Bool
is_refused connection cursors next =
    nat_le 16 (count_of connection cursors) || nat_le (2 ^ 63) next

abbrev pub new_cursor : ℕ → ℕ → List ℕ → List Pairs → Cursor
new_cursor number connection namespace rest = record {
  number = number;
  connection = connection;
  namespace = namespace;
  rest = rest;
  touched = true;
}

-- a cursor on what a batch leaves
abbrev pub open_cursor : World → ℕ → List ℕ → List Pairs → Result World Refusal
open_cursor world connection namespace rest =
    unless (is_refused connection world.cursors world.next) refusals.TooMany
    (Ok (record world {
      cursors = world.cursors ++ new_cursor world.next connection namespace rest ∷ [];
      next = world.next + 1;
    }))

-- a cursor is opened only where documents are left after the first batch
abbrev pub open_on : World → ℕ → List ℕ → List Pairs → ℕ → Result World Refusal
open_on world connection namespace documents n =
    if nat_le (length documents) n then Ok world
    else open_cursor world connection namespace (drop n documents)

abbrev pub first_batch : World → ℕ → List ℕ → List Pairs → ℕ → Result (World × Pairs) Refusal
first_batch world connection namespace documents n = do
  after ← open_on world connection namespace documents n
  Ok (after, batch_reply (codes "firstBatch") n documents world.next namespace)

-- ---- cursors that are open

-- The connection has this cursor, in this namespace, under this id.
abbrev pub is_cursor : ℕ → List ℕ → ℤ → Cursor → Bool
is_cursor connection namespace id c =
    c.connection == connection && bytes_eq namespace c.namespace && int_eq id (pos c.number)

abbrev pub no_cursor : Cursor
no_cursor =
    record { number = 0; connection = 0; namespace = []; rest = []; touched = false }

abbrev pub cursor_at : List Cursor → ℕ → Cursor
cursor_at cs at = slice_index_or cs at no_cursor

-- the cursors after the one at a place gave n documents: with its last one it ends
abbrev pub advanced : List Cursor → ℕ → ℕ → List Cursor
advanced cs at n =
    if nat_le (length (cursor_at cs at).rest) n then remove cs at else
    slice_set cs at (record (cursor_at cs at) {
      rest = drop n (cursor_at cs at).rest;
      touched = true;
    })
