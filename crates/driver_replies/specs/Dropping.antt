-- A database that is dropped (MongoDB manual, dropDatabase): its collections are listed, and each
-- is dropped by itself.
use Rattle.std.specs.Prelude.{ℤ, pos, negsuc, Bool, true, false, ◌==◌, List, ℕ, [], codes, Option}
use Rattle.std.specs.Prelude.{Some, None}
use Rattle.bson.specs.Tree.{Pairs, no_pairs, pair, Items, no_items, item}
use Rattle.driver_replies.specs.Fields.{int, words, ok}
use Rattle.driver_replies.specs.Listing.{name_in}
use Rattle.driver_replies.specs.Tallies.{refused}

-- what lists the collections
abbrev pub list_command : List ℕ → Pairs
list_command database =
    pair (codes "listCollections") (int (pos 1)) (pair (codes "$db") (words database) no_pairs)

abbrev pub or_empty : Option (List ℕ) → List ℕ
or_empty None = []
or_empty (Some s) = s

-- what drops the collection of the first of these entries, if there is one
abbrev pub drop_command : List ℕ → Items → Option Pairs
drop_command database no_items = None
drop_command database (item t ts) = Some (
    pair (codes "drop") (words (or_empty (name_in (Some t))))
    (pair (codes "$db") (words database) no_pairs)
    )

-- the collection that was to be dropped isn't there
abbrev pub is_gone_by : Option ℤ → Bool
is_gone_by None = true
is_gone_by (Some (pos n)) = n == 26
is_gone_by (Some (negsuc n)) = false

abbrev pub is_gone : Pairs → Bool
is_gone reply = is_gone_by (refused reply)

abbrev pub dropped_reply : List ℕ → Pairs
dropped_reply database = pair (codes "dropped") (words database) ok
