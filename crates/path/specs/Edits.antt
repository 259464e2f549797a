-- Writing and removing at a path. Both go on in a document by the part's field and in an array by
-- the element that the part numbers; unlike reaching, they don't look into the elements.
use Rattle.std.specs.Prelude.{ℕ, zero, suc, ◌+◌, nat_lt, nat_le, if◌then◌else◌, Option, Some, None}
use Rattle.std.specs.Prelude.{Result, Ok, Err, List, [], ◌∷◌}
use Rattle.std.specs.Option.{unwrap_or}
use Rattle.bson.specs.Tree.{Tree, scalar, null, document, array, Pairs, no_pairs, Items, no_items}
use Rattle.bson.specs.Tree.{item}
use Rattle.bson.specs.Lawful.{levels}
use Rattle.bson.specs.Lookup.{lookup}
use Rattle.bson.specs.Edits.{items_len, item_at, with_item, put, cut}
use Rattle.path.specs.Parts.{index_of}
use Rattle.path.specs.declared.refusal.Refusal.{Refusal}
use Rattle.path.specs.declared.refusal.Refusal.TheVariants as refusals

abbrev pub if_ok : {A B : Type 0} → Result A Refusal → (A → Result B Refusal) → Result B Refusal
if_ok (Ok a) f = f a
if_ok (Err e) f = Err e

-- ---- writing

-- with this value at an index; where it lies past the end, nulls come before it
abbrev pub put_item : Items → ℕ → Tree → Items
put_item no_items zero u = item u no_items
put_item no_items (suc i) u = item (scalar null) (put_item no_items i u)
put_item (item t ts) zero u = item u ts
put_item (item t ts) (suc i) u = item t (put_item ts i u)

-- what may stand in a document or an array: it nests at most so many levels
abbrev pub within : ℕ → Result Tree Refusal → Result Tree Refusal
within most (Ok u) = if nat_le (levels u) most then Ok u else Err refusals.BadValue
within most (Err e) = Err e

-- `made` gives what is to stand at the field from what stands there, if anything does. A document
-- is at level 1 at least, and no document nests more than 100 levels.
abbrev pub write_field : (Option Tree → Result Tree Refusal) → List ℕ → Pairs → Result Pairs Refusal
write_field made name ps = if_ok (within 99 (made (lookup ps name))) (λ u. Ok (put ps name u))

-- An array is at level 2 at least. At most 1,000 nulls come before an element past the end.
abbrev pub write_item_at : (Option Tree → Result Tree Refusal) → ℕ → Items → Result Items Refusal
write_item_at made i ts =
    if nat_lt (items_len ts + 1000) i then Err refusals.BadValue else
    if_ok (within 98 (made (item_at ts i))) (λ u. Ok (put_item ts i u))

abbrev pub write_item : (Option Tree → Result Tree Refusal) → Option ℕ → Items
    → Result Items Refusal
write_item made None ts = Err refusals.PathNotViable
write_item made (Some i) ts = write_item_at made i ts

module _ (made : Option Tree → Result Tree Refusal) where
  -- What stands at the front of these parts once what `made` gives stands at their end. Where
  -- nothing stands there, documents are made on the way. An array needs a part that is an index.
  -- Any other value on the way is refused.
  abbrev pub write : List (List ℕ) → Option Tree → Result Tree Refusal
  write [] old = made old
  write (name ∷ rest) None = if_ok (write_field (write rest) name no_pairs) (λ ps. Ok (document ps))
  write (name ∷ rest) (Some (scalar s)) = Err refusals.PathNotViable
  write (name ∷ rest) (Some (document ps)) =
      if_ok (write_field (write rest) name ps) (λ qs. Ok (document qs))
  write (name ∷ rest) (Some (array ts)) =
      if_ok (write_item (write rest) (index_of name) ts) (λ us. Ok (array us))

  abbrev pub write_at : List (List ℕ) → Pairs → Result Pairs Refusal
  write_at [] ps = Ok ps
  write_at (name ∷ rest) ps = write_field (write rest) name ps

-- a document with this value at the path, whatever stood there
abbrev pub set_at : List (List ℕ) → Tree → Pairs → Result Pairs Refusal
set_at parts new ps = write_at (λ old. Ok new) parts ps

-- ---- removing

abbrev pub put_or_cut : List ℕ → Pairs → Option Tree → Pairs
put_or_cut name ps None = cut ps name
put_or_cut name ps (Some w) = put ps name w

abbrev pub cut_found : (Tree → Option Tree) → List ℕ → Pairs → Option Tree → Pairs
cut_found left name ps None = ps
cut_found left name ps (Some u) = put_or_cut name ps (left u)

-- `left` gives what is left of what stands at the field, if anything is
abbrev pub cut_field : (Tree → Option Tree) → List ℕ → Pairs → Pairs
cut_field left name ps = cut_found left name ps (lookup ps name)

abbrev pub with_found : (Tree → Option Tree) → ℕ → Items → Option Tree → Items
with_found left i ts None = ts
with_found left i ts (Some u) = with_item ts i (unwrap_or (left u) (scalar null))

abbrev pub cut_item : (Tree → Option Tree) → Option ℕ → Items → Items
cut_item left None ts = ts
cut_item left (Some i) ts = with_found left i ts (item_at ts i)

-- What is left of a value without what stands at the end of these parts: None where it is the value
-- itself. A field goes, an element becomes null, and where the way ends before, nothing changes.
abbrev pub cut_off : List (List ℕ) → Tree → Option Tree
cut_off [] t = None
cut_off (name ∷ rest) (scalar s) = Some (scalar s)
cut_off (name ∷ rest) (document ps) = Some (document (cut_field (cut_off rest) name ps))
cut_off (name ∷ rest) (array ts) = Some (array (cut_item (cut_off rest) (index_of name) ts))

abbrev pub cut_at : List (List ℕ) → Pairs → Pairs
cut_at [] ps = ps
cut_at (name ∷ rest) ps = cut_field (cut_off rest) name ps
