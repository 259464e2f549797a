-- That the statements of a write are asked as they stand, each by itself.
use Rattle.std.proofs.Common.{◌≡◌, ℕ, zero, suc, Bool, true, false, List, ◌∷◌, refl, ap, sym, subst, ◌∙◌}
use Rattle.std.specs.Prelude.{pos, ◌+ℤ◌, ◌&&◌, not, is_some, is_none, if◌then◌else◌, codes}
use Rattle.std.specs.Option.{option_map_or}
use Rattle.std.specs.Int.{w32, saturate_signed}
use Rattle.bson.specs.Tree.{Tree, scalar, document, array, Pairs, Items, no_items, item}
use Rattle.bson.specs.Lookup.{lookup}
use Rattle.bson.specs.Edits.{items_len}
use Rattle.driver_replies.specs.BatchLaws.{Replies, asked_all, single, NeedNoId, IsEachByItself, AsksEachStatement}
use Rattle.driver_replies.specs.Tallies.{refused, with_reply}
use Rattle.driver_replies.specs.Writes.{needs_id, is_zero_count, asked_upsert, asked_statement, next_command, next_ids, passed, with_tally, after_reply}
use Rattle.driver_replies.specs.declared.batch.Batch.{Batch}
use Rattle.driver_replies.specs.declared.tally.Tally.{Tally}

-- what needs no `_id` is asked as it stands
as_it_stands : (batch : Batch) (t : Tree) → needs_id batch.write t ≡ false → asked_statement batch t ≡ t
as_it_stands batch (scalar s) e = refl
as_it_stands batch (array ts) e = refl
as_it_stands batch (document ps) e = ap (λ (b : Bool). document (if b then asked_upsert batch ps else ps)) e

-- a write of which a statement stands in front
abbrev in_front : Batch → Tree → Items → Batch
in_front batch t ts = record batch { left = item t ts; is_new = false }

-- its reply counts
reply-counts : (batch : Batch) (t : Tree) (ts : Items) (answer : Pairs) → needs_id batch.write t ≡ false
    → after_reply (in_front batch t ts) answer ≡ passed (with_tally (in_front batch t ts) answer) answer
reply-counts batch t ts answer e =
    ap (λ (b : Bool). if b && not false && is_none (refused answer) && is_zero_count (lookup answer (codes "n"))
    then record (in_front batch t ts) { is_new = true } else passed (with_tally (in_front batch t ts) answer) answer) e

none-left : (reply : Replies) (n : ℕ) (asked : List Pairs) (batch : Batch) → batch.left ≡ no_items → asked_all reply n asked batch ≡ (asked, batch)
none-left reply zero asked batch e = refl
none-left reply (suc n) asked batch e =
    ap (λ (ts : Items). option_map_or (λ (command : Pairs). asked_all reply n (command ∷ asked) (after_reply batch (reply asked command)))
    (next_command ts batch) (asked, batch)) e

-- ---- one statement more

-- what is known behind the reply to a statement, with these left
abbrev behind : Batch → Pairs → Items → Batch
behind batch answer ts = record batch {
  left = ts;
  index = saturate_signed w32 (batch.index +ℤ pos 1);
  is_new = false;
  ids = next_ids batch.ids;
  tally = with_reply batch.index answer batch.tally;
}

-- the command for a statement, and its reply
abbrev command_of : Batch → Tree → Pairs
command_of batch t = single batch.write batch.body t

abbrev is_last : Batch → Pairs → Bool
is_last batch answer = batch.is_ordered && is_some (refused answer)

abbrev end_of : Replies → List Pairs → Batch → Tree → Items → Items → List Pairs × Batch
end_of reply asked batch t ts left = asked_all reply (items_len ts) (command_of batch t ∷ asked) (behind batch (reply asked (command_of batch t)) left)

one_more : (reply : Replies) (asked : List Pairs) (batch : Batch) (t : Tree) (ts : Items) → needs_id batch.write t ≡ false
    → asked_all reply (suc (items_len ts)) asked (in_front batch t ts)
    ≡ end_of reply asked batch t ts (if is_last batch (reply asked (command_of batch t)) then no_items else ts)
one_more reply asked batch t ts e =
    ap (λ (u : Tree). asked_all reply (items_len ts) (command_of batch u ∷ asked) (after_reply (in_front batch t ts) (reply asked (command_of batch u))))
    (as_it_stands (in_front batch t ts) t e)
    ∙ ap (asked_all reply (items_len ts) (command_of batch t ∷ asked)) (reply-counts batch t ts (reply asked (command_of batch t)) e)

left-at : (reply : Replies) (asked : List Pairs) (batch : Batch) (t : Tree) (ts : Items) (last : Bool) → (end_of reply asked batch t ts ts).1.left ≡ no_items
    → (end_of reply asked batch t ts (if last then no_items else ts)).1.left ≡ no_items
left-at reply asked batch t ts true rest =
    ap (λ (x : List Pairs × Batch). x.1.left)
    (none-left reply (items_len ts) (command_of batch t ∷ asked) (behind batch (reply asked (command_of batch t)) no_items) refl)
left-at reply asked batch t ts false rest = rest

done-at : (reply : Replies) (asked : List Pairs) (batch : Batch) (t : Tree) (ts : Items) (last : Bool) (others : List Pairs × Tally)
    → ((end_of reply asked batch t ts ts).0, (end_of reply asked batch t ts ts).1.tally) ≡ others
    → ((end_of reply asked batch t ts (if last then no_items else ts)).0, (end_of reply asked batch t ts (if last then no_items else ts)).1.tally)
    ≡ (if last then (command_of batch t ∷ asked, with_reply batch.index (reply asked (command_of batch t)) batch.tally) else others)
done-at reply asked batch t ts true others rest =
    ap (λ (x : List Pairs × Batch). (x.0, x.1.tally))
    (none-left reply (items_len ts) (command_of batch t ∷ asked) (behind batch (reply asked (command_of batch t)) no_items) refl)
done-at reply asked batch t ts false others rest = rest

each : (reply : Replies) (ts : Items) (asked : List Pairs) (batch : Batch) → NeedNoId batch.write ts
    → IsEachByItself reply asked (record batch { left = ts; is_new = false })
    (asked_all reply (items_len ts) asked (record batch { left = ts; is_new = false }))
each reply no_items asked batch h = record { none_left = refl; done = refl }
each reply (item t ts) asked batch h =
    let answer = reply asked (command_of batch t) in
    let rest = each reply ts (command_of batch t ∷ asked) (behind batch answer ts) h.1 in
    subst (IsEachByItself reply asked (in_front batch t ts)) (sym (one_more reply asked batch t ts h.0)) (record {
      none_left = left-at reply asked batch t ts (is_last batch answer) rest.none_left;
      done = done-at reply asked batch t ts (is_last batch answer) _ rest.done;
    })

pub asks_each_statement : AsksEachStatement
asks_each_statement reply asked batch old none =
    subst (λ (b : Batch). IsEachByItself reply asked b (asked_all reply (items_len batch.left) asked b))
    (ap (λ (b : Bool). record batch { is_new = b }) (sym old))
    (each reply batch.left asked batch none)
