-- The connections stand in ascending order of their numbers, whatever happens to them; so a turn runs their messages in that order.
use Rattle.std.proofs.Common.{◌≡◌, ℕ, ◌<◌, Bool, true, false, List, [], ◌∷◌, ◌++◌, refl, ◌∙◌, ap, arith}
use Rattle.std.specs.Prelude.{◌&&◌, nat_lt, Option, Some, None, Result, Ok, Err}
use Rattle.std.specs.Ordering.{nat_cmp}
use Rattle.std.specs.declared.cmp.Ordering.{Ordering}
use Rattle.std.specs.declared.cmp.Ordering.TheVariants as orders
use Rattle.std.proofs.lemmas.Bool.{ltb-true}
use Rattle.std.proofs.lemmas.Bool.Decides.{nat_tests}
use Rattle.entry_model.specs.State.{by_order}
use Rattle.op_msg.specs.Frame.{Frame}
use Rattle.op_msg.specs.declared.fault.FrameFault.{FrameFault}
use Rattle.server.specs.ServerState.{are_above, are_ascending, new_connection, add_bytes, feed_connections, drop_connection}
use Rattle.server.specs.InOrder.{AreCalledAbove, AreCalledInOrder}
use Rattle.server.specs.Turn.{Call, calls, call_at, front_of, connection_at, connections_after, taken_at, connections_taken}
use Rattle.server.specs.declared.connection.Connection.{Connection}

pub both : (a b : Bool) → (a && b) ≡ true → (a ≡ true) × (b ≡ true)
both true b e = (refl, e)
both false b e = absurd cc

join : (a b : Bool) → a ≡ true → b ≡ true → (a && b) ≡ true
join true b ea eb = eb
join false b ea eb = absurd cc

-- a connection of the same number
same_id : (low : ℕ) (l k : Connection) (ls : List Connection) → k.id ≡ l.id → are_above low (l ∷ ls) ≡ true → are_above low (k ∷ ls) ≡ true
same_id low l k ls e h = ap (λ (n : ℕ). nat_lt low n && are_above n ls) e ∙ h

added_id : (l : Connection) (fault : Option FrameFault) (bytes : List ℕ) → (add_bytes l fault bytes).id ≡ l.id
added_id l None bytes = refl
added_id l (Some fault) bytes = refl

feed_above : (low : ℕ) (ls : List Connection) (id : ℕ) (bytes : List ℕ) → nat_lt low id ≡ true → are_above low ls ≡ true
    → are_above low (feed_connections ls id bytes) ≡ true
feed_above low [] id bytes below h = join (nat_lt low id) true below refl
feed_above low (l ∷ ls) id bytes below h = at (nat_cmp id l.id) refl (λ more. feed_above l.id ls id bytes more (both (nat_lt low l.id) (are_above l.id ls) h).1)
  where
    parts : (nat_lt low l.id ≡ true) × (are_above l.id ls ≡ true)
    parts = both (nat_lt low l.id) (are_above l.id ls) h

    at : (o : Ordering) → nat_cmp id l.id ≡ o → (nat_lt l.id id ≡ true → are_above l.id (feed_connections ls id bytes) ≡ true)
        → are_above low (by_order o (new_connection id bytes ∷ l ∷ ls) (add_bytes l l.fault bytes ∷ ls) (l ∷ feed_connections ls id bytes)) ≡ true
    at orders.Less e later =
        let less : nat_lt id l.id ≡ true = grind (arith, nat_tests) in
        join (nat_lt low id) (nat_lt id l.id && are_above l.id ls) below (join (nat_lt id l.id) (are_above l.id ls) less parts.1)
    at orders.Equal e later = same_id low l (add_bytes l l.fault bytes) ls (added_id l l.fault bytes) h
    at orders.Greater e later =
        let more : nat_lt l.id id ≡ true = grind (arith, nat_tests) in
        join (nat_lt low l.id) (are_above l.id (feed_connections ls id bytes)) parts.0 (later more)

pub feed_ascends : (ls : List Connection) (id : ℕ) (bytes : List ℕ) → are_ascending ls ≡ true → are_ascending (feed_connections ls id bytes) ≡ true
feed_ascends [] id bytes h = refl
feed_ascends (l ∷ ls) id bytes h = at (nat_cmp id l.id) refl
  where
    at : (o : Ordering) → nat_cmp id l.id ≡ o
        → are_ascending (by_order o (new_connection id bytes ∷ l ∷ ls) (add_bytes l l.fault bytes ∷ ls) (l ∷ feed_connections ls id bytes)) ≡ true
    at orders.Less e =
        let less : nat_lt id l.id ≡ true = grind (arith, nat_tests) in
        join (nat_lt id l.id) (are_above l.id ls) less h
    at orders.Equal e = ap (λ (n : ℕ). are_above n ls) (added_id l l.fault bytes) ∙ h
    at orders.Greater e =
        let more : nat_lt l.id id ≡ true = grind (arith, nat_tests) in
        feed_above l.id ls id bytes more h

-- those above a number are above a lesser one
lower : (low high : ℕ) (ls : List Connection) → nat_lt low high ≡ true → are_above high ls ≡ true → are_above low ls ≡ true
lower low high [] below h = refl
lower low high (l ∷ ls) below h =
    let parts = both (nat_lt high l.id) (are_above l.id ls) h in
    let first = parts.0 in
    let less : nat_lt low l.id ≡ true = grind (arith, nat_tests) in
    join (nat_lt low l.id) (are_above l.id ls) less parts.1

drop_above : (low : ℕ) (ls : List Connection) (id : ℕ) → are_above low ls ≡ true → are_above low (drop_connection ls id) ≡ true
drop_above low [] id h = refl
drop_above low (l ∷ ls) id h = at (nat_cmp id l.id) (drop_above l.id ls id (both (nat_lt low l.id) (are_above l.id ls) h).1)
  where
    parts : (nat_lt low l.id ≡ true) × (are_above l.id ls ≡ true)
    parts = both (nat_lt low l.id) (are_above l.id ls) h

    at : (o : Ordering) → are_above l.id (drop_connection ls id) ≡ true → are_above low (by_order o (l ∷ ls) ls (l ∷ drop_connection ls id)) ≡ true
    at orders.Less later = h
    at orders.Equal later = lower low l.id ls parts.0 parts.1
    at orders.Greater later = join (nat_lt low l.id) (are_above l.id (drop_connection ls id)) parts.0 later

pub above_ascends : (low : ℕ) (ls : List Connection) → are_above low ls ≡ true → are_ascending ls ≡ true
above_ascends low [] h = refl
above_ascends low (l ∷ ls) h = (both (nat_lt low l.id) (are_above l.id ls) h).1

pub drop_ascends : (ls : List Connection) (id : ℕ) → are_ascending ls ≡ true → are_ascending (drop_connection ls id) ≡ true
drop_ascends [] id h = refl
drop_ascends (l ∷ ls) id h = at (nat_cmp id l.id)
  where
    at : (o : Ordering) → are_ascending (by_order o (l ∷ ls) ls (l ∷ drop_connection ls id)) ≡ true
    at orders.Less = h
    at orders.Equal = above_ascends l.id ls h
    at orders.Greater = drop_above l.id ls id h

-- ---- turns keep the numbers

taken_id : (l : Connection) (front : Result (Option (Frame × List ℕ)) FrameFault) → (taken_at l front).id ≡ l.id
taken_id l (Ok (Some x)) = refl
taken_id l (Ok None) = refl
taken_id l (Err fault) = refl

after_id : (l : Connection) (front : Result (Option (Frame × List ℕ)) FrameFault) → (connection_at l front).id ≡ l.id
after_id l (Ok (Some x)) = refl
after_id l (Ok None) = refl
after_id l (Err fault) = refl

taken_above : (low : ℕ) (ls : List Connection) → are_above low (connections_taken ls) ≡ are_above low ls
taken_above low [] = refl
taken_above low (l ∷ ls) =
    ap (λ (n : ℕ). nat_lt low n && are_above n (connections_taken ls)) (taken_id l (front_of l)) ∙ ap (λ (b : Bool). nat_lt low l.id && b) (taken_above l.id ls)

pub taken_ascends : (ls : List Connection) → are_ascending ls ≡ true → are_ascending (connections_taken ls) ≡ true
taken_ascends [] h = refl
taken_ascends (l ∷ ls) h = ap (λ (n : ℕ). are_above n (connections_taken ls)) (taken_id l (front_of l)) ∙ taken_above l.id ls ∙ h

after_above : (low : ℕ) (ls : List Connection) → are_above low (connections_after ls) ≡ are_above low ls
after_above low [] = refl
after_above low (l ∷ ls) =
    ap (λ (n : ℕ). nat_lt low n && are_above n (connections_after ls)) (after_id l (front_of l)) ∙ ap (λ (b : Bool). nat_lt low l.id && b) (after_above l.id ls)

pub after_ascends : (ls : List Connection) → are_ascending ls ≡ true → are_ascending (connections_after ls) ≡ true
after_ascends [] h = refl
after_ascends (l ∷ ls) h = ap (λ (n : ℕ). are_above n (connections_after ls)) (after_id l (front_of l)) ∙ after_above l.id ls ∙ h

-- ---- the calls of a turn

called_lower : (low high : ℕ) (cs : List Call) → low < high → AreCalledAbove high cs → AreCalledAbove low cs
called_lower low high [] below h = tt
called_lower low high (c ∷ cs) below h = (omega (arith, below, h.0), h.1)

called_above : (low : ℕ) (ls : List Connection) → are_above low ls ≡ true → AreCalledAbove low (calls ls)
called_above low [] h = tt
called_above low (l ∷ ls) h = at (front_of l) (called_above l.id ls (both (nat_lt low l.id) (are_above l.id ls) h).1)
  where
    parts : (nat_lt low l.id ≡ true) × (are_above l.id ls ≡ true)
    parts = both (nat_lt low l.id) (are_above l.id ls) h

    below : low < l.id
    below = ltb-true low l.id parts.0

    at : (front : Result (Option (Frame × List ℕ)) FrameFault) → AreCalledAbove l.id (calls ls) → AreCalledAbove low (call_at l front ++ calls ls)
    at (Ok (Some x)) later = (below, later)
    at (Ok None) later = called_lower low l.id (calls ls) below later
    at (Err fault) later = called_lower low l.id (calls ls) below later

above_in_order : (low : ℕ) (cs : List Call) → AreCalledAbove low cs → AreCalledInOrder cs
above_in_order low [] h = tt
above_in_order low (c ∷ cs) h = h.1

pub calls_ascend : (ls : List Connection) → are_ascending ls ≡ true → AreCalledInOrder (calls ls)
calls_ascend [] h = tt
calls_ascend (l ∷ ls) h = at (front_of l) (called_above l.id ls h)
  where
    at : (front : Result (Option (Frame × List ℕ)) FrameFault) → AreCalledAbove l.id (calls ls) → AreCalledInOrder (call_at l front ++ calls ls)
    at (Ok (Some x)) later = later
    at (Ok None) later = above_in_order l.id (calls ls) later
    at (Err fault) later = above_in_order l.id (calls ls) later
