-- The connection of a number among connections: what bytes, an end and a turn do with it, and what a turn takes of it.
use Rattle.std.proofs.Common.{◌≡◌, ℕ, List, [], ◌∷◌, ◌++◌, refl, sym, ◌∙◌, ap, append-nil, arith}
use Rattle.std.specs.Prelude.{◌≢◌, ◌==◌, if◌then◌else◌, true, false, nat_lt, Result, Ok, Err, Option, Some, None, unwrap_or}
use Rattle.std.specs.Ordering.{nat_cmp}
use Rattle.std.specs.declared.cmp.Ordering.{Ordering}
use Rattle.std.specs.declared.cmp.Ordering.TheVariants as orders
use Rattle.std.proofs.lemmas.Bool.Decides.{nat_tests}
use Rattle.entry_model.specs.State.{by_order}
use Rattle.op_msg.specs.Frame.{Frame, front}
use Rattle.op_msg.specs.declared.fault.FrameFault.{FrameFault}
use Rattle.server.specs.ServerState.{add_bytes, are_above, are_ascending, drop_connection, feed_connections, find_connection, new_connection}
use Rattle.server.specs.Streams.{connection_in, messages_from}
use Rattle.server.specs.Taking.{fault_in}
use Rattle.server.specs.Turn.{Call, calls, call_at, front_of, connection_at, connection_after, connections_after, fault_at, faults}
use Rattle.server.specs.declared.connection.Connection.{Connection}
use Rattle.server.proofs.Ascending.{above_ascends, both}

abbrev pub Front : Type 0
Front = Result (Option (Frame × List ℕ)) FrameFault

-- the message at the front
abbrev pub message_at : Result (Option (Frame × List ℕ)) FrameFault → List Frame
message_at (Ok None) = []
message_at (Ok (Some x)) = x.0 ∷ []
message_at (Err fault) = []

abbrev pub found : ℕ → Option Connection → Connection
found id o = unwrap_or o (new_connection id [])

-- the one among a first one and others, by the order of the numbers
abbrev pub found_by : ℕ → Ordering → Connection → List Connection → Connection
found_by id o l ls = found id (by_order o None (Some l) (find_connection ls id))

-- bytes that came on a connection add to it, and not to another one
abbrev pub fed_at : ℕ → ℕ → List ℕ → Connection → Connection
fed_at id n chunk c = if n == id then add_bytes c c.fault chunk else c

kept_id : (l : Connection) (fault : Option FrameFault) (chunk : List ℕ) → (add_bytes l fault chunk).id ≡ l.id
kept_id l None chunk = refl
kept_id l (Some fault) chunk = refl

first_fed : (id n : ℕ) (chunk : List ℕ) (q : Ordering) → nat_cmp id n ≡ q
    → found id (by_order q None (Some (new_connection n chunk)) None) ≡ fed_at id n chunk (new_connection id [])
first_fed id n chunk orders.Less e = let other : (n == id) ≡ false = grind (arith, nat_tests) in rw other refl
first_fed id n chunk orders.Equal e =
    let same : (n == id) ≡ true = grind (arith, nat_tests) in
    let is : n ≡ id = grind (arith, nat_tests) in
    rw same (ap (λ (m : ℕ). new_connection m chunk) is)
first_fed id n chunk orders.Greater e = let other : (n == id) ≡ false = grind (arith, nat_tests) in rw other refl

module _ (id n : ℕ) (chunk : List ℕ) (l : Connection) (ls : List Connection) where
  abbrev fed_by : Ordering → List Connection
  fed_by o = by_order o (new_connection n chunk ∷ l ∷ ls) (add_bytes l l.fault chunk ∷ ls) (l ∷ feed_connections ls n chunk)

  abbrev before_by : Ordering → Connection
  before_by p = found id (by_order p None (Some l) (find_connection ls id))

  other_than : (n == id) ≡ false → (c : Connection) → c ≡ fed_at id n chunk c
  other_than e c = rw e refl

  in_front : (p : Ordering) → nat_cmp n l.id ≡ orders.Less → nat_cmp id l.id ≡ p → (q : Ordering) → nat_cmp id n ≡ q
      → found id (by_order q None (Some (new_connection n chunk)) (by_order p None (Some l) (find_connection ls id))) ≡ fed_at id n chunk (before_by p)
  in_front p e is orders.Greater eq = let other : (n == id) ≡ false = grind (arith, nat_tests) in other_than other (before_by p)
  in_front orders.Less e is orders.Less eq = first_fed id n chunk orders.Less eq
  in_front orders.Less e is orders.Equal eq = first_fed id n chunk orders.Equal eq
  in_front orders.Equal e is orders.Less eq = absurd (grind (arith, nat_tests))
  in_front orders.Equal e is orders.Equal eq = absurd (grind (arith, nat_tests))
  in_front orders.Greater e is orders.Less eq = absurd (grind (arith, nat_tests))
  in_front orders.Greater e is orders.Equal eq = absurd (grind (arith, nat_tests))

  in_place : (p : Ordering) → nat_cmp n l.id ≡ orders.Equal → nat_cmp id l.id ≡ p
      → found id (by_order p None (Some (add_bytes l l.fault chunk)) (find_connection ls id)) ≡ fed_at id n chunk (before_by p)
  in_place orders.Less e is = let other : (n == id) ≡ false = grind (arith, nat_tests) in other_than other (before_by orders.Less)
  in_place orders.Equal e is = let same : (n == id) ≡ true = grind (arith, nat_tests) in rw same refl
  in_place orders.Greater e is = let other : (n == id) ≡ false = grind (arith, nat_tests) in other_than other (before_by orders.Greater)

  behind : (p : Ordering) → nat_cmp n l.id ≡ orders.Greater → nat_cmp id l.id ≡ p
      → connection_in (feed_connections ls n chunk) id ≡ fed_at id n chunk (connection_in ls id)
      → found id (by_order p None (Some l) (find_connection (feed_connections ls n chunk) id)) ≡ fed_at id n chunk (before_by p)
  behind orders.Less e is later = let other : (n == id) ≡ false = grind (arith, nat_tests) in other_than other (before_by orders.Less)
  behind orders.Equal e is later = let other : (n == id) ≡ false = grind (arith, nat_tests) in other_than other (before_by orders.Equal)
  behind orders.Greater e is later = later

  fed_step : (o : Ordering) → nat_cmp n l.id ≡ o → connection_in (feed_connections ls n chunk) id ≡ fed_at id n chunk (connection_in ls id)
      → connection_in (fed_by o) id ≡ fed_at id n chunk (before_by (nat_cmp id l.id))
  fed_step orders.Less e later = in_front (nat_cmp id l.id) e refl (nat_cmp id n) refl
  fed_step orders.Equal e later = rw (kept_id l l.fault chunk) (in_place (nat_cmp id l.id) e refl)
  fed_step orders.Greater e later = behind (nat_cmp id l.id) e refl later

pub fed_in : (id n : ℕ) (chunk : List ℕ) (ls : List Connection) → connection_in (feed_connections ls n chunk) id ≡ fed_at id n chunk (connection_in ls id)
fed_in id n chunk [] = first_fed id n chunk (nat_cmp id n) refl
fed_in id n chunk (l ∷ ls) = fed_step id n chunk l ls (nat_cmp n l.id) refl (fed_in id n chunk ls)

-- none of these connections has the number, so no call of theirs
not_called : (id : ℕ) (l : Connection) (f : Front) (cs : List Call) → (l.id == id) ≡ false → messages_from id (call_at l f ++ cs) ≡ messages_from id cs
not_called id l (Ok (Some x)) cs other = rw other refl
not_called id l (Ok None) cs other = refl
not_called id l (Err fault) cs other = refl

called : (id : ℕ) (l : Connection) (f : Front) (cs : List Call) → (l.id == id) ≡ true
    → messages_from id (call_at l f ++ cs) ≡ message_at f ++ messages_from id cs
called id l (Ok (Some x)) cs same = rw same refl
called id l (Ok None) cs same = refl
called id l (Err fault) cs same = refl

pub none_above : (id low : ℕ) (ls : List Connection) → nat_lt low id ≡ false → are_above low ls ≡ true
    → (find_connection ls id ≡ None) × (messages_from id (calls ls) ≡ [])
none_above id low [] past h = (refl, refl)
none_above id low (l ∷ ls) past h =
    let parts = both (nat_lt low l.id) (are_above l.id ls) h in
    let first = parts.0 in
    let other : (l.id == id) ≡ false = grind (arith, nat_tests) in
    let later = none_above id l.id ls (grind (arith, nat_tests)) parts.1 in
    (by (nat_cmp id l.id) refl first, not_called id l (front_of l) (calls ls) other ∙ later.1)
  where
    by : (o : Ordering) → nat_cmp id l.id ≡ o → nat_lt low l.id ≡ true → by_order o None (Some l) (find_connection ls id) ≡ None
    by orders.Less e first = refl
    by orders.Equal e first = absurd (grind (arith, nat_tests))
    by orders.Greater e first = absurd (grind (arith, nat_tests))

pub dropped_in : (id n : ℕ) (ls : List Connection) → n ≢ id → are_ascending ls ≡ true → connection_in (drop_connection ls n) id ≡ connection_in ls id
dropped_in id n [] other h = refl
dropped_in id n (l ∷ ls) other h = by (nat_cmp n l.id) refl (nat_cmp id l.id) refl (dropped_in id n ls other (above_ascends l.id ls h))
  where
    by : (o : Ordering) → nat_cmp n l.id ≡ o → (p : Ordering) → nat_cmp id l.id ≡ p → connection_in (drop_connection ls n) id ≡ connection_in ls id
        → connection_in (by_order o (l ∷ ls) ls (l ∷ drop_connection ls n)) id ≡ connection_in (l ∷ ls) id
    by orders.Less e p is later = refl
    by orders.Equal e orders.Less is later = rw is (ap (found id) (none_above id l.id ls (grind (arith, nat_tests)) h).0)
    by orders.Equal e orders.Equal is later = absurd (other (grind (arith, nat_tests)))
    by orders.Equal e orders.Greater is later = rw is refl
    by orders.Greater e orders.Less is later = rw is refl
    by orders.Greater e orders.Equal is later = rw is refl
    by orders.Greater e orders.Greater is later = rw is later

-- a turn does to the connection what it does to one
turned_id : (l : Connection) (f : Front) → (connection_at l f).id ≡ l.id
turned_id l (Ok (Some x)) = refl
turned_id l (Ok None) = refl
turned_id l (Err fault) = refl

pub turned_in : (id : ℕ) (ls : List Connection) → connection_in (connections_after ls) id ≡ connection_after (connection_in ls id)
unfolding front
turned_in id [] = refl
turned_in id (l ∷ ls) = rw (turned_id l (front_of l)) (by (nat_cmp id l.id) (turned_in id ls))
  where
    by : (o : Ordering) → connection_in (connections_after ls) id ≡ connection_after (connection_in ls id)
        → found id (by_order o None (Some (connection_after l)) (find_connection (connections_after ls) id))
        ≡ connection_after (found id (by_order o None (Some l) (find_connection ls id)))
    by orders.Less later = refl
    by orders.Equal later = refl
    by orders.Greater later = later

-- and takes its message
pub taken_in : (id : ℕ) (ls : List Connection) → are_ascending ls ≡ true → messages_from id (calls ls) ≡ message_at (front_of (connection_in ls id))
unfolding front
taken_in id [] h = refl
taken_in id (l ∷ ls) h = by (nat_cmp id l.id) refl (taken_in id ls (above_ascends l.id ls h))
  where
    by : (o : Ordering) → nat_cmp id l.id ≡ o → messages_from id (calls ls) ≡ message_at (front_of (connection_in ls id))
        → messages_from id (call_at l (front_of l) ++ calls ls) ≡ message_at (front_of (found id (by_order o None (Some l) (find_connection ls id))))
    by orders.Less e later =
        let other : (l.id == id) ≡ false = grind (arith, nat_tests) in
        not_called id l (front_of l) (calls ls) other ∙ (none_above id l.id ls (grind (arith, nat_tests)) h).1
    by orders.Equal e later =
        let same : (l.id == id) ≡ true = grind (arith, nat_tests) in
        called id l (front_of l) (calls ls) same
        ∙ ap (λ (fs : List Frame). message_at (front_of l) ++ fs) (none_above id l.id ls (grind (arith, nat_tests)) h).1
        ∙ append-nil (message_at (front_of l))
    by orders.Greater e later =
        let other : (l.id == id) ≡ false = grind (arith, nat_tests) in
        not_called id l (front_of l) (calls ls) other ∙ later

-- an end makes all of it forgotten
pub ended_in : (id : ℕ) (ls : List Connection) → are_ascending ls ≡ true → connection_in (drop_connection ls id) id ≡ new_connection id []
ended_in id [] rises = refl
ended_in id (l ∷ ls) rises = by (nat_cmp id l.id) refl (ended_in id ls (above_ascends l.id ls rises))
  where
    by : (o : Ordering) → nat_cmp id l.id ≡ o → connection_in (drop_connection ls id) id ≡ new_connection id []
        → connection_in (by_order o (l ∷ ls) ls (l ∷ drop_connection ls id)) id ≡ new_connection id []
    by orders.Less c later = rw c refl
    by orders.Equal c later = ap (found id) (none_above id l.id ls (grind (arith, nat_tests)) rises).0
    by orders.Greater c later = rw c later

-- where no fault stands at a front, none is found
none_at : (l : Connection) (f : Front) → fault_in f ≡ None → fault_at l f ≡ []
none_at l (Ok x) e = refl
none_at l (Err fault) e = absurd cc

pub none_faulty : (ls : List Connection) → are_ascending ls ≡ true → ((id : ℕ) → fault_in (front_of (connection_in ls id)) ≡ None) → faults ls ≡ []
unfolding front
none_faulty [] rises none = refl
none_faulty (l ∷ ls) rises none =
    let same : nat_cmp l.id l.id ≡ orders.Equal = grind (arith, nat_tests) in
    let here : connection_in (l ∷ ls) l.id ≡ l = rw same refl in
    let first : fault_at l (front_of l) ≡ [] =
    none_at l (front_of l) (ap (λ (c : Connection). fault_in (front_of c)) (sym here) ∙ none l.id) in
    let later : faults ls ≡ [] = none_faulty ls (above_ascends l.id ls rises) (λ id. by id (nat_cmp id l.id) refl (none id)) in
    (λ i. first i ++ later i)
  where
    by : (id : ℕ) (o : Ordering) → nat_cmp id l.id ≡ o → fault_in (front_of (found_by id o l ls)) ≡ None
        → fault_in (front_of (connection_in ls id)) ≡ None
    by id orders.Less c e =
        ap (λ (o : Option Connection). fault_in (front_of (found id o))) (none_above id l.id ls (grind (arith, nat_tests)) rises).0
    by id orders.Equal c e =
        ap (λ (o : Option Connection). fault_in (front_of (found id o))) (none_above id l.id ls (grind (arith, nat_tests)) rises).0
    by id orders.Greater c e = e
