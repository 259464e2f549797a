-- A message during which nobody else may ask: none begins with a later question, and what is one
-- behind a reply was one before it.
use Rattle.std.specs.Prelude.{◌≡◌, ℕ, ℤ, Bool, true, false, ◌==◌, refl, if◌then◌else◌, List}
use Rattle.std.specs.Prelude.{codes, Option, Some, None, Result, Ok, Err}
use Rattle.std.specs.Str.{bytes_eq}
use Rattle.bson.specs.Edits.{items_len, without_item}
use Rattle.bson.specs.Lookup.{lookup}
use Rattle.bson.specs.Tree.{Tree, Pairs, no_pairs, Items}
use Rattle.driver_replies.specs.Cursors.{ids_of, first_id, after}
use Rattle.driver_replies.specs.Distinct.{distinct_of, documents_in, with_documents}
use Rattle.driver_replies.specs.Dropping.{drop_command, is_gone}
use Rattle.driver_replies.specs.Listing.{batch_in}
use Rattle.driver_replies.specs.WriteErrors.{refused_statement}
use Rattle.driver_replies.specs.Writes.{write_of, field_of, is_alone, batch_of}
use Rattle.driver_replies.specs.Writes.{next_command, after_reply}
use Rattle.driver_replies.specs.declared.batch.Batch.{Batch}
use Rattle.driver_replies.specs.declared.distinct.Distinct.{Distinct}
use Rattle.driver_replies.specs.declared.fresh_ids.FreshIds.{FreshIds}
use Rattle.driver_replies.specs.declared.kills.Kills.{Kills}
use Rattle.driver_replies.specs.declared.writes.Write.{Write}
use Rattle.drivers.specs.Answering.{kill_wait, other_wait, distinct_kept, asked_wait, with_asked}
use Rattle.drivers.specs.Answering.{is_modification, first_plan_in}
use Rattle.drivers.specs.Answering.{is_single, wait_of, first_plan, reworded, final}
use Rattle.drivers.specs.Answering.{cursor_left, end_cursor, kill_next, killed, next_statement}
use Rattle.drivers.specs.Answering.{whole_step, drop_next, drop_step, drop_listed, distinct_next}
use Rattle.drivers.specs.Answering.{distinct_on, asks_alone, answered_by, answered}
use Rattle.drivers.specs.Starting.{name_of}
use Rattle.driver_messages.specs.declared.message.BodyFault.{BodyFault}
use Rattle.driver_messages.specs.declared.message.Message.{Message}
use Rattle.drivers.specs.declared.plan.Plan.{Plan}
use Rattle.drivers.specs.declared.plan.Wait.{Wait}
use Rattle.drivers.specs.declared.plan.Wait.TheVariants as waits
use Rattle.drivers.specs.declared.step.Step.{Step}

-- what is waited for is behind the first question
abbrev pub is_later : Wait → Bool
is_later (waits.Changed m was) = true
is_later (waits.Again m is_new subject) = true
is_later other = false

-- ---- no message begins with a later question

neither : (f : Wait → Bool) (b : Bool) (x y : Wait) → f x ≡ false → f y ≡ false
    → f (if b then x else y) ≡ false
neither f true x y h k = h
neither f false x y h k = k

kill_first : (body : Pairs) (ids : Option Items) → is_later (kill_wait body ids) ≡ false
kill_first body None = refl
kill_first body (Some ids) = refl

distinct_first : (d : Option Distinct) → is_later (distinct_kept d) ≡ false
distinct_first None = refl
distinct_first (Some d) = refl

other_first : (ids : FreshIds) (body : Pairs) (write : Option Write)
    → is_later (other_wait ids body write) ≡ false
other_first ids body None = refl
other_first ids body (Some write) =
    neither is_later (is_alone write (lookup body (field_of write))) waits.Write _ refl refl

wait_first : (ids : FreshIds) (body : Pairs) → is_later (wait_of ids body) ≡ false
wait_first ids body =
    neither is_later (bytes_eq name (codes "killCursors")) _ _ (kill_first body (ids_of body))
    (neither is_later (bytes_eq name (codes "listCollections")) _ _ refl
    (neither is_later (bytes_eq name (codes "listIndexes")) _ _ refl
    (neither is_later (bytes_eq name (codes "dropDatabase")) _ _ refl
    (neither is_later (bytes_eq name (codes "explain")) _ _ refl
    (neither is_later (is_modification name) _ _ refl
    (neither is_later (bytes_eq name (codes "distinct")) _ _ (distinct_first (distinct_of body))
    (neither is_later (is_single body) _ _ refl (other_first ids body (write_of name)))))))))
  where
    name : List ℕ
    name = name_of body

in_first : (ids : FreshIds) (more : Bool) (body : Result Pairs BodyFault)
    → is_later (first_plan_in ids more body).wait ≡ false
in_first ids more (Ok body) = wait_first ids body
in_first ids more (Err fault) = wait_first ids no_pairs

pub starts_first : (ids : FreshIds) (message : Message)
    → is_later (first_plan ids message).wait ≡ false
starts_first ids message = in_first ids message.more_to_come message.body

-- ---- what is asked makes none of it

asked_alike : (w : Wait) (command : Pairs) → asks_alone (asked_wait w command) ≡ asks_alone w
asked_alike waits.Plain command = refl
asked_alike waits.Single command = refl
asked_alike (waits.Ended answer) command = refl
asked_alike waits.Write command = refl
asked_alike (waits.Whole write ordered ids) command =
    let batch = batch_of write ordered ids command in
    neither asks_alone (items_len batch.left == 0) waits.Plain (waits.Batch batch) refl refl
asked_alike (waits.Batch batch) command = refl
asked_alike (waits.Statement batch) command = refl
asked_alike waits.Listed command = refl
asked_alike (waits.Drops ts) command = refl
asked_alike (waits.Kill kills) command = refl
asked_alike (waits.Collections wanted) command = refl
asked_alike waits.Indexes command = refl
asked_alike waits.Explained command = refl
asked_alike (waits.Found m) command = refl
asked_alike (waits.Changed m was) command = refl
asked_alike (waits.Again m is_new subject) command = refl
asked_alike (waits.Distinct d) command = refl

pub stays_asked : (plan : Plan) (command : Pairs)
    → asks_alone (with_asked plan command).wait ≡ asks_alone plan.wait
stays_asked plan command = asked_alike plan.wait command

-- ---- what is one behind a reply was one before it

-- it isn't one
abbrev Rests : Plan × Step → Type 0
Rests x = asks_alone x.0.wait ≡ false

kill_rests : (id : Option ℤ) (plan : Plan) (kills : Kills) → Rests (kill_next id plan kills)
kill_rests None plan kills = refl
kill_rests (Some z) plan kills = refl

killed_rests : (t : Option Tree) (plan : Plan) (kills : Kills) (reply : Pairs)
    → Rests (killed t plan kills reply)
killed_rests None plan kills reply = refl
killed_rests (Some t) plan kills reply =
    kill_rests (first_id (after kills reply).left) plan (after kills reply)

single_rests : (id : Option ℤ) (plan : Plan) (reply : Pairs) → Rests (end_cursor id plan reply)
single_rests None plan reply = refl
single_rests (Some z) plan reply = refl

statement_rests : (command : Option Pairs) (plan : Plan) (batch : Batch)
    → Rests (next_statement command plan batch)
statement_rests None plan batch = refl
statement_rests (Some command) plan batch = refl

whole_rests : (code : Option ℤ) (plan : Plan) (batch : Batch) (reply : Pairs)
    → Rests (whole_step code plan batch reply)
whole_rests None plan batch reply = refl
whole_rests (Some z) plan batch reply = statement_rests (next_command batch.left batch) plan batch

drop_rests : (command : Option Pairs) (plan : Plan) (ts : Items) → Rests (drop_next command plan ts)
drop_rests None plan ts = refl
drop_rests (Some command) plan ts = refl

listed_rests : (ts : Option Items) (plan : Plan) (reply : Pairs) → Rests (drop_listed ts plan reply)
listed_rests None plan reply = refl
listed_rests (Some ts) plan reply = drop_rests (drop_command plan.database ts) plan ts

dropped_rests : (gone : Bool) (plan : Plan) (ts : Items) (reply : Pairs)
    → Rests (if gone then drop_step plan (without_item ts 0) else
    (record plan { wait = waits.Plain }, final plan reply))
dropped_rests true plan ts reply =
    let left = without_item ts 0 in
    drop_rests (drop_command plan.database left) plan left
dropped_rests false plan ts reply = refl

values_rest : (id : Option ℤ) (plan : Plan) (d : Distinct) → Rests (distinct_next id plan d)
values_rest None plan d = refl
values_rest (Some z) plan d = refl

distinct_rests : (ts : Option Items) (plan : Plan) (d : Distinct) (reply : Pairs)
    → Rests (distinct_on ts plan d reply)
distinct_rests None plan d reply = refl
distinct_rests (Some ts) plan d reply = values_rest (cursor_left reply) plan (with_documents d ts)

never : (w : Wait) (plan : Plan) (reply : Pairs) → Rests (answered_by w plan reply)
    → asks_alone (answered_by w plan reply).0.wait ≡ true → asks_alone w ≡ true
never w plan reply h e = absurd cc

by_wait : (w : Wait) (plan : Plan) (reply : Pairs)
    → asks_alone (answered_by w plan reply).0.wait ≡ true → asks_alone w ≡ true
by_wait waits.Plain plan reply e = absurd cc
by_wait waits.Single plan reply e =
    never waits.Single plan reply
    (single_rests (cursor_left reply) plan reply) e
by_wait (waits.Ended answer) plan reply e = absurd cc
by_wait waits.Write plan reply e = absurd cc
by_wait (waits.Whole write ordered ids) plan reply e = absurd cc
by_wait (waits.Batch batch) plan reply e =
    never (waits.Batch batch) plan reply
    (whole_rests (refused_statement (lookup reply (codes "code"))) plan batch reply) e
by_wait (waits.Statement batch) plan reply e =
    let after = after_reply batch (reworded plan.database plan.collection reply) in
    never (waits.Statement batch) plan reply
    (statement_rests (next_command after.left after) plan after) e
by_wait waits.Listed plan reply e =
    never waits.Listed plan reply
    (listed_rests (batch_in (lookup reply (codes "cursor"))) plan reply) e
by_wait (waits.Drops ts) plan reply e =
    never (waits.Drops ts) plan reply
    (dropped_rests (is_gone reply) plan ts reply) e
by_wait (waits.Kill kills) plan reply e =
    never (waits.Kill kills) plan reply
    (killed_rests (lookup reply (codes "cursorsKilled")) plan kills reply) e
by_wait (waits.Collections wanted) plan reply e = absurd cc
by_wait waits.Indexes plan reply e = absurd cc
by_wait waits.Explained plan reply e = absurd cc
by_wait (waits.Found m) plan reply e = refl
by_wait (waits.Changed m was) plan reply e = refl
by_wait (waits.Again m is_new subject) plan reply e = refl
by_wait (waits.Distinct d) plan reply e =
    never (waits.Distinct d) plan reply
    (distinct_rests (documents_in (lookup reply (codes "cursor"))) plan d reply) e

pub stays_alone : (plan : Plan) (reply : Pairs)
    → asks_alone (answered plan reply).0.wait ≡ true → asks_alone plan.wait ≡ true
stays_alone plan reply e = by_wait plan.wait plan reply e
