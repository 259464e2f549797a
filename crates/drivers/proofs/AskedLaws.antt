-- A message ends as is wanted: where an answer is wanted, one is made, and where none is, none.
use Rattle.std.proofs.Common.{◌≡◌, ℕ, ℤ, Bool, true, false, List, [], ◌∷◌, codes, Option, Some, None, refl, ap, subst, ◌∙◌}
use Rattle.std.specs.Prelude.{if◌then◌else◌, option_to_list, Result, Ok, Err}
use Rattle.std.specs.Option.{option_and_then}
use Rattle.bson.specs.Edits.{without_item}
use Rattle.bson.specs.Lookup.{lookup}
use Rattle.bson.specs.Tree.{Tree, scalar, document, array, Pairs, pair, append, Items, no_items, item}
use Rattle.driver_messages.specs.declared.message.BodyFault.{BodyFault}
use Rattle.driver_messages.specs.declared.message.BodyFault.TheVariants as faults
use Rattle.driver_messages.specs.declared.message.Form.{Form}
use Rattle.driver_messages.specs.declared.message.Form.TheVariants as forms
use Rattle.driver_replies.specs.Cursors.{cursor_of, ids_of, first_id, after}
use Rattle.driver_replies.specs.Distinct.{documents_in, key_of, with_documents}
use Rattle.driver_replies.specs.Dropping.{drop_command, is_gone}
use Rattle.driver_replies.specs.Indexes.{indexes_told}
use Rattle.driver_replies.specs.Listing.{batch_in, retold}
use Rattle.driver_replies.specs.Modifying.{made_by, part_in, subject_of}
use Rattle.driver_replies.specs.Tallies.{refused}
use Rattle.driver_replies.specs.WriteErrors.{refused_statement}
use Rattle.driver_replies.specs.Writes.{after_reply, next_command}
use Rattle.driver_replies.specs.declared.batch.Batch.{Batch}
use Rattle.driver_replies.specs.declared.distinct.Distinct.{Distinct}
use Rattle.driver_replies.specs.declared.fresh_ids.FreshIds.{FreshIds}
use Rattle.driver_replies.specs.declared.kills.Kills.{Kills}
use Rattle.driver_replies.specs.declared.modifying.Modification.{Modification}
use Rattle.drivers.specs.Answering.{answered, answered_by, change_found, changed, changed_by, cursor_left, distinct_next, distinct_on, drop_listed, drop_next}
use Rattle.drivers.specs.Answering.{drop_step, end_cursor, error_step, final, found, found_again, found_none, found_part, kill_next, killed, modified}
use Rattle.drivers.specs.Answering.{asked_wait, next_statement, plan_in, reworded, told_step, whole_step}
use Rattle.drivers.specs.Asked.{EndsAsWanted, IgnoredGoesTheSame, IsHeardAsWanted, KeepsWhatIsAsked, RefusedAsksNothing, after_replies, asked_from, begun}
use Rattle.drivers.specs.Asked.{message_of}
use Rattle.driver_fields.specs.Cleaning.{first_refused, kept}
use Rattle.driver_fields.specs.Commands.{command_of}
use Rattle.drivers.specs.Explaining.{explained}
use Rattle.drivers.specs.Laws.{asked_by}
use Rattle.driver_fields.specs.Reasons.{refusal_reply}
use Rattle.drivers.specs.Starting.{ask, ask_explain, ask_owner, ask_unless, distinct_fault, distinct_unless, do_command, do_fault, do_message, do_query}
use Rattle.drivers.specs.Starting.{explain_unless, kill_first, modify_fault, modify_unless, name_of, unheard}
use Rattle.driver_fields.specs.declared.command.Asked.{Asked}
use Rattle.driver_fields.specs.declared.command.Asked.TheVariants as askeds
use Rattle.driver_fields.specs.declared.command.Command.{Command}
use Rattle.driver_fields.specs.declared.command.Command.TheVariants as commands
use Rattle.driver_fields.specs.declared.command.Own.TheVariants as owns
use Rattle.drivers.specs.declared.plan.Plan.{Plan}
use Rattle.drivers.specs.declared.plan.Wait.{Wait}
use Rattle.drivers.specs.declared.plan.Wait.TheVariants as waits
use Rattle.driver_fields.specs.declared.reason.Reason.{Reason}
use Rattle.drivers.specs.declared.server_info.ServerInfo.{ServerInfo}
use Rattle.drivers.specs.declared.step.Step.{Step}
use Rattle.drivers.specs.declared.step.Step.TheVariants as steps
use Rattle.drivers.proofs.AskingLaws.{ignored_makes_no_difference}
use Rattle.drivers.proofs.PlanLaws.{ignored_leaves_the_plan}
use Rattle.drivers.proofs.StatementLaws.{keeps_first}

-- it asks or answers
abbrev Speaks : Step → Type 0
Speaks (steps.Ask command) = Unit {0}
Speaks (steps.AskOwner id command) = Unit {0}
Speaks (steps.Reply reply) = Unit {0}
Speaks (steps.Fail reply) = Unit {0}
Speaks steps.Silent = ⊥

heard : (more : Bool) (step : Step) → Speaks step → EndsAsWanted more (unheard more step)
heard true (steps.Ask command) h = tt
heard true (steps.AskOwner id command) h = tt
heard true (steps.Reply reply) h = refl
heard true (steps.Fail reply) h = refl
heard true steps.Silent h = absurd h
heard false (steps.Ask command) h = tt
heard false (steps.AskOwner id command) h = tt
heard false (steps.Reply reply) h = refl
heard false (steps.Fail reply) h = refl
heard false steps.Silent h = absurd h

-- ---- what is done first

owner_speaks : (id : Option ℤ) (body : Pairs) → Speaks (ask_owner id body)
owner_speaks None body = tt
owner_speaks (Some z) body = tt

kill_speaks : (id : Option ℤ) (body : Pairs) → Speaks (kill_first id body)
kill_speaks None body = tt
kill_speaks (Some z) body = tt

explain_speaks_unless : (fault : Option (List ℕ × Reason)) (find body : Pairs) → Speaks (explain_unless fault find body)
explain_speaks_unless None find body = tt
explain_speaks_unless (Some x) find body = tt

explain_speaks : (t : Option Tree) (body : Pairs) → Speaks (ask_explain t body)
explain_speaks None body = tt
explain_speaks (Some (document find)) body = explain_speaks_unless (first_refused askeds.Find find) find body
explain_speaks (Some (array ts)) body = tt
explain_speaks (Some (scalar s)) body = tt

modify_speaks : (fault : Option (List ℕ × Reason)) (body : Pairs) → Speaks (modify_unless fault body)
modify_speaks None body = tt
modify_speaks (Some x) body = tt

distinct_speaks : (fault : Option (List ℕ × Reason)) (path : Option (List (List ℕ))) (body : Pairs) → Speaks (distinct_unless fault path body)
distinct_speaks (Some x) path body = tt
distinct_speaks None None body = tt
distinct_speaks None (Some path) body = tt

ask_speaks : (ids : FreshIds) (asked : Asked) (body : Pairs) → Speaks (ask ids asked body)
ask_speaks ids askeds.Plain body = tt
ask_speaks ids askeds.CreateIndexes body = tt
ask_speaks ids askeds.Write body = tt
ask_speaks ids askeds.Find body = tt
ask_speaks ids askeds.GetMore body = owner_speaks (cursor_of body) body
ask_speaks ids askeds.KillCursors body = kill_speaks (option_and_then first_id (ids_of body)) body
ask_speaks ids askeds.ListCollections body = tt
ask_speaks ids askeds.ListIndexes body = tt
ask_speaks ids askeds.DropDatabase body = tt
ask_speaks ids askeds.Explain body = explain_speaks (lookup body (codes "explain")) body
ask_speaks ids askeds.Modify body = modify_speaks (modify_fault body) body
ask_speaks ids askeds.Distinct body = distinct_speaks (distinct_fault body) (key_of body) body

unless_speaks : (ids : FreshIds) (asked : Asked) (fault : Option (List ℕ × Reason)) (body : Pairs) → Speaks (ask_unless ids asked fault body)
unless_speaks ids asked None body = ask_speaks ids asked (kept asked body)
unless_speaks ids asked (Some x) body = tt

command_speaks : (command : Option Command) (name : List ℕ) (info : ServerInfo) (body : Pairs) → Speaks (do_command command name info body)
command_speaks None name info body = tt
command_speaks (Some (commands.Own own)) name info body = tt
command_speaks (Some (commands.Forwarded asked)) name info body = unless_speaks info.ids asked (first_refused asked body) body

query_speaks : (command : Option Command) (info : ServerInfo) → Speaks (do_query command info)
query_speaks None info = tt
query_speaks (Some (commands.Forwarded asked)) info = tt
query_speaks (Some (commands.Own owns.Hello)) info = tt
query_speaks (Some (commands.Own owns.IsMaster)) info = tt
query_speaks (Some (commands.Own owns.BuildInfo)) info = tt
query_speaks (Some (commands.Own owns.Session)) info = tt
query_speaks (Some (commands.Own owns.Login)) info = tt

fault_speaks : (fault : BodyFault) → Speaks (do_fault fault)
fault_speaks (faults.Foreign foreign) = tt
fault_speaks faults.Invalid = tt

message_speaks : (form : Form) (info : ServerInfo) (body : Result Pairs BodyFault) → Speaks (do_message form info body)
message_speaks forms.Query info body = tt
message_speaks forms.Command info (Ok body) = query_speaks (command_of (name_of body)) info
message_speaks forms.Command info (Err fault) = fault_speaks fault
message_speaks forms.Message info (Ok body) = command_speaks (command_of (name_of body)) (name_of body) info body
message_speaks forms.Message info (Err fault) = fault_speaks fault

-- ---- what is done behind a reply

-- what is asked makes no difference to it
abbrev IsKept : Wait → Type 0
IsKept (waits.Whole write ordered ids) = ⊥
IsKept other = Unit {0}

-- it ends as is wanted, what is wanted is kept, and what is asked next isn't
abbrev Ends : Plan → Plan × Step → Type 0
Ends plan x = (x.0.more_to_come ≡ plan.more_to_come) × EndsAsWanted plan.more_to_come x.1 × IsKept x.0.wait

plain : (plan : Plan) (step : Step) → Speaks step → Ends plan (record plan { wait = waits.Plain }, unheard plan.more_to_come step)
plain plan step h = (refl, heard plan.more_to_come step h, tt)

told : (plan : Plan) (reply : Pairs) → Ends plan (record plan { wait = waits.Plain }, final plan reply)
told plan reply = (refl, heard plan.more_to_come (steps.Reply _) tt, tt)

answers : (plan : Plan) (reply : Pairs) → Ends plan (told_step plan reply)
answers plan reply = plain plan (steps.Reply reply) tt

single : (id : Option ℤ) (plan : Plan) (reply : Pairs) → Ends plan (end_cursor id plan reply)
single None plan reply = told plan reply
single (Some id) plan reply = (refl, tt, tt)

kills_on : (id : Option ℤ) (plan : Plan) (kills : Kills) → Ends plan (kill_next id plan kills)
kills_on None plan kills = plain plan (steps.Reply _) tt
kills_on (Some z) plan kills = (refl, tt, tt)

kill_ends : (t : Option Tree) (plan : Plan) (kills : Kills) (reply : Pairs) → Ends plan (killed t plan kills reply)
kill_ends None plan kills reply = told plan reply
kill_ends (Some t) plan kills reply = kills_on (first_id (after kills reply).left) plan (after kills reply)

error_ends : (code : Option ℤ) (plan : Plan) (reply : Pairs) → Ends plan (record plan { wait = waits.Plain }, error_step code plan reply)
error_ends None plan reply = told plan reply
error_ends (Some z) plan reply = plain plan (steps.Reply _) tt

statement_ends : (command : Option Pairs) (plan : Plan) (batch : Batch) → Ends plan (next_statement command plan batch)
statement_ends None plan batch = plain plan (steps.Reply _) tt
statement_ends (Some command) plan batch = (refl, tt, tt)

whole_ends : (code : Option ℤ) (plan : Plan) (batch : Batch) (reply : Pairs) → Ends plan (whole_step code plan batch reply)
whole_ends None plan batch reply = told plan reply
whole_ends (Some z) plan batch reply = statement_ends (next_command batch.left batch) plan batch

drop_ends : (command : Option Pairs) (plan : Plan) (ts : Items) → Ends plan (drop_next command plan ts)
drop_ends None plan ts = plain plan (steps.Reply _) tt
drop_ends (Some command) plan ts = (refl, tt, tt)

listed_ends : (ts : Option Items) (plan : Plan) (reply : Pairs) → Ends plan (drop_listed ts plan reply)
listed_ends None plan reply = told plan reply
listed_ends (Some ts) plan reply = drop_ends (drop_command plan.database ts) plan ts

dropped_ends : (gone : Bool) (plan : Plan) (ts : Items) (reply : Pairs)
    → Ends plan (if gone then drop_step plan (without_item ts 0) else (record plan { wait = waits.Plain }, final plan reply))
dropped_ends true plan ts reply = drop_ends (drop_command plan.database (without_item ts 0)) plan (without_item ts 0)
dropped_ends false plan ts reply = told plan reply

values_end : (id : Option ℤ) (plan : Plan) (d : Distinct) → Ends plan (distinct_next id plan d)
values_end None plan d = plain plan (steps.Reply _) tt
values_end (Some id) plan d = (refl, tt, tt)

distinct_ends : (ts : Option Items) (plan : Plan) (d : Distinct) (reply : Pairs) → Ends plan (distinct_on ts plan d reply)
distinct_ends None plan d reply = told plan reply
distinct_ends (Some ts) plan d reply = values_end (cursor_left reply) plan (with_documents d ts)

-- one of two
either : (b : Bool) (plan : Plan) (x y : Plan × Step) → Ends plan x → Ends plan y → Ends plan (if b then x else y)
either true plan x y h k = h
either false plan x y h k = k

modified_ends : (plan : Plan) (m : Modification) (is_new : Bool) (was : Option Pairs) (subject : Pairs) → Ends plan (modified plan m is_new was subject)
modified_ends plan m is_new was subject = either m.wants_new plan _ _ (refl, tt, tt) (answers plan _)

changed_ends_by : (subject : Option Pairs) (plan : Plan) (m : Modification) (is_new : Bool) (was : Option Pairs) (reply : Pairs)
    → Ends plan (changed_by subject plan m is_new was reply)
changed_ends_by None plan m is_new was reply = told plan reply
changed_ends_by (Some subject) plan m is_new was reply = modified_ends plan m is_new was subject

changed_ends : (code : Option ℤ) (plan : Plan) (m : Modification) (was : Option Pairs) (reply : Pairs) → Ends plan (changed code plan m was reply)
changed_ends (Some z) plan m was reply = told plan reply
changed_ends None plan m (Some ps) reply = changed_ends_by (subject_of ps) plan m false (Some ps) reply
changed_ends None plan m None reply = either m.may_insert plan _ _ (changed_ends_by (made_by reply) plan m true None reply) (answers plan _)

change_ends : (subject : Option Pairs) (plan : Plan) (m : Modification) (ps reply : Pairs) → Ends plan (change_found subject plan m ps reply)
change_ends None plan m ps reply = told plan reply
change_ends (Some subject) plan m ps reply = (refl, tt, tt)

part_ends : (part : Option Pairs) (plan : Plan) (m : Modification) (reply : Pairs) → Ends plan (found_part part plan m reply)
part_ends None plan m reply = told plan reply
part_ends (Some ps) plan m reply = change_ends (subject_of ps) plan m ps reply

none_ends : (plan : Plan) (m : Modification) → Ends plan (found_none plan m)
none_ends plan m = either m.is_removal plan _ _ (answers plan _) (refl, tt, tt)

found_ends : (ts : Option Items) (plan : Plan) (m : Modification) (reply : Pairs) → Ends plan (found ts plan m reply)
found_ends None plan m reply = told plan reply
found_ends (Some no_items) plan m reply = none_ends plan m
found_ends (Some (item t ts)) plan m reply = part_ends (part_in (Some t)) plan m reply

again_ends : (ts : Option Items) (plan : Plan) (m : Modification) (is_new : Bool) (subject reply : Pairs)
    → Ends plan (found_again ts plan m is_new subject reply)
again_ends None plan m is_new subject reply = told plan reply
again_ends (Some ts) plan m is_new subject reply = answers plan _

by_wait : (w : Wait) (plan : Plan) (reply : Pairs) → Ends plan (answered_by w plan reply)
by_wait waits.Plain plan reply = told plan reply
by_wait waits.Single plan reply = single (cursor_left reply) plan reply
by_wait (waits.Ended answer) plan reply = told plan answer
by_wait waits.Write plan reply = error_ends (refused_statement (lookup reply (codes "code"))) plan reply
by_wait (waits.Whole write ordered ids) plan reply = told plan reply
by_wait (waits.Batch batch) plan reply = whole_ends (refused_statement (lookup reply (codes "code"))) plan batch reply
by_wait (waits.Statement batch) plan reply =
    let after = after_reply batch (reworded plan.database plan.collection reply) in
    statement_ends (next_command after.left after) plan after
by_wait waits.Listed plan reply = listed_ends (batch_in (lookup reply (codes "cursor"))) plan reply
by_wait (waits.Drops ts) plan reply = dropped_ends (is_gone reply) plan ts reply
by_wait (waits.Kill kills) plan reply = kill_ends (lookup reply (codes "cursorsKilled")) plan kills reply
by_wait (waits.Collections wanted) plan reply =
    told plan (retold wanted plan.database (batch_in (lookup reply (codes "cursor"))) reply)
by_wait waits.Indexes plan reply = told plan (indexes_told reply)
by_wait waits.Explained plan reply = told plan (explained (lookup reply (codes "plan")) reply)
by_wait (waits.Found m) plan reply = found_ends (batch_in (lookup reply (codes "cursor"))) plan m reply
by_wait (waits.Changed m was) plan reply = changed_ends (refused reply) plan m was reply
by_wait (waits.Again m is_new subject) plan reply = again_ends (batch_in (lookup reply (codes "cursor"))) plan m is_new subject reply
by_wait (waits.Distinct d) plan reply = distinct_ends (documents_in (lookup reply (codes "cursor"))) plan d reply

-- ---- all of it

after_all : (more : Bool) (x : Plan × Step) (replies : List Pairs) → x.0.more_to_come ≡ more → EndsAsWanted more x.1
    → EndsAsWanted more (after_replies x replies).1
after_all more x [] kept h = h
after_all more x (reply ∷ replies) kept h =
    let on = by_wait x.0.wait x.0 reply in
    after_all more (answered x.0 reply) replies (on.0 ∙ kept) (subst (λ (b : Bool). EndsAsWanted b (answered x.0 reply).1) kept on.1)

wants : (ids : FreshIds) (more : Bool) (body : Result Pairs BodyFault) → (plan_in ids more body).more_to_come ≡ more
wants ids more (Ok body) = refl
wants ids more (Err fault) = refl

pub heard_as_wanted : IsHeardAsWanted
heard_as_wanted info message replies =
    after_all message.more_to_come (begun info message) replies (wants info.ids message.more_to_come message.body)
    (heard message.more_to_come (do_message message.form info message.body) (message_speaks message.form info message.body))

-- ---- what is refused in front, or ignored

unasked : (more : Bool) (reply : Pairs) → option_to_list (asked_by (unheard more (steps.Reply reply))) ≡ []
unasked true reply = refl
unasked false reply = refl

pub refused_asks_nothing : RefusedAsksNothing
refused_asks_nothing info number more body asked x is fault =
    ap (λ (c : Option Command). option_to_list (asked_by (unheard more (do_command c (name_of body) info body)))) is
    ∙ ap (λ (f : Option (List ℕ × Reason)). option_to_list (asked_by (unheard more (ask_unless info.ids asked f body)))) fault
    ∙ unasked more (refusal_reply x.1 x.0)

pub ignored_goes_the_same : IgnoredGoesTheSame
ignored_goes_the_same info number more command value before name t behind has_rule ignored = record {
  asks = λ replies. ap (λ (x : Plan × Step). asked_from x replies) same;
  ends = λ replies. ap (λ (x : Plan × Step). after_replies x replies) same;
}
  where
    same : begun info (message_of number more (pair command value (append before (pair name t behind))))
        ≡ begun info (message_of number more (pair command value (append before behind)))
    same =
        let plan = ignored_leaves_the_plan info.ids more command value before name t behind has_rule in
        let step = ignored_makes_no_difference info command value before name t behind ignored in
        (λ i. (plan i, unheard more (step i)))

-- ---- what is kept with what is asked

asked_still : (w : Wait) (command : Pairs) → IsKept w → asked_wait w command ≡ w
asked_still waits.Plain command h = refl
asked_still waits.Single command h = refl
asked_still (waits.Ended answer) command h = refl
asked_still waits.Write command h = refl
asked_still (waits.Whole write ordered ids) command h = absurd h
asked_still (waits.Batch batch) command h = refl
asked_still (waits.Statement batch) command h = refl
asked_still waits.Listed command h = refl
asked_still (waits.Drops ts) command h = refl
asked_still (waits.Kill kills) command h = refl
asked_still (waits.Collections wanted) command h = refl
asked_still waits.Indexes command h = refl
asked_still waits.Explained command h = refl
asked_still (waits.Found m) command h = refl
asked_still (waits.Changed m was) command h = refl
asked_still (waits.Again m is_new subject) command h = refl
asked_still (waits.Distinct d) command h = refl

pub keeps_what_is_asked : KeepsWhatIsAsked
keeps_what_is_asked = record {
  first = keeps_first;
  later = λ plan reply command.
      let next = (answered plan reply).0 in
      ap (λ (w : Wait). record next { wait = w }) (asked_still next.wait command (by_wait plan.wait plan reply).2);
}
