-- What is done first with a message of a driver: the database is asked, or the driver is answered
-- at once. A message that is refused asks nothing. A message that wants no reply gets none (MongoDB
-- wire protocol, OP_MSG, moreToCome).
use Rattle.std.specs.Prelude.{ℕ, ℤ, pos, Bool, true, false, List, [], codes, Option, Some, None}
use Rattle.std.specs.Prelude.{Result, Ok, Err}
use Rattle.std.specs.Prelude.{◌||◌, is_some, if◌then◌else◌}
use Rattle.std.specs.Option.{option_and_then, option_or}
use Rattle.bson.specs.Tree.{Tree, scalar, document, text, boolean, int64, Pairs, no_pairs, pair}
use Rattle.bson.specs.Lookup.{lookup}
use Rattle.bson.specs.Edits.{put}
use Rattle.driver_replies.specs.Distinct.{key_of, find_values}
use Rattle.driver_replies.specs.Dropping.{list_command}
use Rattle.driver_replies.specs.Modifying.{part_in, find_first}
use Rattle.driver_replies.specs.Texts.{text_or_none, collection_of}
use Rattle.driver_replies.specs.NewIds.{with_new_ids}
use Rattle.driver_replies.specs.Writes.{is_true, write_of}
use Rattle.driver_replies.specs.declared.fresh_ids.FreshIds.{FreshIds}
use Rattle.driver_replies.specs.Fields.{ok, int, words}
use Rattle.drivers.specs.Handshake.{handshake_reply, build_reply}
use Rattle.driver_fields.specs.Reasons.{refusal_reply, row_of}
use Rattle.driver_fields.specs.Cleaning.{first_refused, kept}
use Rattle.driver_fields.specs.Commands.{command_of}
use Rattle.driver_replies.specs.Cursors.{cursor_of, ids_of, first_id, kill_one}
use Rattle.drivers.specs.declared.server_info.ServerInfo.{ServerInfo}
use Rattle.driver_messages.specs.declared.message.BodyFault.{BodyFault}
use Rattle.driver_messages.specs.declared.message.BodyFault.TheVariants as faults
use Rattle.driver_messages.specs.declared.message.Form.{Form}
use Rattle.driver_messages.specs.declared.message.Form.TheVariants as forms
use Rattle.driver_messages.specs.declared.message.Message.{Message}
use Rattle.driver_fields.specs.declared.command.Asked.{Asked}
use Rattle.driver_fields.specs.declared.command.Asked.TheVariants as askeds
use Rattle.driver_fields.specs.declared.command.Command.{Command}
use Rattle.driver_fields.specs.declared.command.Command.TheVariants as commands
use Rattle.driver_fields.specs.declared.command.Own.{Own}
use Rattle.driver_fields.specs.declared.command.Own.TheVariants as owns
use Rattle.driver_fields.specs.declared.reason.Reason.{Reason}
use Rattle.driver_fields.specs.declared.reason.Reason.TheVariants as reasons
use Rattle.drivers.specs.declared.step.Step.{Step}
use Rattle.drivers.specs.declared.step.Step.TheVariants as steps

-- The database has numbers of cursors as int64.
abbrev pub ask_owner : Option ℤ → Pairs → Step
ask_owner None body = steps.Ask body
ask_owner (Some z) body = steps.AskOwner z (put body (codes "getMore") (scalar (int64 z)))

abbrev pub kill_first : Option ℤ → Pairs → Step
kill_first None body = steps.Ask body
kill_first (Some z) body = steps.AskOwner z (kill_one body z)

-- a database that is to be dropped: its collections are listed first
abbrev pub list_first : Pairs → Step
list_first body = steps.Ask (list_command (text_or_none (lookup body (codes "$db"))))

-- What is explained is a find, and is cleaned as one.
abbrev pub explain_unless : Option (List ℕ × Reason) → Pairs → Pairs → Step
explain_unless None find body =
    steps.Ask (put body (codes "explain") (document (kept askeds.Find find)))
explain_unless (Some x) find body = steps.Reply (refusal_reply x.1 x.0)

abbrev pub ask_explain : Option Tree → Pairs → Step
ask_explain (Some (document find)) body = explain_unless (first_refused askeds.Find find) find body
ask_explain other body = steps.Ask body

-- ---- a findAndModify

-- A part of it is a document that is nested no deeper than those that are stored.
abbrev pub part_fault_of : List ℕ → Option Tree → Option (List ℕ × Reason)
part_fault_of name None = None
part_fault_of name (Some t) =
    if is_some (part_in (Some t)) then None else Some (name, reasons.FieldType)

abbrev pub part_fault : List ℕ → Pairs → Option (List ℕ × Reason)
part_fault name body = part_fault_of name (lookup body name)

abbrev pub truth_fault_of : List ℕ → Option Tree → Option (List ℕ × Reason)
truth_fault_of name None = None
truth_fault_of name (Some (scalar (boolean b))) = None
truth_fault_of name (Some other) = Some (name, reasons.FieldType)

abbrev pub flag_fault : List ℕ → Pairs → Option (List ℕ × Reason)
flag_fault name body = truth_fault_of name (lookup body name)

-- It updates a document or deletes one, and what was deleted is told as it was.
abbrev pub choice_fault : Pairs → Option (List ℕ × Reason)
choice_fault body =
    if is_true (lookup body (codes "remove"))
    then (if is_some (lookup body (codes "update")) || is_true (lookup body (codes "new"))
    || is_true (lookup body (codes "upsert"))
    then Some (codes "remove", reasons.NoChoice) else None)
    else (if is_some (lookup body (codes "update"))
    then None else Some (codes "update", reasons.NoChoice))

abbrev pub parts_fault : Pairs → Option (List ℕ × Reason)
parts_fault body =
    option_or (part_fault (codes "query") body)
    (option_or (part_fault (codes "sort") body) (part_fault (codes "update") body))

abbrev pub flags_fault : Pairs → Option (List ℕ × Reason)
flags_fault body =
    option_or (flag_fault (codes "remove") body)
    (option_or (flag_fault (codes "new") body) (flag_fault (codes "upsert") body))

-- why it is refused, if it is
abbrev pub modify_fault : Pairs → Option (List ℕ × Reason)
modify_fault body =
    option_or (parts_fault body) (option_or (flags_fault body) (choice_fault body))

-- The first document is found first.
abbrev pub modify_unless : Option (List ℕ × Reason) → Pairs → Step
modify_unless None body =
    steps.Ask (find_first (text_or_none (lookup body (codes "$db"))) (collection_of body) body)
modify_unless (Some x) body = steps.Reply (refusal_reply x.1 x.0)

-- ---- a distinct

abbrev pub text_fault_of : List ℕ → Option Tree → Option (List ℕ × Reason)
text_fault_of name (Some (scalar (text s))) = None
text_fault_of name other = Some (name, reasons.FieldType)

abbrev pub text_fault : List ℕ → Pairs → Option (List ℕ × Reason)
text_fault name body = text_fault_of name (lookup body name)

abbrev pub distinct_fault : Pairs → Option (List ℕ × Reason)
distinct_fault body = option_or (text_fault (codes "key") body) (part_fault (codes "query") body)

-- The documents that match are found first, if the key is a path.
abbrev pub distinct_unless : Option (List ℕ × Reason) → Option (List (List ℕ)) → Pairs → Step
distinct_unless (Some x) path body = steps.Reply (refusal_reply x.1 x.0)
distinct_unless None None body = steps.Reply (refusal_reply reasons.NoPath (codes "key"))
distinct_unless None (Some path) body = steps.Ask (
    find_values (text_or_none (lookup body (codes "$db"))) (collection_of body) path body
    )

-- ---- commands

-- the name of a command, which is that of its first field
abbrev pub name_of : Pairs → List ℕ
name_of no_pairs = []
name_of (pair name t ps) = name

-- A document of an insert that says no `_id` gets one.
abbrev pub ask_write : FreshIds → Pairs → Step
ask_write ids body = steps.Ask (with_new_ids ids (write_of (name_of body)) body)

abbrev pub ask : FreshIds → Asked → Pairs → Step
ask ids askeds.Write body = ask_write ids body
ask ids askeds.GetMore body = ask_owner (cursor_of body) body
ask ids askeds.KillCursors body = kill_first (option_and_then first_id (ids_of body)) body
ask ids askeds.DropDatabase body = list_first body
ask ids askeds.Explain body = ask_explain (lookup body (codes "explain")) body
ask ids askeds.Modify body = modify_unless (modify_fault body) body
ask ids askeds.Distinct body = distinct_unless (distinct_fault body) (key_of body) body
ask ids other body = steps.Ask body

-- A command for the database: without the fields that it doesn't have, unless one of them is
-- refused.
abbrev pub ask_unless : FreshIds → Asked → Option (List ℕ × Reason) → Pairs → Step
ask_unless ids asked None body = ask ids asked (kept asked body)
ask_unless ids asked (Some x) body = steps.Reply (refusal_reply x.1 x.0)

-- the reply to a command that the database isn't asked
abbrev pub own_reply : Own → List ℕ → ServerInfo → Pairs
own_reply owns.Hello name info = handshake_reply true info
own_reply owns.IsMaster name info = handshake_reply false info
own_reply owns.BuildInfo name info = build_reply
own_reply owns.Session name info = ok
own_reply owns.Login name info = refusal_reply reasons.NoAuthentication name

-- a command of this name
abbrev pub do_command : Option Command → List ℕ → ServerInfo → Pairs → Step
do_command None name info body = steps.Reply (refusal_reply reasons.UnknownCommand name)
do_command (Some (commands.Own own)) name info body = steps.Reply (own_reply own name info)
do_command (Some (commands.Forwarded asked)) name info body =
    ask_unless info.ids asked (first_refused asked body) body

-- What a failed query is answered with (MongoDB wire protocol, OP_REPLY, QueryFailure).
abbrev pub failure : Pairs
failure =
    pair (codes "$err") (words (row_of reasons.UnsupportedQuery).before)
    (pair (codes "code") (int (pos (row_of reasons.UnsupportedQuery).code)) no_pairs)

-- An OP_QUERY to `admin.$cmd`, which may be a handshake (mongodb/specifications, mongodb-handshake)
-- and nothing else.
abbrev pub do_query : Option Command → ServerInfo → Step
do_query (Some (commands.Own owns.Hello)) info = steps.Reply (handshake_reply true info)
do_query (Some (commands.Own owns.IsMaster)) info = steps.Reply (handshake_reply false info)
do_query other info = steps.Fail failure

-- a message that has no document
abbrev pub do_fault : BodyFault → Step
do_fault (faults.Foreign foreign) =
    steps.Reply (refusal_reply (reasons.ForeignType foreign.kind) foreign.path)
do_fault faults.Invalid = steps.Reply (refusal_reply reasons.InvalidBson [])

abbrev pub do_message : Form → ServerInfo → Result Pairs BodyFault → Step
do_message forms.Query info body = steps.Fail failure
do_message forms.Command info (Ok body) = do_query (command_of (name_of body)) info
do_message forms.Message info (Ok body) =
    do_command (command_of (name_of body)) (name_of body) info body
do_message forms.Command info (Err fault) = do_fault fault
do_message forms.Message info (Err fault) = do_fault fault

-- A message that wants no reply gets none.
abbrev pub unheard : Bool → Step → Step
unheard true (steps.Reply reply) = steps.Silent
unheard true (steps.Fail reply) = steps.Silent
unheard more step = step

-- What is done first with a message.
abbrev pub started : ServerInfo → Message → Step
started info message = unheard message.more_to_come (do_message message.form info message.body)
