-- What is kept of a write is the command that was asked first, and it is kept with what was asked.
use Rattle.std.proofs.Common.{◌≡◌, ℕ, Bool, true, false, List, codes, Option, Some, None, refl, ap, sym, subst, ◌∙◌}
use Rattle.std.specs.Prelude.{◌==◌, if◌then◌else◌, Result, Ok, Err}
use Rattle.std.specs.Str.{bytes_eq}
use Rattle.std.proofs.lemmas.Slice.Eq.{bytes_eq-Decides}
use Rattle.bson.specs.Edits.{items_len, put}
use Rattle.bson.specs.Lookup.{lookup}
use Rattle.bson.specs.Tree.{Tree, scalar, document, array, Pairs, no_pairs, pair, Items}
use Rattle.driver_replies.specs.Cursors.{ids_of}
use Rattle.driver_replies.specs.Distinct.{distinct_of}
use Rattle.driver_replies.specs.NewIds.{insert_with_ids, with_ids, with_new_ids}
use Rattle.driver_replies.specs.Writes.{write_of, field_of, is_alone, is_ordered_in, batch_of}
use Rattle.driver_replies.specs.declared.batch.Batch.{Batch}
use Rattle.driver_replies.specs.declared.distinct.Distinct.{Distinct}
use Rattle.driver_replies.specs.declared.fresh_ids.FreshIds.{FreshIds}
use Rattle.driver_replies.specs.declared.writes.Write.{Write}
use Rattle.driver_replies.specs.declared.writes.Write.TheVariants as writes
use Rattle.driver_messages.specs.declared.message.BodyFault.{BodyFault}
use Rattle.driver_messages.specs.declared.message.Form.{Form}
use Rattle.driver_messages.specs.declared.message.Form.TheVariants as forms
use Rattle.driver_messages.specs.declared.message.Message.{Message}
use Rattle.drivers.specs.Answering.{kill_wait, distinct_kept, other_wait, wait_of, is_modification, is_single, first_plan_for, first_plan_in, first_plan}
use Rattle.drivers.specs.Answering.{batch_wait, asked_wait, with_asked, whole_write, plan_for, plan_in, plan_of}
use Rattle.driver_fields.specs.Cleaning.{is_kept, own_fields, kept_array, with_kept, kept_under, first_refused, kept}
use Rattle.driver_fields.specs.Commands.{command_of}
use Rattle.drivers.specs.Laws.{asked_by, done, AreOfCommand, AsksSameStatements}
use Rattle.driver_fields.specs.Rules.{rule_of}
use Rattle.drivers.specs.Starting.{name_of, ask_unless, do_command, do_message, do_query, started, unheard}
use Rattle.driver_fields.specs.declared.cleaning.Whose.{Whose}
use Rattle.driver_fields.specs.declared.cleaning.Whose.TheVariants as whoses
use Rattle.driver_fields.specs.declared.command.Asked.TheVariants as askeds
use Rattle.driver_fields.specs.declared.command.Command.{Command}
use Rattle.driver_fields.specs.declared.command.Command.TheVariants as commands
use Rattle.driver_fields.specs.declared.command.Own.TheVariants as owns
use Rattle.drivers.specs.declared.plan.Wait.{Wait}
use Rattle.drivers.specs.declared.plan.Wait.TheVariants as waits
use Rattle.driver_fields.specs.declared.reason.Reason.{Reason}
use Rattle.drivers.specs.declared.server_info.ServerInfo.{ServerInfo}
use Rattle.drivers.specs.declared.step.Step.{Step}
use Rattle.drivers.specs.declared.step.Step.TheVariants as steps

-- ---- where statements are kept, the command is a write

passed : (P : Wait → Type 0) (b : Bool) (x y : Wait) → (P x → ⊥) → P (if b then x else y) → P y
passed P true x y never h = absurd (never h)
passed P false x y never h = h

-- with this command it is this batch
abbrev Makes : Pairs → Batch → Wait → Type 0
Makes command batch w = asked_wait w command ≡ waits.Batch batch

kill_makes : (command : Pairs) (batch : Batch) (body : Pairs) (ids : Option Items) → Makes command batch (kill_wait body ids) → ⊥
kill_makes command batch body None e = absurd cc
kill_makes command batch body (Some ids) e = absurd cc

distinct_makes : (command : Pairs) (batch : Batch) (d : Option Distinct) → Makes command batch (distinct_kept d) → ⊥
distinct_makes command batch None e = absurd cc
distinct_makes command batch (Some d) e = absurd cc

last : (ids : FreshIds) (body command : Pairs) (batch : Batch) → Makes command batch (wait_of ids body)
    → Makes command batch (other_wait ids body (write_of (name_of body)))
last ids body command batch e =
    let name = name_of body in
    let makes = Makes command batch in
    let no_kill = passed makes (bytes_eq name (codes "killCursors")) _ _ (kill_makes command batch body (ids_of body)) e in
    let no_list = passed makes (bytes_eq name (codes "listCollections")) _ _ (λ f. absurd cc) no_kill in
    let no_indexes = passed makes (bytes_eq name (codes "listIndexes")) _ _ (λ f. absurd cc) no_list in
    let no_drop = passed makes (bytes_eq name (codes "dropDatabase")) _ _ (λ f. absurd cc) no_indexes in
    let no_explain = passed makes (bytes_eq name (codes "explain")) _ _ (λ f. absurd cc) no_drop in
    let no_modification = passed makes (is_modification name) _ _ (λ f. absurd cc) no_explain in
    let no_distinct = passed makes (bytes_eq name (codes "distinct")) _ _ (distinct_makes command batch (distinct_of body)) no_modification in
    passed makes (is_single body) _ _ (λ f. absurd cc) no_distinct

record IsOfWrite (ids : FreshIds) (body command : Pairs) (write : Write) (batch : Batch) : Type 0 where
  named : write_of (name_of body) ≡ Some write
  ordered : Bool
  same : batch_of write ordered ids command ≡ batch

of_write : (ids : FreshIds) (body command : Pairs) (batch : Batch) (write : Option Write) → write_of (name_of body) ≡ write
    → Makes command batch (other_wait ids body write) → (w : Write) × IsOfWrite ids body command w batch
of_write ids body command batch None is e = absurd cc
of_write ids body command batch (Some write) is e =
    let ordered = is_ordered_in (lookup body (codes "ordered")) in
    let made = batch_of write ordered ids command in
    let several = passed (Makes command batch) (is_alone write (lookup body (field_of write))) _ _ (λ f. absurd cc) e in
    let some : waits.Batch made ≡ waits.Batch batch =
    passed (λ (w : Wait). w ≡ waits.Batch batch) (items_len made.left == 0) _ _ (λ f. absurd cc) several in
    (write, record { named = is; ordered = ordered; same = cc })

-- ---- a write is asked under its name

record IsAskedWrite (name : List ℕ) : Type 0 where
  forwarded : command_of name ≡ Some (commands.Forwarded askeds.Write)
  stays : is_kept (whoses.Command askeds.Write) name ≡ true

insert_asked : IsAskedWrite (codes "insert")
unfolding command_of rule_of
insert_asked = record { forwarded = refl; stays = refl }

update_asked : IsAskedWrite (codes "update")
unfolding command_of rule_of
update_asked = record { forwarded = refl; stays = refl }

delete_asked : IsAskedWrite (codes "delete")
unfolding command_of rule_of
delete_asked = record { forwarded = refl; stays = refl }

asked_write : (name : List ℕ) (write : Write) → write_of name ≡ Some write → IsAskedWrite name
asked_write name write e =
    at (bytes_eq name (codes "insert")) (bytes_eq name (codes "update")) (bytes_eq name (codes "delete")) refl refl refl e
  where
    at : (a b c : Bool) → bytes_eq name (codes "insert") ≡ a → bytes_eq name (codes "update") ≡ b → bytes_eq name (codes "delete") ≡ c
        → (if a then Some writes.Insert else if b then Some writes.Update else if c then Some writes.Delete else None) ≡ Some write → IsAskedWrite name
    at true b c is f g e = subst IsAskedWrite (sym ((bytes_eq-Decides name (codes "insert")).0 is)) insert_asked
    at false true c f is g e = subst IsAskedWrite (sym ((bytes_eq-Decides name (codes "update")).0 is)) update_asked
    at false false true f g is e = subst IsAskedWrite (sym ((bytes_eq-Decides name (codes "delete")).0 is)) delete_asked
    at false false false f g h e = absurd cc

own_name : (body : Pairs) → is_kept (whoses.Command askeds.Write) (name_of body) ≡ true
    → name_of (own_fields (whoses.Command askeds.Write) body) ≡ name_of body
own_name no_pairs e = refl
own_name (pair name t ps) e =
    let left = own_fields (whoses.Command askeds.Write) ps in
    ap (λ (b : Bool). name_of (if b then pair name t left else left)) e

put_name : (ps : Pairs) (field : List ℕ) (t u : Tree) → lookup ps field ≡ Some t → name_of (put ps field u) ≡ name_of ps
put_name no_pairs field t u e = absurd cc
put_name (pair name v ps) field t u e = at (bytes_eq field name)
  where
    at : (b : Bool) → name_of (if b then pair name u ps else pair name v (put ps field u)) ≡ name
    at true = refl
    at false = refl

under_name : (whose : Whose) (field : List ℕ) (ps : Pairs) → name_of (kept_under whose field ps) ≡ name_of ps
under_name whose field ps = at (lookup ps field) refl
  where
    at : (x : Option Tree) → lookup ps field ≡ x → name_of (with_kept whose field x ps) ≡ name_of ps
    at None e = refl
    at (Some t) e = put_name ps field t (kept_array whose t) e

same_name : (body : Pairs) → is_kept (whoses.Command askeds.Write) (name_of body) ≡ true → name_of (kept askeds.Write body) ≡ name_of body
same_name body e =
    let own = own_fields (whoses.Command askeds.Write) body in
    under_name whoses.Statement (codes "deletes") (kept_under whoses.Statement (codes "updates") own)
    ∙ under_name whoses.Statement (codes "updates") own
    ∙ own_name body e

-- ---- the command that was asked first

unless : (ids : FreshIds) (refused : Option (List ℕ × Reason)) (body command : Pairs)
    → asked_by (ask_unless ids askeds.Write refused body) ≡ Some command
    → with_new_ids ids (write_of (name_of (kept askeds.Write body))) (kept askeds.Write body) ≡ command
unless ids None body command e = cc
unless ids (Some x) body command e = absurd cc

question : (info : ServerInfo) (body command : Pairs) (write : Write) → write_of (name_of body) ≡ Some write → asked_by (done info body) ≡ Some command
    → whole_write info.ids body ≡ command
question info body command write named asked =
    let is = asked_write (name_of body) write named in
    let left = kept askeds.Write body in
    sym (ap (λ (w : Option Write). with_new_ids info.ids w left) (ap write_of (same_name body is.stays)))
    ∙ unless info.ids (first_refused askeds.Write body) body command
    (sym (ap (λ (x : Option Command). asked_by (do_command x (name_of body) info body)) is.forwarded) ∙ asked)

ids_name : (ids : FreshIds) (write : Option Write) (ps : Pairs) → name_of (with_new_ids ids write ps) ≡ name_of ps
ids_name ids None ps = refl
ids_name ids (Some writes.Update) ps = refl
ids_name ids (Some writes.Delete) ps = refl
ids_name ids (Some writes.Insert) ps = at (lookup ps (codes "documents")) refl
  where
    at : (x : Option Tree) → lookup ps (codes "documents") ≡ x → name_of (insert_with_ids ids x ps) ≡ name_of ps
    at None e = refl
    at (Some (scalar s)) e = refl
    at (Some (document d)) e = refl
    at (Some (array ts)) e = put_name ps (codes "documents") (array ts) (array (with_ids ids ts)) e

pub asks_same_statements : AsksSameStatements
asks_same_statements info more body command batch asked waits_for =
    let left = kept askeds.Write body in
    let found = of_write info.ids body (whole_write info.ids body) batch (write_of (name_of body)) refl
    (last info.ids body (whole_write info.ids body) batch waits_for) in
    let write = found.0 in
    let is = found.1 in
    let same = question info body command write is.named (ap asked_by asked) in
    let whole : batch_of write is.ordered info.ids command ≡ batch =
    sym (ap (batch_of write is.ordered info.ids) same) ∙ is.same in
    let named : name_of command ≡ name_of body =
    sym (ap name_of same) ∙ ids_name info.ids (write_of (name_of body)) left ∙ same_name body (asked_write (name_of body) write is.named).stays in
    subst (AreOfCommand info.ids command) whole (record { named = ap write_of named ∙ is.named; ordered = is.ordered; made = refl })

-- ---- what is kept with what is asked

abbrev Alike : Pairs → Pairs → Wait → Type 0
Alike c d w = asked_wait w c ≡ asked_wait w d

both : (P : Wait → Type 0) (b : Bool) (x y : Wait) → P x → P y → P (if b then x else y)
both P true x y h k = h
both P false x y h k = k

kill_alike : (c d body : Pairs) (ids : Option Items) → Alike c d (kill_wait body ids)
kill_alike c d body None = refl
kill_alike c d body (Some ids) = refl

distinct_alike : (c d : Pairs) (distinct : Option Distinct) → Alike c d (distinct_kept distinct)
distinct_alike c d None = refl
distinct_alike c d (Some distinct) = refl

other_alike : (ids : FreshIds) (c d body : Pairs) (write : Option Write) → ((w : Write) → write ≡ Some w → c ≡ d) → Alike c d (other_wait ids body write)
other_alike ids c d body None same = refl
other_alike ids c d body (Some write) same =
    let ordered = is_ordered_in (lookup body (codes "ordered")) in
    both (Alike c d) (is_alone write (lookup body (field_of write))) waits.Write (waits.Whole write ordered ids) refl
    (ap (λ (command : Pairs). batch_wait (batch_of write ordered ids command)) (same write refl))

-- where they are no write's, it makes no difference
wait_alike : (ids : FreshIds) (c d body : Pairs) → ((w : Write) → write_of (name_of body) ≡ Some w → c ≡ d) → Alike c d (wait_of ids body)
wait_alike ids c d body same =
    let name = name_of body in
    let alike = Alike c d in
    both alike (bytes_eq name (codes "killCursors")) _ _ (kill_alike c d body (ids_of body))
    (both alike (bytes_eq name (codes "listCollections")) _ _ refl
    (both alike (bytes_eq name (codes "listIndexes")) _ _ refl
    (both alike (bytes_eq name (codes "dropDatabase")) _ _ refl
    (both alike (bytes_eq name (codes "explain")) _ _ refl
    (both alike (is_modification name) _ _ refl
    (both alike (bytes_eq name (codes "distinct")) _ _ (distinct_alike c d (distinct_of body))
    (both alike (is_single body) _ _ refl (other_alike ids c d body (write_of name) same))))))))

-- whether it is heard makes no difference to what is asked
asked_heard : (more : Bool) (step : Step) → asked_by (unheard more step) ≡ asked_by step
asked_heard true (steps.Ask command) = refl
asked_heard true (steps.AskOwner id command) = refl
asked_heard true (steps.Reply reply) = refl
asked_heard true (steps.Fail reply) = refl
asked_heard true steps.Silent = refl
asked_heard false (steps.Ask command) = refl
asked_heard false (steps.AskOwner id command) = refl
asked_heard false (steps.Reply reply) = refl
asked_heard false (steps.Fail reply) = refl
asked_heard false steps.Silent = refl

query_asks : (command : Option Command) (info : ServerInfo) → asked_by (do_query command info) ≡ None
query_asks None info = refl
query_asks (Some (commands.Forwarded asked)) info = refl
query_asks (Some (commands.Own owns.Hello)) info = refl
query_asks (Some (commands.Own owns.IsMaster)) info = refl
query_asks (Some (commands.Own owns.BuildInfo)) info = refl
query_asks (Some (commands.Own owns.Session)) info = refl
query_asks (Some (commands.Own owns.Login)) info = refl

pub keeps_first : (info : ServerInfo) (message : Message) (command : Pairs) → asked_by (started info message) ≡ Some command
    → with_asked (first_plan info.ids message) command ≡ plan_of info.ids message
keeps_first info message command e =
    at message.form message.body (sym (asked_heard message.more_to_come (do_message message.form info message.body)) ∙ e)
  where
    with_same : (body : Pairs) → ((w : Write) → write_of (name_of body) ≡ Some w → command ≡ whole_write info.ids body)
        → with_asked (first_plan_for info.ids message.more_to_come body) command ≡ plan_for info.ids message.more_to_come body
    with_same body same =
        ap (λ (w : Wait). record (first_plan_for info.ids message.more_to_come body) { wait = w })
        (wait_alike info.ids command (whole_write info.ids body) body same)

    at : (form : Form) (body : Result Pairs BodyFault) → asked_by (do_message form info body) ≡ Some command
        → with_asked (first_plan_in info.ids message.more_to_come body) command ≡ plan_in info.ids message.more_to_come body
    at form (Err fault) e = with_same no_pairs (λ w f. absurd cc)
    at forms.Message (Ok body) e = with_same body (λ w named. sym (question info body command w named e))
    at forms.Query (Ok body) e = absurd cc
    at forms.Command (Ok body) e =
        let never : None ≡ Some command = sym (query_asks (command_of (name_of body)) info) ∙ e in
        absurd cc
